-- A cluster at rest stands for one plain map: what each cell's keeper has of it.
use Rattle.std.proofs.Common.{◌≡◌, ◌∙◌, ◌/◌, ◌%◌, ◌<◌, ◌≤◌, ◌==◌, [], ℕ, Bool, List, None, Option, Some, ap, arith, cond, eq-eqb, false, length, mod-lt, refl, subst, sym, true}
use Rattle.std.proofs.lemmas.Bool.{cond-true}
use Rattle.std.specs.Prelude.{slice_get}
use Rattle.lego_base.specs.declared.ids.MemId.{MemId}
use Rattle.lego_base.specs.declared.records.Area.{Area}
use Rattle.lego_base.specs.declared.records.HomeEntry.{HomeEntry}
use Rattle.lego_msg.specs.Maps.{owner_of}
use Rattle.lego_msg.specs.Places.{home_of}
use Rattle.lego_msg.specs.Plain.{Plain}
use Rattle.lego_msg.specs.State.{Mem}
use Rattle.lego_msg.specs.Track.{memory_count}
use Rattle.lego_rest.specs.Parts.{Areas, Cell, Held, Home, Page, is_owner, keeps, main_part, nothing_at, plain_at, share}
use Rattle.rest_laws.proofs.Ended.{get_within}
use Rattle.cluster.specs.Standing.{StandsFor, alone}
use Rattle.cluster.specs.Whole.{Whole, track_at}
use Rattle.ex_memory.specs.Split.{cell_in, cell_of, plain_of}

module _ (w : Whole) (f : Plain) (stands : StandsFor w f) where
  abbrev n : ℕ
  n = memory_count w.shape

  -- the keeper of a cell has it
  kept : (m : ℕ) (c : Cell) → m < n → keeps n w.table.owners m c ≡ true → cell_in (slice_get w.mems m) c ≡ plain_at f c
  kept m c below keeper =
      let there = get_within w.mems m (subst (λ (k : ℕ). m < k) (sym stands.count) below) in
      ap (λ (o : Option Mem). cell_in o c) there.1
      ∙ (stands.memories m there.0 there.1).part c
      ∙ cond-true (keeps n w.table.owners m c) (plain_at f c) (nothing_at c) keeper

  home-below : (pid : ℕ) → home_of n pid < n
  home-below pid = let two = stands.machine.two in mod-lt pid (omega (arith, two))

  homes : (pid region : ℕ) → f.homes pid region ≡ (plain_of w).homes pid region
  homes pid region = sym (kept (home_of n pid) (Home pid region) (home-below pid) (eq-eqb (home_of n pid) (home_of n pid) refl))

  areas-by : (pid region : ℕ) (o : Option MemId) → owner_of w.table.owners pid region ≡ o → f.areas pid region ≡ cell_of w o (Areas pid region)
  areas-by pid region None is = stands.plain.areas pid region is
  areas-by pid region (Some o) is =
      sym (kept o.0 (Areas pid region) (stands.plain.within pid region o is) (ap (λ (x : Option MemId). is_owner o.0 x) is ∙ eq-eqb o.0 o.0 refl))

  areas : (pid region : ℕ) → f.areas pid region ≡ (plain_of w).areas pid region
  areas pid region = areas-by pid region (owner_of w.table.owners pid region) refl

  page-by : (pid vpn : ℕ) (o : Option MemId) → owner_of w.table.owners pid (vpn / 512) ≡ o → f.page pid vpn ≡ cell_of w o (Page pid vpn)
  page-by pid vpn None is = stands.plain.pages pid vpn is
  page-by pid vpn (Some o) is =
      sym (kept o.0 (Page pid vpn) (stands.plain.within pid (vpn / 512) o is) (ap (λ (x : Option MemId). is_owner o.0 x) is ∙ eq-eqb o.0 o.0 refl))

  page : (pid vpn : ℕ) → f.page pid vpn ≡ (plain_of w).page pid vpn
  page pid vpn = page-by pid vpn (owner_of w.table.owners pid (vpn / 512)) refl

  pub one_plain : f ≡ plain_of w
  one_plain = λ i. record {
    homes = λ pid region. homes pid region i;
    areas = λ pid region. areas pid region i;
    page = λ pid vpn. page pid vpn i;
    files = sym stands.disk.files i;
  }
