-- The plain map at rest is a function of what the components hold.
use Rattle.std.proofs.Common.{◌≡◌, ◌/◌, ◌<◌, ◌==◌, [], ◌∙◌, ℕ, Bool, List, None, Option, Some, ap, arith, cond, refl, slice_get, sym, true}
use Rattle.std.proofs.Math.Nat.{mod-lt}
use Rattle.std.proofs.lemmas.Bool.{eq-eqb}
use Rattle.lego_base.specs.declared.ids.MemId.{MemId}
use Rattle.lego_base.specs.declared.records.HomeEntry.{HomeEntry}
use Rattle.lego_msg.specs.Maps.{owner_of}
use Rattle.lego_msg.specs.Places.{home_of}
use Rattle.lego_msg.specs.State.{Disk, Mem}
use Rattle.lego_msg.specs.Track.{Track, memory_count}
use Rattle.lego_rest.specs.Parts.{Areas, Cell, Home, Page, share}
use Rattle.lego_rest.specs.Rest.{AtRest}
use Rattle.rest_laws.proofs.Ended.{get_within}
use Rattle.rest_laws.proofs.kinds.Asking.{owner_owns}
use Rattle.rest_laws.specs.Components.{PlainIsOfComponents, SameComponents}

module _ (t t' : Track) (rest : AtRest t) (rest' : AtRest t') (same : SameComponents t t') where
  -- the memory that keeps a cell holds it, in both tracks
  kept_same : (k : ℕ) (c : Cell) → k < memory_count t.shape → share (memory_count t'.shape) t'.owners t'.plain k c ≡ share (memory_count t.shape) t.owners t.plain k c
  kept_same k c below =
      let count = rest.count in
      let there = get_within t.mems k (omega (arith, below, count)) in
      sym ((rest'.memories k there.0 (ap (λ (mems : List Mem). slice_get mems k) same.mems ∙ there.1)).part c) ∙ (rest.memories k there.0 there.1).part c

  -- with the table and the number of memories of one of them
  alike : (k : ℕ) (c : Cell) → k < memory_count t.shape → share (memory_count t.shape) t.owners t'.plain k c ≡ share (memory_count t.shape) t.owners t.plain k c
  alike k c below = sym (λ i. share (memory_count (same.shape i)) (same.owners i) t'.plain k c) ∙ kept_same k c below

  some : 0 < memory_count t.shape
  some = let two_ = rest.machine.two in omega (arith, two_)

  homes : (pid region : ℕ) → t'.plain.homes pid region ≡ t.plain.homes pid region
  homes pid region =
      let here : (home_of (memory_count t.shape) pid == home_of (memory_count t.shape) pid) ≡ true = eq-eqb (home_of (memory_count t.shape) pid) (home_of (memory_count t.shape) pid) refl in
      sym (ap (λ (b : Bool). cond b (t'.plain.homes pid region) None) here) ∙ alike (home_of (memory_count t.shape) pid) (Home pid region) (mod-lt pid some) ∙ ap (λ (b : Bool). cond b (t.plain.homes pid region) None) here

  owners_of : (pid region : ℕ) → owner_of t'.owners pid region ≡ owner_of t.owners pid region
  owners_of pid region = ap (λ (owners : List HomeEntry). owner_of owners pid region) same.owners

  areas : (pid region : ℕ) → t'.plain.areas pid region ≡ t.plain.areas pid region
  areas pid region = by (owner_of t.owners pid region) refl
    where
      by : (o : Option MemId) → owner_of t.owners pid region ≡ o → t'.plain.areas pid region ≡ t.plain.areas pid region
      by None none = rest'.plain.areas pid region (owners_of pid region ∙ none) ∙ sym (rest.plain.areas pid region none)
      by (Some o) is =
          let owned = owner_owns t.owners pid region o is in
          sym (ap (λ (b : Bool). cond b (t'.plain.areas pid region) []) owned) ∙ alike o.0 (Areas pid region) (rest.plain.within pid region o is) ∙ ap (λ (b : Bool). cond b (t.plain.areas pid region) []) owned

  pages : (pid vpn : ℕ) → t'.plain.page pid vpn ≡ t.plain.page pid vpn
  pages pid vpn = by (owner_of t.owners pid (vpn / 512)) refl
    where
      by : (o : Option MemId) → owner_of t.owners pid (vpn / 512) ≡ o → t'.plain.page pid vpn ≡ t.plain.page pid vpn
      by None none = rest'.plain.pages pid vpn (owners_of pid (vpn / 512) ∙ none) ∙ sym (rest.plain.pages pid vpn none)
      by (Some o) is =
          let owned = owner_owns t.owners pid (vpn / 512) o is in
          sym (ap (λ (b : Bool). cond b (t'.plain.page pid vpn) None) owned) ∙ alike o.0 (Page pid vpn) (rest.plain.within pid (vpn / 512) o is) ∙ ap (λ (b : Bool). cond b (t.plain.page pid vpn) None) owned

  files : t'.plain.files ≡ t.plain.files
  files = sym rest'.disk.files ∙ ap (λ (d : Disk). d.files) same.disk ∙ rest.disk.files

  pub one_plain : t'.plain ≡ t.plain
  one_plain = λ i. record { homes = λ pid region. homes pid region i; areas = λ pid region. areas pid region i; page = λ pid vpn. pages pid vpn i; files = files i }

pub plain-is-of-components : PlainIsOfComponents
plain-is-of-components t t' rest rest' same = one_plain t t' rest rest' same
