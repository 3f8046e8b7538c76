-- The areas of a process, region by region, rise and end within user addresses.
use Rattle.std.proofs.Common.{◌≡◌, ◌∙◌, ◌⊎◌, ◌+◌, ◌-◌, ◌*◌, ◌/◌, ◌<◌, ◌≤◌, [], ◌∷◌, ◌++◌, ℕ, List, None, Option, Some, ap, arith, inl, inr, refl, subst, sym}
use Rattle.std.proofs.lemmas.Bool.{cases_eq, false≢true}
use Rattle.std.specs.List.{AllByRecursion}
use Rattle.std.specs.Prelude.{IsSome}
use Rattle.lego_base.specs.Keys.{IsAbove, Rises, is_of}
use Rattle.lego_base.specs.Space.{perms_of}
use Rattle.lego_base.specs.declared.records.Area.{Area}
use Rattle.lego_base.specs.declared.records.HomeEntry.{HomeEntry}
use Rattle.lego_base.specs.declared.sizes.TheConstants.{PAGES_END}
use Rattle.area_list.proofs.Canonical.{IsWithin, within-append}
use Rattle.area_list.proofs.Pages.{perms-hit, perms-miss}
use Rattle.area_list.specs.Runs.{end_of}
use Rattle.lego_msg.specs.Form.{IsBefore, IsRegionList}
use Rattle.lego_msg.specs.Maps.{home_key}
use Rattle.lego_msg.specs.Plain.{IsMapped, Plain}
use Rattle.cluster.proofs.Newcomers.{those_of}
use Rattle.ex_memory.proofs.Permitting.{other_region}
use Rattle.cluster.proofs.Settings.{below_number, those_rise}
use Rattle.cluster.specs.Askings.{areas_among}
use Rattle.cluster.specs.Mapping.{entries_in}
use Rattle.ex_memory.specs.Sound.{Sound}
use Rattle.ex_memory.specs.Split.{Split, plain_of}

-- entries begin with this one
abbrev Begins : HomeEntry → List HomeEntry → Type 0
Begins e [] = ⊥
Begins e (x ∷ entries) = x ≡ e

-- a list begins with this run
abbrev Starts : Area → List Area → Type 0
Starts a [] = ⊥
Starts a (b ∷ areas) = b ≡ a

-- runs of a region, the first of which begins at or above a page: where what they say is of pages below an end, they end there
fits : (region low : ℕ) (areas : List Area) → ((page : ℕ) → low ≤ page → IsSome (perms_of areas page) → page < PAGES_END) → low ≤ PAGES_END → low ≤ region * 512 + 512 → IsRegionList region areas
    → ((a : Area) → Starts a areas → low ≤ a.first.0) → (mid : ℕ) × (IsWithin low mid areas × (mid ≤ PAGES_END) × (mid ≤ region * 512 + 512) × (low ≤ mid))
fits region low [] ends few high listed starts = (low, ((omega arith, few, high, omega arith)))
fits region low (a ∷ areas) ends few high listed starts =
    let some = listed.0 in
    let lower = starts a refl in
    let last = end_of a - 1 in
    let hit = perms-hit a areas last (omega (arith, some)) (omega (arith, some)) in
    let below = ends last (omega (arith, some, lower)) (subst IsSome (sym hit) refl) in
    let top = listed.2 in
    let rest = fits region (end_of a) areas
    (λ page more is. ends page (omega (arith, some, lower, more)) (subst IsSome (sym (perms-miss a areas page (inr more))) is))
    (omega (arith, some, below)) top listed.4 (λ b is. begins a areas b listed.3 is) in
    (rest.0, ((lower, some, rest.1.0), rest.1.1, rest.1.2, (let more = rest.1.3 in omega (arith, lower, more))))
  where
    begins : (a : Area) (areas : List Area) (b : Area) → IsBefore a areas → Starts b areas → end_of a ≤ b.first.0
    begins a [] b before is = absurd is
    begins a (c ∷ areas) b before is = let less = before.0 in let same = ap (λ (x : Area). x.first.0) is in omega (arith, less, same)

module _ (f : Plain) (lists : (pid region : ℕ) → IsRegionList region (f.areas pid region)) (user : (pid vpn : ℕ) → IsMapped f pid vpn → vpn < PAGES_END) where
  -- a page of a region's list is of that region
  of_region : (region : ℕ) (areas : List Area) (page : ℕ) → IsRegionList region areas → IsSome (perms_of areas page) → page / 512 ≡ region
  of_region region areas page listed is = elim (cases_eq (page / 512) region) [
    | inl same ↦ same
    | inr differ ↦ absurd (false≢true (subst IsSome (other_region region areas page listed differ) is))
  ]

  ends_of : (pid region : ℕ) (page : ℕ) → IsSome (perms_of (f.areas pid region) page) → page < PAGES_END
  ends_of pid region page is =
      user pid page (subst (λ (r : ℕ). IsSome (perms_of (f.areas pid r) page)) (sym (of_region region (f.areas pid region) page (lists pid region) is)) is)

  starts_in : (region : ℕ) (areas : List Area) (a : Area) → IsRegionList region areas → Starts a areas → region * 512 ≤ a.first.0
  starts_in region [] a listed is = absurd is
  starts_in region (b ∷ areas) a listed is = let low = listed.1 in let same = ap (λ (x : Area). x.first.0) is in omega (arith, low, same)

  among : (pid low : ℕ) (entries : List HomeEntry) → AllByRecursion (λ (e : HomeEntry). e.pid.0 ≡ pid) entries → Rises home_key entries → ((e : HomeEntry) → Begins e entries → low ≤ e.region.0 * 512) → low ≤ PAGES_END → IsWithin low PAGES_END (areas_among f entries)
  among pid low [] mine rise first few = few
  among pid low (e ∷ entries) mine rise first few =
      let here = first e refl in
      let one = fits e.region.0 low (f.areas e.pid.0 e.region.0) (λ page more is. ends_of e.pid.0 e.region.0 page is) few (omega (arith, here)) (lists e.pid.0 e.region.0)
      (λ a is. let there = starts_in e.region.0 (f.areas e.pid.0 e.region.0) a (lists e.pid.0 e.region.0) is in omega (arith, here, there)) in
      within-append low one.0 PAGES_END (f.areas e.pid.0 e.region.0) (areas_among f entries) one.1.0
      (among pid one.0 entries mine.1 rise.1 (λ x is. next x entries is mine.0 mine.1 rise.0 one.1.2) one.1.1)
    where
      next : (x : HomeEntry) (zs : List HomeEntry) → Begins x zs → e.pid.0 ≡ pid → AllByRecursion (λ (e : HomeEntry). e.pid.0 ≡ pid) zs → IsAbove home_key e zs → {mid : ℕ} → mid ≤ e.region.0 * 512 + 512 → mid ≤ x.region.0 * 512
      next x [] is same all above high = absurd is
      next x (z ∷ zs) is same all above high =
          let less = below_number pid e z same all.0 above in
          let there = ap (λ (y : HomeEntry). y.region.0) is in
          omega (arith, less, there, high)

pub rising : (m : Split) → Sound m → (pid : ℕ) → IsWithin 0 PAGES_END (areas_among (plain_of m.whole) (entries_in (record { 0 = pid }) m.whole.table))
rising m sound pid =
    among (plain_of m.whole) sound.rests.plain.lists sound.user pid 0 (entries_in (record { 0 = pid }) m.whole.table)
    (those_of pid m.whole.table.owners) (those_rise (is_of pid) m.whole.table.owners sound.rests.plain.rise) (λ e is. omega arith) (omega arith)
