-- The regions of a mapping that have no owner get one: a memory that is there. So each region that the mapping meets has an owner.
use Rattle.std.proofs.Common.{◌≡◌, ◌⊎◌, ◌<◌, ◌≤◌, ◌+◌, ◌-◌, ◌/◌, ◌&&◌, ◌∙◌, [], ◌∷◌, ◌++◌, ℕ, Bool, List, None, Option, Some, ap, append_assoc, arith, cond, eqb, false, inl, inr, max, refl, slice_index_or, suc, sym, true, zero, ◌%◌, length}
use Rattle.std.proofs.lemmas.Bool.{cases_lt, eq-eqb, eqb-true, cases_eq}
use Rattle.std.specs.List.{AllByRecursion}
use Rattle.area_list.proofs.Canonical.{canonical-tail}
use Rattle.area_list.proofs.Pages.{page_cases, perms-miss}
use Rattle.area_list.proofs.Unique.{perms-before}
use Rattle.area_list.specs.Runs.{IsCanonical, end_of}
use Rattle.keyed_list.proofs.Listed.{find-put}
use Rattle.lego_base.specs.Keys.{find, is_of, key_at, put, put_all, same_key, those}
use Rattle.lego_base.specs.Space.{perms_of}
use Rattle.lego_base.specs.declared.ids.MemId.{MemId}
use Rattle.lego_base.specs.declared.ids.Pid.{Pid}
use Rattle.lego_base.specs.declared.ids.RegionNo.{RegionNo}
use Rattle.lego_base.specs.declared.perms.Perms.{Perms}
use Rattle.lego_base.specs.declared.records.Area.{Area}
use Rattle.lego_base.specs.declared.records.HomeEntry.{HomeEntry}
use Rattle.lego_base.specs.declared.sizes.TheConstants.{PAGES_END}
use Rattle.lego_msg.specs.Form.{RegionsRise}
use Rattle.lego_msg.specs.Maps.{home_key, owner_in, owner_of}
use Rattle.placement.specs.Owners.{Owned, entries_of, entry, in_turn, kept_none, mapped}
use Rattle.rest_laws.proofs.Truth.{both_true}
use Rattle.cluster.proofs.Granting.{adds_grow}
use Rattle.cluster.specs.Askings.{AreOwned}
use Rattle.cluster.specs.Mapping.{end_met, first_met, numbers_from, regions_from}
use Rattle.cluster.specs.Sequences.{Adds}

-- ---- regions rise

numbers_low : (n low : ℕ) (from_ : ℕ) → low ≤ from_ → AllByRecursion (λ (r : RegionNo). low ≤ r.0) (numbers_from n from_)
numbers_low zero low from_ least = tt
numbers_low (suc n) low from_ least = (least, numbers_low n low (from_ + 1) (omega (arith, least)))

regions_low : (next low : ℕ) (areas : List Area) → low ≤ next → AllByRecursion (λ (r : RegionNo). low ≤ r.0) (regions_from next areas)
regions_low next low [] least = tt
regions_low next low (a ∷ areas) least = both (end_met a - first_met next a) (first_met next a) (omega (arith, least)) (regions_low (max (first_met next a) (end_met a)) low areas (omega (arith, least)))
  where
    both : (n from_ : ℕ) → low ≤ from_ → AllByRecursion (λ (r : RegionNo). low ≤ r.0) (regions_from (max (first_met next a) (end_met a)) areas) → AllByRecursion (λ (r : RegionNo). low ≤ r.0) (numbers_from n from_ ++ regions_from (max (first_met next a) (end_met a)) areas)
    both zero from_ low_ rest = rest
    both (suc n) from_ low_ rest = (low_, both n (from_ + 1) (omega (arith, low_)) rest)

numbers_then : (n from_ : ℕ) (regions : List RegionNo) → AllByRecursion (λ (r : RegionNo). from_ + n ≤ r.0) regions → RegionsRise regions → RegionsRise (numbers_from n from_ ++ regions)
numbers_then zero from_ regions above rise = rise
numbers_then (suc n) from_ regions above rise = (least n (from_ + 1) (omega arith), numbers_then n (from_ + 1) regions (weaker regions above) rise)
  where
    weaker : (rs : List RegionNo) → AllByRecursion (λ (r : RegionNo). from_ + suc n ≤ r.0) rs → AllByRecursion (λ (r : RegionNo). from_ + 1 + n ≤ r.0) rs
    weaker [] all = tt
    weaker (r ∷ rs) all = let one = all.0 in (omega (arith, one), weaker rs all.1)

    rest : (rs : List RegionNo) → AllByRecursion (λ (r : RegionNo). from_ + suc n ≤ r.0) rs → AllByRecursion (λ (r : RegionNo). from_ < r.0) rs
    rest [] all = tt
    rest (r ∷ rs) all = let one = all.0 in (omega (arith, one), rest rs all.1)

    least : (k start : ℕ) → from_ < start → AllByRecursion (λ (r : RegionNo). from_ < r.0) (numbers_from k start ++ regions)
    least zero start less = rest regions above
    least (suc k) start less = (less, least k (start + 1) (omega (arith, less)))

pub regions_rise : (next : ℕ) (areas : List Area) → RegionsRise (regions_from next areas)
regions_rise next [] = tt
regions_rise next (a ∷ areas) = numbers_then (end_met a - first_met next a) (first_met next a) (regions_from (max (first_met next a) (end_met a)) areas)
    (regions_low (max (first_met next a) (end_met a)) (first_met next a + (end_met a - first_met next a)) areas (omega arith))
    (regions_rise (max (first_met next a) (end_met a)) areas)

-- a list of them, made from its front
pub numbers_more : (end region : ℕ) (sent new whole : List RegionNo) → region < end → sent ++ numbers_from (end - region) region ≡ whole → new ≡ sent ++ record { 0 = region } ∷ [] → new ++ numbers_from (end - (region + 1)) (region + 1) ≡ whole
numbers_more end region sent new whole less so is =
    let one_less : end - region ≡ suc (end - (region + 1)) = omega (arith, less) in
    let rest : List RegionNo = numbers_from (end - (region + 1)) (region + 1) in
    ap (λ (l : List RegionNo). l ++ rest) is ∙ append_assoc sent (record { 0 = region } ∷ []) rest ∙ ap (λ (n : ℕ). sent ++ numbers_from n region) (sym one_less) ∙ so

-- ---- and each page that is mapped is of one of them

abbrev pub HasRegion : ℕ → List RegionNo → Type 0
HasRegion region [] = ⊥
HasRegion region (r ∷ regions) = (r.0 ≡ region) ⊎ HasRegion region regions

in_numbers : (n from_ region : ℕ) (regions : List RegionNo) → from_ ≤ region → region < from_ + n → HasRegion region (numbers_from n from_ ++ regions)
in_numbers zero from_ region regions low high = absurd (omega (arith, low, high))
in_numbers (suc n) from_ region regions low high = elim (cases_eq from_ region) [
  | inl same ↦ inl same
  | inr differ ↦ inr (in_numbers n (from_ + 1) region regions (above differ) (omega (arith, high)))
]
  where
    above : (from_ ≡ region → ⊥) → from_ + 1 ≤ region
    above differ = elim (cases_lt from_ region) [
      | inl less ↦ omega (arith, less)
      | inr more ↦ absurd (differ (omega (arith, low, more)))
    ]

after_numbers : (n from_ region : ℕ) (regions : List RegionNo) → HasRegion region regions → HasRegion region (numbers_from n from_ ++ regions)
after_numbers zero from_ region regions has = has
after_numbers (suc n) from_ region regions has = inr (after_numbers n (from_ + 1) region regions has)

pub region_met : (next : ℕ) (areas : List Area) (vpn : ℕ) (perms : Perms) → IsCanonical areas → next ≤ vpn / 512 → perms_of areas vpn ≡ Some perms → HasRegion (vpn / 512) (regions_from next areas)
region_met next [] vpn perms canonical least mapped = cc mapped
region_met next (a ∷ areas) vpn perms canonical least mapped =
    let pages : 0 < a.pages = canonical.0 in
    elim (page_cases a vpn) [
      | inl inside ↦
          let low : a.first.0 ≤ vpn = inside.0 in
          let high : vpn < end_of a = inside.1 in
          in_numbers (end_met a - first_met next a) (first_met next a) (vpn / 512) (regions_from (max (first_met next a) (end_met a)) areas) (omega (arith, low, least)) (omega (arith, low, high, least))
      | inr outside ↦ later (sym (perms-miss a areas vpn outside) ∙ mapped) (λ more is. region_met (max (first_met next a) (end_met a)) areas vpn perms canonical.3 more is)
    ]
  where
    later : perms_of areas vpn ≡ Some perms → (max (first_met next a) (end_met a) ≤ vpn / 512 → perms_of areas vpn ≡ Some perms → HasRegion (vpn / 512) (regions_from (max (first_met next a) (end_met a)) areas)) → HasRegion (vpn / 512) (regions_from next (a ∷ areas))
    later is rest =
        let above : end_of a ≤ vpn = elim (cases_lt vpn (end_of a)) [
          | inl less ↦ let both : None ≡ Some perms = sym (perms-before (end_of a) PAGES_END areas vpn (canonical-tail a areas canonical) less) ∙ is in cc both
          | inr more ↦ more
        ] in
        let pages : 0 < a.pages = canonical.0 in
        elim (cases_lt (vpn / 512) (max (first_met next a) (end_met a))) [
          | inl less ↦ in_numbers (end_met a - first_met next a) (first_met next a) (vpn / 512) (regions_from (max (first_met next a) (end_met a)) areas) (omega (arith, least, above, pages)) (omega (arith, least, above, pages, less))
          | inr more ↦ after_numbers (end_met a - first_met next a) (first_met next a) (vpn / 512) (regions_from (max (first_met next a) (end_met a)) areas) (rest more is)
        ]

-- ---- an owner by turns is there

turn_below : (n : ℕ) (placement : List MemId) (i : ℕ) → 0 < n → AllByRecursion (λ (m : MemId). m.0 < n) placement → (slice_index_or placement i (record { 0 = 0 })).0 < n
turn_below n [] i some all = some
turn_below n (m ∷ placement) zero some all = all.0
turn_below n (m ∷ placement) (suc i) some all = turn_below n placement i some all.1

-- ---- the entries that come

pub put_other : (e : HomeEntry) (owners : List HomeEntry) (pid region : ℕ) → (e.region.0 ≡ region → ⊥) → owner_of (put home_key e owners) pid region ≡ owner_of owners pid region
put_other e owners pid region differ = by (same_key (home_key e) (key_at pid region)) refl (find-put home_key e owners (key_at pid region))
  where
    by : (b : Bool) → same_key (home_key e) (key_at pid region) ≡ b → find home_key (key_at pid region) (put home_key e owners) ≡ cond b (Some e) (find home_key (key_at pid region) owners) → owner_of (put home_key e owners) pid region ≡ owner_of owners pid region
    by false other found = ap owner_in found
    by true same found = absurd (differ (eqb-true e.region.0 region (both_true (eqb e.pid.0 pid) (eqb e.region.0 region) same).1))

abbrev StillFree : Pid → List HomeEntry → List HomeEntry → List RegionNo → Type 0
StillFree pid before now regions = AllByRecursion (λ (r : RegionNo). owner_of before pid.0 r.0 ≡ None → owner_of now pid.0 r.0 ≡ None) regions

free_after : (pid : Pid) (before now : List HomeEntry) (e : HomeEntry) (regions : List RegionNo) → AllByRecursion (λ (r : RegionNo). e.region.0 < r.0) regions → StillFree pid before now regions → StillFree pid before (put home_key e now) regions
free_after pid before now e [] above still = tt
free_after pid before now e (r ∷ regions) above still =
    (λ none. put_other e now pid.0 r.0 (λ same. let less = above.0 in absurd (omega (arith, same, less))) ∙ still.0 none, free_after pid before now e regions above.1 still.1)

adds_next : (n : ℕ) (placement : List MemId) (k : ℕ) (pid : Pid) (r : RegionNo) (regions : List RegionNo) (before now : List HomeEntry) (x : Option MemId) → owner_of before pid.0 r.0 ≡ x → 0 < n → AllByRecursion (λ (m : MemId). m.0 < n) placement
    → (owner_of before pid.0 r.0 ≡ None → owner_of now pid.0 r.0 ≡ None)
    → Adds n (put home_key (entry pid r (in_turn placement k)) now) (entries_of placement (k + 1) (mapped pid regions before))
    → Adds n now (entries_of placement k (mapped pid regions before))
    → Adds n now (entries_of placement k (kept_none pid r x (mapped pid regions before)))
adds_next n placement k pid r regions before now None is some all free with_it without_it = (free is, turn_below n placement (k % length placement) some all, with_it)
adds_next n placement k pid r regions before now (Some o) is some all free with_it without_it = without_it

pub adds_mapped : (n : ℕ) (placement : List MemId) (k : ℕ) (pid : Pid) (regions : List RegionNo) (before now : List HomeEntry) → 0 < n → AllByRecursion (λ (m : MemId). m.0 < n) placement → RegionsRise regions → StillFree pid before now regions → Adds n now (entries_of placement k (mapped pid regions before))
adds_mapped n placement k pid [] before now some all rise still = tt
adds_mapped n placement k pid (r ∷ regions) before now some all rise still =
    adds_next n placement k pid r regions before now (owner_of before pid.0 r.0) refl some all still.0
    (adds_mapped n placement (k + 1) pid regions before (put home_key (entry pid r (in_turn placement k)) now) some all rise.1 (free_after pid before now (entry pid r (in_turn placement k)) regions rise.0 still.1))
    (adds_mapped n placement k pid regions before now some all rise.1 still.1)

all_free_now : (pid : Pid) (owners : List HomeEntry) (regions : List RegionNo) → StillFree pid owners owners regions
all_free_now pid owners [] = tt
all_free_now pid owners (r ∷ regions) = (λ none. none, all_free_now pid owners regions)

pub adds_met : (n : ℕ) (t : Owned) (pid : Pid) (areas : List Area) → 0 < n → AllByRecursion (λ (m : MemId). m.0 < n) t.placement → Adds n t.owners (entries_of t.placement t.given (mapped pid (regions_from 0 areas) t.owners))
adds_met n t pid areas some all = adds_mapped n t.placement t.given pid (regions_from 0 areas) t.owners t.owners some all (regions_rise 0 areas) (all_free_now pid t.owners (regions_from 0 areas))

-- ---- they are found

owner_put : (e : HomeEntry) (owners : List HomeEntry) → owner_of (put home_key e owners) e.pid.0 e.region.0 ≡ Some e.owner
owner_put e owners =
    ap owner_in (find-put home_key e owners (key_at e.pid.0 e.region.0))
    ∙ (λ i. owner_in (cond (eq-eqb e.pid.0 e.pid.0 refl i && eq-eqb e.region.0 e.region.0 refl i) (Some e) (find home_key (key_at e.pid.0 e.region.0) owners)))

pub added_owned : (n : ℕ) (owners new : List HomeEntry) → Adds n owners new → AreOwned (put_all home_key new owners) new
added_owned n owners [] adds = tt
added_owned n owners (e ∷ new) adds =
    (adds_grow n (put home_key e owners) new adds.2 e.pid.0 e.region.0 e.owner (owner_put e owners), added_owned n (put home_key e owners) new adds.2)

-- ---- who is listed

abbrev pub Listed : ℕ → ℕ → List HomeEntry → Type 0
Listed pid region [] = ⊥
Listed pid region (e ∷ entries) = ((e.pid.0 ≡ pid) × (e.region.0 ≡ region)) ⊎ Listed pid region entries

pub listed_owned : (owners entries : List HomeEntry) (pid region : ℕ) → AreOwned owners entries → Listed pid region entries → (o : MemId) × (owner_of owners pid region ≡ Some o)
listed_owned owners [] pid region owned listed = absurd listed
listed_owned owners (e ∷ entries) pid region owned (inl is) = (e.owner, (λ i. owner_of owners (sym is.0 i) (sym is.1 i)) ∙ owned.0)
listed_owned owners (e ∷ entries) pid region owned (inr more) = listed_owned owners entries pid region owned.1 more

list_next : (placement : List MemId) (k : ℕ) (pid : Pid) (r : RegionNo) (regions : List RegionNo) (before : List HomeEntry) (region : ℕ) (x : Option MemId) → owner_of before pid.0 r.0 ≡ x → owner_of before pid.0 region ≡ None
    → HasRegion region (r ∷ regions)
    → (HasRegion region regions → Listed pid.0 region (entries_of placement (k + 1) (mapped pid regions before)))
    → (HasRegion region regions → Listed pid.0 region (entries_of placement k (mapped pid regions before)))
    → Listed pid.0 region (entries_of placement k (kept_none pid r x (mapped pid regions before)))
list_next placement k pid r regions before region None is none (inl same) with_it without_it = inl (refl, same)
list_next placement k pid r regions before region None is none (inr more) with_it without_it = inr (with_it more)
list_next placement k pid r regions before region (Some o) is none (inl same) with_it without_it =
    let both : Some o ≡ None = sym is ∙ ap (λ (q : ℕ). owner_of before pid.0 q) same ∙ none in cc both
list_next placement k pid r regions before region (Some o) is none (inr more) with_it without_it = without_it more

mapped_lists : (placement : List MemId) (k : ℕ) (pid : Pid) (regions : List RegionNo) (before : List HomeEntry) (region : ℕ) → owner_of before pid.0 region ≡ None → HasRegion region regions → Listed pid.0 region (entries_of placement k (mapped pid regions before))
mapped_lists placement k pid [] before region none has = absurd has
mapped_lists placement k pid (r ∷ regions) before region none has =
    list_next placement k pid r regions before region (owner_of before pid.0 r.0) refl none has
    (λ more. mapped_lists placement (k + 1) pid regions before region none more)
    (λ more. mapped_lists placement k pid regions before region none more)

-- a region that the mapping meets has an owner then
pub met_owned : (n : ℕ) (t : Owned) (pid : Pid) (areas : List Area) (region : ℕ) → Adds n t.owners (entries_of t.placement t.given (mapped pid (regions_from 0 areas) t.owners)) → HasRegion region (regions_from 0 areas) →
    (o : MemId) × (owner_of (put_all home_key (entries_of t.placement t.given (mapped pid (regions_from 0 areas) t.owners)) t.owners) pid.0 region ≡ Some o)
met_owned n t pid areas region adds has = by (owner_of t.owners pid.0 region) refl
  where
    by : (x : Option MemId) → owner_of t.owners pid.0 region ≡ x → (o : MemId) × (owner_of (put_all home_key (entries_of t.placement t.given (mapped pid (regions_from 0 areas) t.owners)) t.owners) pid.0 region ≡ Some o)
    by (Some o) is = (o, adds_grow n t.owners (entries_of t.placement t.given (mapped pid (regions_from 0 areas) t.owners)) adds pid.0 region o is)
    by None is = listed_owned (put_all home_key (entries_of t.placement t.given (mapped pid (regions_from 0 areas) t.owners)) t.owners) (entries_of t.placement t.given (mapped pid (regions_from 0 areas) t.owners)) pid.0 region
        (added_owned n t.owners (entries_of t.placement t.given (mapped pid (regions_from 0 areas) t.owners)) adds)
        (mapped_lists t.placement t.given pid (regions_from 0 areas) t.owners region is has)

-- ---- the entries of a process

those_next : (pid region : ℕ) (e : HomeEntry) (rest : List HomeEntry) (b c : Bool) → eqb e.pid.0 pid ≡ b → eqb e.region.0 region ≡ c → (o : MemId) (found : Option HomeEntry) → owner_in (cond (b && c) (Some e) found) ≡ Some o → (owner_in found ≡ Some o → Listed pid region rest) → Listed pid region (cond b (e ∷ rest) rest)
those_next pid region e rest true true one two o found is more = inl (eqb-true e.pid.0 pid one, eqb-true e.region.0 region two)
those_next pid region e rest true false one two o found is more = inr (more is)
those_next pid region e rest false c one two o found is more = more is

pub those_listed : (owners : List HomeEntry) (pid region : ℕ) (o : MemId) → owner_of owners pid region ≡ Some o → Listed pid region (those home_key (is_of pid) owners)
those_listed [] pid region o is = cc is
those_listed (e ∷ owners) pid region o is =
    those_next pid region e (those home_key (is_of pid) owners) (eqb e.pid.0 pid) (eqb e.region.0 region) refl refl o (find home_key (key_at pid region) owners) is (λ more. those_listed owners pid region o more)

pub those_of : (pid : ℕ) (owners : List HomeEntry) → AllByRecursion (λ (e : HomeEntry). e.pid.0 ≡ pid) (those home_key (is_of pid) owners)
those_of pid [] = tt
those_of pid (e ∷ owners) = by (eqb e.pid.0 pid) refl (those_of pid owners)
  where
    by : (b : Bool) → eqb e.pid.0 pid ≡ b → AllByRecursion (λ (x : HomeEntry). x.pid.0 ≡ pid) (those home_key (is_of pid) owners) → AllByRecursion (λ (x : HomeEntry). x.pid.0 ≡ pid) (cond b (e ∷ those home_key (is_of pid) owners) (those home_key (is_of pid) owners))
    by true is rest = (eqb-true e.pid.0 pid is, rest)
    by false is rest = rest
