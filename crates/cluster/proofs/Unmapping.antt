-- What the operations of an unmapping owe, and what they make of the plain map.
use Rattle.std.proofs.Common.{◌≡◌, ◌⊎◌, ◌<◌, ◌≤◌, ◌+◌, ◌-◌, ◌*◌, ◌/◌, ◌&&◌, ◌||◌, ◌∙◌, [], ◌∷◌, ◌++◌, ℕ, Bool, List, None, Option, Some, ap, arith, cond, eqb, false, inl, inr, is_some, leb, ltb, max, min, refl, subst, sym, true}
use Rattle.std.proofs.lemmas.Bool.{and_from, cases_eq, cases_lt, eq-eqb, eqb-true, le-leb, leb-true, lt-ltb, ltb-true}
use Rattle.std.proofs.lemmas.Nat.{mod_below}
use Rattle.std.specs.List.{AllByRecursion}
use Rattle.area_list.specs.Runs.{IsCanonical, cut_runs}
use Rattle.lego_base.specs.Keys.{Key, Rises, is_of, is_page_from, key_at, those}
use Rattle.lego_base.specs.Space.{perms_of}
use Rattle.lego_base.specs.declared.ids.MemId.{MemId}
use Rattle.lego_base.specs.declared.ids.Pid.{Pid}
use Rattle.lego_base.specs.declared.perms.Perms.{Perms}
use Rattle.lego_base.specs.declared.records.Area.{Area}
use Rattle.lego_base.specs.declared.records.HomeEntry.{HomeEntry}
use Rattle.lego_base.specs.declared.sizes.TheConstants.{PAGES_END}
use Rattle.lego_msg.specs.Granted.{UnmapFits}
use Rattle.lego_msg.specs.Maps.{home_key, owner_of}
use Rattle.lego_msg.specs.Places.{secondary_of}
use Rattle.lego_msg.specs.Plain.{IsMapped, Plain, with_region, without_pages}
use Rattle.lego_msg.specs.Track.{Caches}
use Rattle.lego_msg.specs.declared.operation.Operation.{Operation}
use Rattle.lego_msg.specs.declared.place.Place.{Place}
use Rattle.lego_rest.specs.Fits.{PlainFits}
use Rattle.rest_laws.proofs.Truth.{both_true}
use Rattle.cluster.proofs.Cutting.{cut_inside, cut_listed, cut_outside, listed_canonical, mapped_later, none_mapped, outside_none, range_cases, same_cut, stays_cut}
use Rattle.cluster.proofs.Newcomers.{Listed, those_listed, those_of}
use Rattle.cluster.proofs.Regionwise.{owned_met, owned_those}
use Rattle.cluster.proofs.Settings.{among_one, those_rise}
use Rattle.cluster.specs.Askings.{AreOwned, areas_among, meets, met_by}
use Rattle.cluster.specs.Logs.{is_in}
use Rattle.cluster.specs.Mapping.{listed_in}
use Rattle.cluster.specs.Sequences.{FitAll, FitEach, ReadNoLine, all_free, effects, owners_after_all}
use Rattle.cluster.specs.Unmapping.{AreParts, areas_at, has_mapped, listed_for, range_end, range_start, unmaps_from, unmaps_parts, without_range}

-- ---- ranges of pages as tests

page_from : (pid first pages p vpn : ℕ) → p ≡ pid → first ≤ vpn → vpn < first + pages → is_page_from pid first pages (key_at p vpn) ≡ true
page_from pid first pages p vpn same low high = and_from _ _ (and_from _ _ (eq-eqb p pid same) (le-leb first vpn low)) (lt-ltb vpn (first + pages) high)

from_page : (pid first pages p vpn : ℕ) → is_page_from pid first pages (key_at p vpn) ≡ true → (p ≡ pid) × (first ≤ vpn) × (vpn < first + pages)
from_page pid first pages p vpn is =
    let outer = both_true (eqb p pid && leb first vpn) (ltb vpn (first + pages)) is in
    let inner = both_true (eqb p pid) (leb first vpn) outer.0 in
    (eqb-true p pid inner.0, leb-true first vpn inner.1, ltb-true vpn (first + pages) outer.1)

differs : (a b : ℕ) → (a ≡ b → ⊥) → eqb a b ≡ false
differs a b differ = by (eqb a b) refl
  where
    by : (c : Bool) → eqb a b ≡ c → c ≡ false
    by true e = absurd (differ (eqb-true a b e))
    by false e = refl

never_true : (b : Bool) → (b ≡ true → ⊥) → b ≡ false
never_true true never = absurd (never refl)
never_true false never = refl

-- ---- the regions that a range meets

never_mapped : (lo hi : ℕ) (areas : List Area) → hi ≤ lo → has_mapped lo hi areas ≡ false
never_mapped lo hi [] none = refl
never_mapped lo hi (a ∷ areas) none = mapped_later lo hi a areas (omega (arith, none)) ∙ never_mapped lo hi areas none

-- a range that has a mapped page has a page
some_mapped : (lo hi : ℕ) (areas : List Area) → has_mapped lo hi areas ≡ true → lo < hi
some_mapped lo hi areas some = elim (cases_lt lo hi) [
  | inl less ↦ less
  | inr more ↦ let both : true ≡ false = sym some ∙ never_mapped lo hi areas more in cc both
]

meets_range : (first pages : ℕ) (e : HomeEntry) → range_start first e < range_end first pages e → meets (first * 4096) (pages * 4096) e ≡ true
meets_range first pages e met =
    let one = lt-ltb 0 (pages * 4096) (omega (arith, met)) in
    let two = lt-ltb (first * 4096) ((e.region.0 + 1) * 2097152) (omega (arith, met)) in
    let three = lt-ltb (e.region.0 * 2097152) (first * 4096 + pages * 4096) (omega (arith, met)) in
    λ i. one i && two i && three i

range_meets : (first pages : ℕ) (e : HomeEntry) → meets (first * 4096) (pages * 4096) e ≡ true → range_start first e < range_end first pages e
range_meets first pages e is =
    let outer = both_true (ltb 0 (pages * 4096) && ltb (first * 4096) ((e.region.0 + 1) * 2097152)) (ltb (e.region.0 * 2097152) (first * 4096 + pages * 4096)) is in
    let inner = both_true (ltb 0 (pages * 4096)) (ltb (first * 4096) ((e.region.0 + 1) * 2097152)) outer.0 in
    let one = ltb-true 0 (pages * 4096) inner.0 in
    let two = ltb-true (first * 4096) ((e.region.0 + 1) * 2097152) inner.1 in
    let three = ltb-true (e.region.0 * 2097152) (first * 4096 + pages * 4096) outer.1 in
    omega (arith, one, two, three)

abbrev Met : ℕ → ℕ → HomeEntry → Type 0
Met first pages e = range_start first e < range_end first pages e

pub all_met : (first pages : ℕ) (entries : List HomeEntry) → AllByRecursion (Met first pages) (met_by (first * 4096) (pages * 4096) entries)
all_met first pages [] = tt
all_met first pages (e ∷ entries) = by (meets (first * 4096) (pages * 4096) e) refl (all_met first pages entries)
  where
    by : (b : Bool) → meets (first * 4096) (pages * 4096) e ≡ b → AllByRecursion (Met first pages) (met_by (first * 4096) (pages * 4096) entries) → AllByRecursion (Met first pages) (cond b (e ∷ met_by (first * 4096) (pages * 4096) entries) (met_by (first * 4096) (pages * 4096) entries))
    by true is rest = (range_meets first pages e is, rest)
    by false is rest = rest

met_all : (P : HomeEntry → Type 0) (address n : ℕ) (entries : List HomeEntry) → AllByRecursion P entries → AllByRecursion P (met_by address n entries)
met_all P address n [] all = tt
met_all P address n (e ∷ entries) all = by (meets address n e) (met_all P address n entries all.1)
  where
    by : (b : Bool) → AllByRecursion P (met_by address n entries) → AllByRecursion P (cond b (e ∷ met_by address n entries) (met_by address n entries))
    by true rest = (all.0, rest)
    by false rest = rest

abbrev is_met : ℕ → ℕ → Key → Bool
is_met address n k = ltb 0 n && ltb address ((k.number + 1) * 2097152) && ltb (k.number * 2097152) (address + n)

met_those : (address n : ℕ) (entries : List HomeEntry) → those home_key (is_met address n) entries ≡ met_by address n entries
met_those address n [] = refl
met_those address n (e ∷ entries) = ap (λ (l : List HomeEntry). cond (meets address n e) (e ∷ l) l) (met_those address n entries)

met_rises : (address n : ℕ) (entries : List HomeEntry) → Rises home_key entries → Rises home_key (met_by address n entries)
met_rises address n entries rise = subst (Rises home_key) (met_those address n entries) (those_rise (is_met address n) entries rise)

met_listed : (first pages pid region : ℕ) (entries : List HomeEntry) → max first (region * 512) < min (first + pages) ((region + 1) * 512) → Listed pid region entries → Listed pid region (met_by (first * 4096) (pages * 4096) entries)
met_listed first pages pid region [] met listed = absurd listed
met_listed first pages pid region (e ∷ entries) met (inl is) =
    subst (Listed pid region) (ap (λ (b : Bool). cond b (e ∷ met_by (first * 4096) (pages * 4096) entries) (met_by (first * 4096) (pages * 4096) entries)) (sym (meets_range first pages e (subst (λ (r : ℕ). max first (r * 512) < min (first + pages) ((r + 1) * 512)) (sym is.1) met)))) (inl is)
met_listed first pages pid region (e ∷ entries) met (inr more) = by (meets (first * 4096) (pages * 4096) e) (met_listed first pages pid region entries met more)
  where
    by : (b : Bool) → Listed pid region (met_by (first * 4096) (pages * 4096) entries) → Listed pid region (cond b (e ∷ met_by (first * 4096) (pages * 4096) entries) (met_by (first * 4096) (pages * 4096) entries))
    by true rest = inr rest
    by false rest = rest

-- ---- whatever is known of the areas

either_part : (Q : List Operation → Type 0) (n : ℕ) (e : HomeEntry) (lo hi : ℕ) (areas : List Area) (more : List Operation) (b : Bool) → (b ≡ false → Q more) → (b ≡ true → Q (unmaps_from n e lo hi areas ++ more)) → Q (cond b (unmaps_from n e lo hi areas) [] ++ more)
either_part Q n e lo hi areas more true skip cut = cut refl
either_part Q n e lo hi areas more false skip cut = skip refl

module _ (n : ℕ) (areas : HomeEntry → List Area) (first pages : ℕ) where
  pub parts_lines : (entries : List HomeEntry) → ReadNoLine (unmaps_parts n areas first pages entries)
  parts_lines [] = tt
  parts_lines (e ∷ entries) = either_part ReadNoLine n e (range_start first e) (range_end first pages e) (areas e) (unmaps_parts n areas first pages entries) (has_mapped (range_start first e) (range_end first pages e) (areas e))
      (λ none. parts_lines entries) (λ some. (tt, (tt, parts_lines entries)))

  pub parts_cached : (entries : List HomeEntry) (by : Place) (caches : Caches) → FitEach caches by (unmaps_parts n areas first pages entries)
  parts_cached [] by caches = tt
  parts_cached (e ∷ entries) by caches = either_part (FitEach caches by) n e (range_start first e) (range_end first pages e) (areas e) (unmaps_parts n areas first pages entries) (has_mapped (range_start first e) (range_end first pages e) (areas e))
      (λ none. parts_cached entries by caches) (λ some. (tt, (tt, parts_cached entries by (record caches { filled = None }))))

  pub parts_owned : (entries owners : List HomeEntry) → owners_after_all (all_free (unmaps_parts n areas first pages entries)) owners ≡ owners
  parts_owned [] owners = refl
  parts_owned (e ∷ entries) owners = either_part (λ (l : List Operation). owners_after_all (all_free l) owners ≡ owners) n e (range_start first e) (range_end first pages e) (areas e) (unmaps_parts n areas first pages entries) (has_mapped (range_start first e) (range_end first pages e) (areas e))
      (λ none. parts_owned entries owners) (λ some. parts_owned entries owners)

-- ---- over a plain map that fits
record Beside (g h : Plain) : Type 0 where
  homes : h.homes ≡ g.homes
  files : h.files ≡ g.files

module _ (n : ℕ) (owners : List HomeEntry) (f : Plain) (pid first pages : ℕ) (fits : PlainFits n owners f) (most : first + pages ≤ PAGES_END) (some : 0 < n) where
  abbrev low : HomeEntry → ℕ
  low e = range_start first e

  abbrev high : HomeEntry → ℕ
  high e = range_end first pages e

  abbrev IsMet : HomeEntry → Type 0
  IsMet e = low e < high e

  abbrev IsMine : HomeEntry → Type 0
  IsMine e = e.pid.0 ≡ pid

  abbrev has_some : HomeEntry → Bool
  has_some e = has_mapped (low e) (high e) (areas_at f e)

  abbrev cut_at : HomeEntry → List Area
  cut_at e = cut_runs (low e) (high e - low e) (areas_at f e)

  abbrev cut_from : ℕ → ℕ → List Area
  cut_from p r = cut_runs first pages (f.areas p r)

  abbrev parts : List HomeEntry → List Operation
  parts entries = unmaps_parts n (areas_at f) first pages entries

  -- the plain map once the pages went from a region
  abbrev after : HomeEntry → Plain → Plain
  after e g = without_pages e.pid.0 (low e) (high e - low e) (with_region e.pid.0 e.region.0 (cut_at e) g)

  room : (e : HomeEntry) → IsMet e → e.region.0 * 512 + 512 ≤ PAGES_END
  room e met = omega (arith, met, most)

  canonical_at : (e : HomeEntry) → IsMet e → IsCanonical (areas_at f e)
  canonical_at e met = listed_canonical e.region.0 (areas_at f e) (room e met) (fits.lists e.pid.0 e.region.0)

  ends_within : (e : HomeEntry) → IsMet e → low e + (high e - low e) ≤ PAGES_END
  ends_within e met = omega (arith, met, most)

  whole_cut : (e : HomeEntry) → IsMet e → cut_at e ≡ cut_from e.pid.0 e.region.0
  whole_cut e met = same_cut e.region.0 first pages (low e) (high e) (areas_at f e) most (room e met) (fits.lists e.pid.0 e.region.0) refl refl met

  -- ---- what is owed: of pages outside the range the areas say the same all the way
  abbrev IsSameOutside : Plain → Type 0
  IsSameOutside g = (r vpn : ℕ) → vpn / 512 ≡ r → (vpn < first) ⊎ (first + pages ≤ vpn) → perms_of (g.areas pid r) vpn ≡ perms_of (f.areas pid r) vpn

  narrower : (e : HomeEntry) (vpn : ℕ) → IsMet e → (vpn < first) ⊎ (first + pages ≤ vpn) → (vpn < low e) ⊎ (low e + (high e - low e) ≤ vpn)
  narrower e vpn met (inl below_) = inl (omega (arith, below_))
  narrower e vpn met (inr above_) = inr (omega (arith, above_, met))

  wider : (e : HomeEntry) (vpn : ℕ) → vpn / 512 ≡ e.region.0 → (vpn < low e) ⊎ (high e ≤ vpn) → (vpn < first) ⊎ (first + pages ≤ vpn)
  wider e vpn here (inl below_) = inl (omega (arith, below_, here))
  wider e vpn here (inr above_) = inr (omega (arith, above_, here))

  still_outside : (e : HomeEntry) (vpn : ℕ) → IsMet e → (vpn < low e) ⊎ (high e ≤ vpn) → (vpn < low e) ⊎ (low e + (high e - low e) ≤ vpn)
  still_outside e vpn met (inl below_) = inl below_
  still_outside e vpn met (inr above_) = inr (omega (arith, above_, met))

  same_after : (e : HomeEntry) (g : Plain) → IsMine e → IsMet e → IsSameOutside g → IsSameOutside (after e g)
  same_after e g mine met was r vpn here out = by (eqb e.pid.0 pid && eqb e.region.0 r) refl
    where
      by : (b : Bool) → (eqb e.pid.0 pid && eqb e.region.0 r) ≡ b → perms_of (cond b (cut_at e) (g.areas pid r)) vpn ≡ perms_of (f.areas pid r) vpn
      by true is =
          let region = eqb-true e.region.0 r (both_true (eqb e.pid.0 pid) (eqb e.region.0 r) is).1 in
          cut_outside (low e) (high e - low e) (areas_at f e) vpn (ends_within e met) (canonical_at e met) (narrower e vpn met out) ∙ (λ i. perms_of (f.areas (mine i) (region i)) vpn)
      by false is = was r vpn here out

  part_fits : (e : HomeEntry) (g : Plain) → owner_of owners e.pid.0 e.region.0 ≡ Some e.owner → IsMine e → IsMet e → IsSameOutside g → UnmapFits owners g e.pid.0 e.region.0 (low e) (high e - low e) (cut_at e) e.owner
  part_fits e g owned mine met was = record {
    owned = owned;
    form = cut_listed e.region.0 (low e) (high e) (areas_at f e) met (omega arith) (omega arith) (room e met) (fits.lists e.pid.0 e.region.0);
    within = (omega arith, omega (arith, met));
    inside = λ vpn is. let at = from_page e.pid.0 (low e) (high e - low e) e.pid.0 vpn is in cut_inside (low e) (high e - low e) (areas_at f e) vpn (ends_within e met) (canonical_at e met) at.1 at.2;
    outside = λ vpn here is. elim (range_cases (low e) (high e) vpn) [
      | inl inside ↦
          let from_ = inside.0 in
          let to = inside.1 in
          let both : true ≡ false = sym (page_from e.pid.0 (low e) (high e - low e) e.pid.0 vpn refl from_ (omega (arith, from_, to))) ∙ is in
          cc both
      | inr out ↦
          cut_outside (low e) (high e - low e) (areas_at f e) vpn (ends_within e met) (canonical_at e met) (still_outside e vpn met out)
          ∙ sym (subst (λ (p : ℕ). perms_of (g.areas p e.region.0) vpn ≡ perms_of (f.areas p e.region.0) vpn) (sym mine) (was e.region.0 vpn here (wider e vpn here out)))
    ];
  }

  parts_fit : (entries : List HomeEntry) (g : Plain) (drained : List ℕ) → AreOwned owners entries → AllByRecursion IsMine entries → AllByRecursion IsMet entries → IsSameOutside g → FitAll n owners g drained (parts entries)
  parts_fit [] g drained owned mine met was = tt
  parts_fit (e ∷ entries) g drained owned mine met was =
      let s : ℕ = secondary_of n e.owner.0 in
      either_part (FitAll n owners g drained) n e (low e) (high e) (areas_at f e) (parts entries) (has_some e)
      (λ none. parts_fit entries g drained owned.1 mine.1 met.1 was)
      (λ some_. (tt, mod_below (e.owner.0 + 1) n some, tt, tt, (tt, tt, part_fits e g owned.0 mine.0 met.0 was, ap (λ (b : Bool). b || is_in s drained) (eq-eqb s s refl), parts_fit entries (after e g) (s ∷ drained) owned.1 mine.1 met.1 (same_after e g mine.0 met.0 was))))

  -- ---- what they make of the plain map: where no page of the range is mapped there is nothing to cut
  nothing_cut : (p r : ℕ) → has_mapped (max first (r * 512)) (min (first + pages) ((r + 1) * 512)) (f.areas p r) ≡ false → cut_from p r ≡ f.areas p r
  nothing_cut p r none = stays_cut r first pages (f.areas p r) most (fits.lists p r) (λ vpn from_ to. elim (cases_eq (vpn / 512) r) [
    | inl here ↦ none_mapped (max first (r * 512)) (min (first + pages) ((r + 1) * 512)) (f.areas p r) vpn none (omega (arith, from_, here)) (omega (arith, to, here))
    | inr other ↦ outside_none r (f.areas p r) vpn (fits.lists p r) other
  ])

  parts_beside : (entries : List HomeEntry) (g : Plain) → Beside g (effects (parts entries) g)
  parts_beside [] g = record { homes = refl; files = refl }
  parts_beside (e ∷ entries) g = either_part (λ (l : List Operation). Beside g (effects l g)) n e (low e) (high e) (areas_at f e) (parts entries) (has_some e)
      (λ none. parts_beside entries g)
      (λ some_. let rest = parts_beside entries (after e g) in record { homes = rest.homes; files = rest.files })

  -- areas
  parts_keep : (entries : List HomeEntry) (g : Plain) (p r : ℕ) → AllByRecursion IsMet entries → g.areas p r ≡ cut_from p r → (effects (parts entries) g).areas p r ≡ cut_from p r
  parts_keep [] g p r met is = is
  parts_keep (e ∷ entries) g p r met is = either_part (λ (l : List Operation). (effects l g).areas p r ≡ cut_from p r) n e (low e) (high e) (areas_at f e) (parts entries) (has_some e)
      (λ none. parts_keep entries g p r met.1 is)
      (λ some_. parts_keep entries (after e g) p r met.1 (by (eqb e.pid.0 p && eqb e.region.0 r) refl))
    where
      by : (b : Bool) → (eqb e.pid.0 p && eqb e.region.0 r) ≡ b → cond b (cut_at e) (g.areas p r) ≡ cut_from p r
      by true same =
          let both = both_true (eqb e.pid.0 p) (eqb e.region.0 r) same in
          whole_cut e met.0 ∙ (λ i. cut_from (eqb-true e.pid.0 p both.0 i) (eqb-true e.region.0 r both.1 i))
      by false other = is

  parts_other : (entries : List HomeEntry) (g : Plain) (p r : ℕ) → (pid ≡ p → ⊥) → AllByRecursion IsMine entries → (effects (parts entries) g).areas p r ≡ g.areas p r
  parts_other [] g p r differ mine = refl
  parts_other (e ∷ entries) g p r differ mine = either_part (λ (l : List Operation). (effects l g).areas p r ≡ g.areas p r) n e (low e) (high e) (areas_at f e) (parts entries) (has_some e)
      (λ none. parts_other entries g p r differ mine.1)
      (λ some_. parts_other entries (after e g) p r differ mine.1 ∙ ap (λ (b : Bool). cond (b && eqb e.region.0 r) (cut_at e) (g.areas p r)) (differs e.pid.0 p (λ is. differ (sym mine.0 ∙ is))))

  parts_give : (entries : List HomeEntry) (g : Plain) (p r : ℕ) → AllByRecursion IsMet entries → Listed p r entries → (g.areas p r ≡ f.areas p r) ⊎ (g.areas p r ≡ cut_from p r) → (effects (parts entries) g).areas p r ≡ cut_from p r
  parts_give [] g p r met listed was = absurd listed
  parts_give (e ∷ entries) g p r met (inl is) was = either_part (λ (l : List Operation). (effects l g).areas p r ≡ cut_from p r) n e (low e) (high e) (areas_at f e) (parts entries) (has_some e)
      (λ none. parts_keep entries g p r met.1 (already was (subst (λ (k : ℕ × ℕ). cut_from k.0 k.1 ≡ f.areas k.0 k.1) (λ i. (is.0 i, is.1 i)) (nothing_cut e.pid.0 e.region.0 none))))
      (λ some_. parts_keep entries (after e g) p r met.1 ((λ i. cond (eq-eqb e.pid.0 p is.0 i && eq-eqb e.region.0 r is.1 i) (cut_at e) (g.areas p r)) ∙ whole_cut e met.0 ∙ (λ i. cut_from (is.0 i) (is.1 i))))
    where
      already : (g.areas p r ≡ f.areas p r) ⊎ (g.areas p r ≡ cut_from p r) → cut_from p r ≡ f.areas p r → g.areas p r ≡ cut_from p r
      already (inl before) same = before ∙ sym same
      already (inr after_) same = after_
  parts_give (e ∷ entries) g p r met (inr more) was = either_part (λ (l : List Operation). (effects l g).areas p r ≡ cut_from p r) n e (low e) (high e) (areas_at f e) (parts entries) (has_some e)
      (λ none. parts_give entries g p r met.1 more was)
      (λ some_. parts_give entries (after e g) p r met.1 more (by (eqb e.pid.0 p && eqb e.region.0 r) refl was))
    where
      by : (b : Bool) → (eqb e.pid.0 p && eqb e.region.0 r) ≡ b → (g.areas p r ≡ f.areas p r) ⊎ (g.areas p r ≡ cut_from p r) → (cond b (cut_at e) (g.areas p r) ≡ f.areas p r) ⊎ (cond b (cut_at e) (g.areas p r) ≡ cut_from p r)
      by true same either =
          let both = both_true (eqb e.pid.0 p) (eqb e.region.0 r) same in
          inr (whole_cut e met.0 ∙ (λ i. cut_from (eqb-true e.pid.0 p both.0 i) (eqb-true e.region.0 r both.1 i)))
      by false other either = either

  -- pages
  parts_stay : (entries : List HomeEntry) (g : Plain) (p vpn : ℕ) → AllByRecursion IsMine entries → is_page_from pid first pages (key_at p vpn) ≡ false → (effects (parts entries) g).page p vpn ≡ g.page p vpn
  parts_stay [] g p vpn mine out = refl
  parts_stay (e ∷ entries) g p vpn mine out = either_part (λ (l : List Operation). (effects l g).page p vpn ≡ g.page p vpn) n e (low e) (high e) (areas_at f e) (parts entries) (has_some e)
      (λ none. parts_stay entries g p vpn mine.1 out)
      (λ some_. parts_stay entries (after e g) p vpn mine.1 out ∙ ap (λ (b : Bool). cond b None (g.page p vpn)) (never_true (is_page_from e.pid.0 (low e) (high e - low e) (key_at p vpn)) never))
    where
      never : is_page_from e.pid.0 (low e) (high e - low e) (key_at p vpn) ≡ true → ⊥
      never is =
          let at = from_page e.pid.0 (low e) (high e - low e) p vpn is in
          let from_ = at.1 in
          let to = at.2 in
          let both : true ≡ false = sym (page_from pid first pages p vpn (at.0 ∙ mine.0) (omega (arith, from_)) (omega (arith, from_, to))) ∙ out in
          cc both

  parts_none : (entries : List HomeEntry) (g : Plain) (p vpn : ℕ) → g.page p vpn ≡ None → (effects (parts entries) g).page p vpn ≡ None
  parts_none [] g p vpn is = is
  parts_none (e ∷ entries) g p vpn is = either_part (λ (l : List Operation). (effects l g).page p vpn ≡ None) n e (low e) (high e) (areas_at f e) (parts entries) (has_some e)
      (λ none. parts_none entries g p vpn is)
      (λ some_. parts_none entries (after e g) p vpn (by (is_page_from e.pid.0 (low e) (high e - low e) (key_at p vpn))))
    where
      by : (b : Bool) → cond b None (g.page p vpn) ≡ None
      by true = refl
      by false = is

  parts_gone : (entries : List HomeEntry) (g : Plain) (p vpn : ℕ) → Listed p (vpn / 512) entries → first ≤ vpn → vpn < first + pages → has_mapped (max first (vpn / 512 * 512)) (min (first + pages) ((vpn / 512 + 1) * 512)) (f.areas p (vpn / 512)) ≡ true → (effects (parts entries) g).page p vpn ≡ None
  parts_gone [] g p vpn listed from_ to there = absurd listed
  parts_gone (e ∷ entries) g p vpn (inl is) from_ to there = either_part (λ (l : List Operation). (effects l g).page p vpn ≡ None) n e (low e) (high e) (areas_at f e) (parts entries) (has_some e)
      (λ none.
      let both : true ≡ false = sym there ∙ (λ i. has_mapped (max first (sym is.1 i * 512)) (min (first + pages) ((sym is.1 i + 1) * 512)) (f.areas (sym is.0 i) (sym is.1 i))) ∙ none in
      cc both)
      (λ some_.
      let here = is.1 in
      parts_none entries (after e g) p vpn (ap (λ (b : Bool). cond b None (g.page p vpn)) (page_from e.pid.0 (low e) (high e - low e) p vpn (sym is.0) (omega (arith, from_, here)) (omega (arith, from_, to, here)))))
  parts_gone (e ∷ entries) g p vpn (inr more) from_ to there = either_part (λ (l : List Operation). (effects l g).page p vpn ≡ None) n e (low e) (high e) (areas_at f e) (parts entries) (has_some e)
      (λ none. parts_gone entries g p vpn more from_ to there)
      (λ some_. parts_gone entries (after e g) p vpn more from_ to there)

-- ---- over all regions that the range meets
module _ (n : ℕ) (owners : List HomeEntry) (f : Plain) (pid : Pid) (first pages : ℕ) (fits : PlainFits n owners f) (most : first + pages ≤ PAGES_END) (some : 0 < n) where
  abbrev mine_all : List HomeEntry
  mine_all = those home_key (is_of pid.0) owners

  abbrev met : List HomeEntry
  met = met_by (first * 4096) (pages * 4096) mine_all

  abbrev left : Plain
  left = effects (unmaps_parts n (areas_at f) first pages met) f

  met_mine : AllByRecursion (λ (e : HomeEntry). e.pid.0 ≡ pid.0) met
  met_mine = met_all (λ (e : HomeEntry). e.pid.0 ≡ pid.0) (first * 4096) (pages * 4096) mine_all (those_of pid.0 owners)

  abbrev has_some_in : ℕ → Bool
  has_some_in r = has_mapped (max first (r * 512)) (min (first + pages) ((r + 1) * 512)) (f.areas pid.0 r)

  -- each region with a mapped page in the range is among them
  some_listed : (r : ℕ) → has_some_in r ≡ true → Listed pid.0 r met
  some_listed r is = met_listed first pages pid.0 r mine_all (some_mapped (max first (r * 512)) (min (first + pages) ((r + 1) * 512)) (f.areas pid.0 r) is) (by (owner_of owners pid.0 r) refl)
    where
      by : (x : Option MemId) → owner_of owners pid.0 r ≡ x → Listed pid.0 r mine_all
      by (Some o) owned = those_listed owners pid.0 r o owned
      by None none =
          let both : true ≡ false = sym is ∙ ap (λ (areas : List Area). has_mapped (max first (r * 512)) (min (first + pages) ((r + 1) * 512)) areas) (fits.areas pid.0 r none) in
          cc both

  cut_mine : (r : ℕ) → left.areas pid.0 r ≡ cut_runs first pages (f.areas pid.0 r)
  cut_mine r = by (has_some_in r) refl
    where
      by : (b : Bool) → has_some_in r ≡ b → left.areas pid.0 r ≡ cut_runs first pages (f.areas pid.0 r)
      by true is = parts_give n owners f pid.0 first pages fits most some met f pid.0 r (all_met first pages mine_all) (some_listed r is) (inl refl)
      by false is = parts_keep n owners f pid.0 first pages fits most some met f pid.0 r (all_met first pages mine_all) (sym (nothing_cut n owners f pid.0 first pages fits most some pid.0 r is))

  each_areas : (p r : ℕ) → left.areas p r ≡ cond (eqb pid.0 p) (cut_runs first pages (f.areas p r)) (f.areas p r)
  each_areas p r = elim (cases_eq pid.0 p) [
    | inl same ↦ subst (λ (q : ℕ). left.areas q r ≡ cut_runs first pages (f.areas q r)) same (cut_mine r) ∙ ap (λ (b : Bool). cond b (cut_runs first pages (f.areas p r)) (f.areas p r)) (sym (eq-eqb pid.0 p same))
    | inr differ ↦ parts_other n owners f pid.0 first pages fits most some met f p r differ met_mine ∙ ap (λ (b : Bool). cond b (cut_runs first pages (f.areas p r)) (f.areas p r)) (sym (differs pid.0 p differ))
  ]

  page_gone : (p vpn : ℕ) → p ≡ pid.0 → first ≤ vpn → vpn < first + pages → left.page p vpn ≡ None
  page_gone p vpn same from_ to = by (f.page p vpn) refl
    where
      there : (bytes : List ℕ) → f.page p vpn ≡ Some bytes → has_some_in (vpn / 512) ≡ true
      there bytes is = by (has_some_in (vpn / 512)) refl
        where
          mapped : IsMapped f pid.0 vpn
          mapped = subst (λ (q : ℕ). IsMapped f q vpn) same (fits.mapped p vpn (ap (λ (x : Option (List ℕ)). is_some x) is))

          by : (b : Bool) → has_some_in (vpn / 512) ≡ b → b ≡ true
          by true at = refl
          by false none =
              let unmapped = none_mapped (max first (vpn / 512 * 512)) (min (first + pages) ((vpn / 512 + 1) * 512)) (f.areas pid.0 (vpn / 512)) vpn none (omega (arith, from_)) (omega (arith, to)) in
              let both : is_some {T = Perms} None ≡ true = subst (λ (x : Option Perms). is_some x ≡ true) unmapped mapped in
              cc both

      by : (x : Option (List ℕ)) → f.page p vpn ≡ x → left.page p vpn ≡ None
      by None is = parts_none n owners f pid.0 first pages fits most some met f p vpn is
      by (Some bytes) is =
          let at = there bytes is in
          parts_gone n owners f pid.0 first pages fits most some met f p vpn (subst (λ (q : ℕ). Listed q (vpn / 512) met) (sym same) (some_listed (vpn / 512) at)) from_ to
          (subst (λ (q : ℕ). has_mapped (max first (vpn / 512 * 512)) (min (first + pages) ((vpn / 512 + 1) * 512)) (f.areas q (vpn / 512)) ≡ true) (sym same) at)

  each_page : (p vpn : ℕ) → left.page p vpn ≡ cond (is_page_from pid.0 first pages (key_at p vpn)) None (f.page p vpn)
  each_page p vpn = by (is_page_from pid.0 first pages (key_at p vpn)) refl
    where
      by : (b : Bool) → is_page_from pid.0 first pages (key_at p vpn) ≡ b → left.page p vpn ≡ cond b None (f.page p vpn)
      by true is = let at = from_page pid.0 first pages p vpn is in page_gone p vpn at.0 at.1 at.2
      by false is = parts_stay n owners f pid.0 first pages fits most some met f p vpn met_mine is

  pub parts_make : left ≡ without_range pid first pages f
  parts_make =
      let beside = parts_beside n owners f pid.0 first pages fits most some met f in
      λ i. record { homes = beside.homes i; areas = λ p r. each_areas p r i; page = λ p vpn. each_page p vpn i; files = beside.files i }

  pub all_fit : FitAll n owners f [] (unmaps_parts n (areas_at f) first pages met)
  all_fit = parts_fit n owners f pid.0 first pages fits most some met f [] (owned_met (first * 4096) (pages * 4096) owners mine_all (owned_those (is_of pid.0) owners fits.rise)) met_mine (all_met first pages mine_all) (λ r vpn here out. refl)

  -- the list of answers has the areas of each of them
  listed_each : (entries : List HomeEntry) → ((p r : ℕ) → Listed p r entries → Listed p r met) → AllByRecursion (λ (e : HomeEntry). e.pid.0 ≡ pid.0) entries → AllByRecursion (λ (e : HomeEntry). listed_in e.region.0 (areas_among f met) ≡ areas_at f e) entries
  listed_each [] within mine = tt
  listed_each (e ∷ entries) within mine = (
    among_one f fits.lists pid.0 e.region.0 met met_mine (met_rises (first * 4096) (pages * 4096) mine_all (those_rise (is_of pid.0) owners fits.rise)) (subst (λ (q : ℕ). Listed q e.region.0 met) mine.0 (within e.pid.0 e.region.0 (inl (refl, refl))))
        ∙ ap (λ (q : ℕ). f.areas q e.region.0) (sym mine.0),
    listed_each entries (λ p r more. within p r (inr more)) mine.1,
  )

  same_each : (entries : List HomeEntry) → AllByRecursion (λ (e : HomeEntry). listed_in e.region.0 (areas_among f met) ≡ areas_at f e) entries → unmaps_parts n (listed_for (areas_among f met)) first pages entries ≡ unmaps_parts n (areas_at f) first pages entries
  same_each [] all = refl
  same_each (e ∷ entries) all =
      λ i. cond (has_mapped (range_start first e) (range_end first pages e) (all.0 i)) (unmaps_from n e (range_start first e) (range_end first pages e) (all.0 i)) [] ++ same_each entries all.1 i

  pub same_parts : unmaps_parts n (listed_for (areas_among f met)) first pages met ≡ unmaps_parts n (areas_at f) first pages met
  same_parts = same_each met (listed_each met (λ p r listed. listed) met_mine)

  each_part : (entries : List HomeEntry) → AllByRecursion (Met first pages) entries → AllByRecursion (λ (e : HomeEntry). listed_in e.region.0 (areas_among f met) ≡ areas_at f e) entries → AreParts (areas_among f met) first pages entries
  each_part [] has same = tt
  each_part (e ∷ entries) has same =
      let some_ = has.0 in
      ((has.0, subst IsCanonical (sym same.0) (listed_canonical e.region.0 (areas_at f e) (omega (arith, some_, most)) (fits.lists e.pid.0 e.region.0))), each_part entries has.1 same.1)

  pub are_parts : AreParts (areas_among f met) first pages met
  are_parts = each_part met (all_met first pages mine_all) (listed_each met (λ p r listed. listed) met_mine)
