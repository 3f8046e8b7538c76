-- Pages of which none is mapped.
use Rattle.std.proofs.Common.{◌≡◌, ℕ, zero, suc, ◌+◌, ◌*◌, ◌/◌, ◌≤◌, ◌<◌, ◌⊎◌, inl, inr, Bool, true, false, cond, ◌&&◌, eqb, le-leb, leb, leb-true, lt-ltb, ltb, ltb-true, refl, sym, ◌∙◌, ap, subst, List, Option, Some, None, IsSome, arith}
use Rattle.std.proofs.lemmas.Bool.{cases_eq, eq-eqb, ne_eqb, and_from}
use Rattle.std.specs.Prelude.{is_none}
use Rattle.lego_base.specs.declared.perms.Perms.{Perms}
use Rattle.lego_base.specs.declared.records.Area.{Area}
use Rattle.lego_base.specs.declared.sizes.TheConstants.{PAGES_END}
use Rattle.lego_base.specs.Space.{perms_of}
use Rattle.area_list.specs.Runs.{in_range}
use Rattle.area_list.specs.Gap.{IsGap, IsLowestGap}
use Rattle.space_rules.specs.Place.{IsPlace, pages_for}
use Rattle.linux_model.specs.SpaceCalls.{is_free}
use Rattle.call_machine.specs.Effects.{KeepsBeside, KeepsPages}

none_is : (perms : Option Perms) → is_none perms ≡ true → perms ≡ None
none_is None e = refl
none_is (Some perms) e = cc e

is_none_of : (perms : Option Perms) → perms ≡ None → is_none perms ≡ true
is_none_of perms e = ap is_none e

first_of : (b c : Bool) → (b && c) ≡ true → b ≡ true
first_of true c e = refl
first_of false c e = e

rest_of : (b c : Bool) → (b && c) ≡ true → c ≡ true
rest_of true c e = e
rest_of false c e = cc e

free_from : (areas : List Area) (first pages : ℕ) → ((page : ℕ) → first ≤ page → page < first + pages → perms_of areas page ≡ None) → is_free areas first pages ≡ true
free_from areas first zero none = refl
free_from areas first (suc pages) none =
    and_from (is_none (perms_of areas first)) (is_free areas (first + 1) pages)
    (is_none_of (perms_of areas first) (none first (omega arith) (omega arith)))
    (free_from areas (first + 1) pages (λ page low high. none page (omega arith) (omega arith)))

free_at : (areas : List Area) (first pages : ℕ) → is_free areas first pages ≡ true → (page : ℕ) → first ≤ page → page < first + pages → perms_of areas page ≡ None
free_at areas first zero free page low high = absurd (omega arith)
free_at areas first (suc pages) free page low high = elim (cases_eq page first) [
  | inl e ↦ ap (perms_of areas) e ∙ none_is (perms_of areas first) (first_of (is_none (perms_of areas first)) (is_free areas (first + 1) pages) free)
  | inr ne ↦ free_at areas (first + 1) pages (rest_of (is_none (perms_of areas first)) (is_free areas (first + 1) pages) free) page (omega arith) (omega arith)
]

no_gap_at : (areas : List Area) (first pages : ℕ) → (IsGap areas first pages → ⊥) → first + pages ≤ PAGES_END → (b : Bool) → is_free areas first pages ≡ b → false ≡ b
no_gap_at areas first pages none ends false e = refl
no_gap_at areas first pages none ends true e = absurd (none (record { ends = ends; free = free_at areas first pages e }))

-- where the lowest gap begins at a page, its pages are free, and only there
pub gap_tells : (areas : List Area) (first pages at : ℕ) → first + pages ≤ PAGES_END → IsLowestGap areas first pages at → eqb at first ≡ is_free areas first pages
gap_tells areas first pages at ends gap = elim (cases_eq at first) [
  | inl e ↦ eq-eqb at first e ∙ sym (free_from areas first pages (λ page low high. gap.gap.free page (omega (arith, e)) (omega (arith, e))))
  | inr ne ↦
      let above : first < at = omega (arith, gap.from_first, ne) in
      ne_eqb at first ne ∙ no_gap_at areas first pages (gap.lowest first (omega arith) above) ends (is_free areas first pages) refl
]

pub no_gap_tells : (areas : List Area) (first pages : ℕ) → first + pages ≤ PAGES_END → ((page : ℕ) → first ≤ page → IsGap areas page pages → ⊥) → false ≡ is_free areas first pages
no_gap_tells areas first pages ends none = no_gap_at areas first pages (none first (omega arith)) ends (is_free areas first pages) refl

-- ---- pages that are mapped

some_either : (b : Bool) (perms : Perms) (old : Option Perms) → IsSome old → IsSome (cond b (Some perms) old)
some_either true perms old some = refl
some_either false perms old some = some

none_some : (o : Option Perms) (perms : Perms) → o ≡ None → o ≡ Some perms → ⊥
none_some None perms none some = cc some
none_some (Some other) perms none some = cc none

-- what is mapped keeps its permissions where a range of free pages is mapped
pub put_keeps : (first pages : ℕ) (perms : Perms) (old new : List Area) → ((page : ℕ) → perms_of new page ≡ in_range first pages page (Some perms) (perms_of old page)) → is_free old first pages ≡ true → KeepsPages old new
put_keeps first pages perms old new sets free page had is = sets page ∙ by (leb first page) (ltb page (first + pages)) refl refl
  where
    by : (a b : Bool) → leb first page ≡ a → ltb page (first + pages) ≡ b → cond (a && b) (Some perms) (perms_of old page) ≡ Some had
    by true true low high = absurd (none_some (perms_of old page) had (free_at old first pages free page (leb-true first page low) (ltb-true page (first + pages) high)) is)
    by true false low high = is
    by false b low high = is

outside : {A : Type 0} (first pages page : ℕ) (x y : A) → (page < first) ⊎ (first + pages ≤ page) → in_range first pages page x y ≡ y
outside {A = A} first pages page x y out = by (leb first page) (ltb page (first + pages)) refl refl
  where
    by : (a b : Bool) → leb first page ≡ a → ltb page (first + pages) ≡ b → cond (a && b) x y ≡ y
    by true true low high = let lowest = leb-true first page low in let highest = ltb-true page (first + pages) high in absurd (elim out [
      | inl below ↦ omega (arith, lowest, below)
      | inr above ↦ omega (arith, highest, above)
    ])
    by true false low high = refl
    by false b low high = refl

-- and where any range is, those beside it do
pub put_beside : (first pages : ℕ) (perms : Perms) (old new : List Area) → ((page : ℕ) → perms_of new page ≡ in_range first pages page (Some perms) (perms_of old page)) → KeepsBeside first pages old new
put_beside first pages perms old new sets = record {
  mapped = λ page some. subst IsSome (sym (sets page)) (some_either (leb first page && ltb page (first + pages)) perms (perms_of old page) some);
  beside = λ page out. sets page ∙ outside first pages page (Some perms) (perms_of old page) out;
}

inside : {A : Type 0} (first pages page : ℕ) (x y : A) → first ≤ page → page < first + pages → in_range first pages page x y ≡ x
inside first pages page x y low high = ap (λ (b : Bool). cond (b && ltb page (first + pages)) x y) (le-leb first page low) ∙ ap (λ (b : Bool). cond b x y) (lt-ltb page (first + pages) high)

-- a range that was unmapped is free
pub cut_frees : (first pages : ℕ) (old new : List Area) → ((page : ℕ) → perms_of new page ≡ in_range first pages page None (perms_of old page)) → is_free new first pages ≡ true
cut_frees first pages old new clears = free_from new first pages (λ page low high. clears page ∙ inside first pages page None (perms_of old page) low high)

-- and so are the pages of a place for a mapping
pub place_frees : (areas : List Area) (len at : ℕ) → IsPlace areas len at → is_free areas (at / 4096) (pages_for len) ≡ true
place_frees areas len at place = free_from areas (at / 4096) (pages_for len) (λ page low high.
    let aligned = place.aligned in
    let same : page * 4096 / 4096 ≡ page = omega arith in
    subst (λ (p : ℕ). perms_of areas p ≡ None) same (place.free (page * 4096) (omega (arith, low, aligned)) (omega (arith, low, high, aligned))))
