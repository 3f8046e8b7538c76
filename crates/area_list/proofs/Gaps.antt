-- The lowest gap.
use Rattle.std.proofs.Common.{◌≡◌, ℕ, ◌+◌, ◌<◌, ◌≤◌, max, List, [], ◌∷◌, length, get_or, drop, Option, Some, None, MatchOption, inl, inr, refl, sym, ◌∙◌, ap, subst, arith}
use Rattle.std.proofs.lemmas.Bool.{cond-true, cond-false, cases_lt, cases_eq, le-leb, lt-leb, eq-eqb, ne_eqb}
use Rattle.std.proofs.lemmas.List.{drop_more, drop_all}
use Rattle.std.proofs.lemmas.Option.{none-some}
use Rattle.lego_base.specs.declared.records.Area.{Area}
use Rattle.lego_base.specs.Space.{perms_of}
use Rattle.lego_base.specs.declared.sizes.TheConstants.{PAGES_END}
use Rattle.area_list.specs.Runs.{end_of, IsCanonical}
use Rattle.area_list.specs.Gap.{if_it_ends, gap_between, lowest_gap, IsGap, IsLowestGap, GapIsLowest}
use Rattle.area_list.proofs.Pages.{perms-hit, perms-miss}
use Rattle.area_list.proofs.Canonical.{IsWithin, within-le, canonical-within}
use Rattle.area_list.proofs.Unique.{perms-before}

-- what is said of the lowest gap
abbrev pub Found : List Area → ℕ → ℕ → Option ℕ → Type 0
Found runs first pages gap = MatchOption gap ((page : ℕ) → first ≤ page → IsGap runs page pages → ⊥) (IsLowestGap runs first pages)

-- a range that meets a run is no gap
meets : (area : Area) (runs : List Area) (page pages : ℕ) → 0 < area.pages → 0 < pages → page < end_of area → area.first.0 < page + pages → IsGap (area ∷ runs) page pages → ⊥
meets area runs page pages p q h k gap =
    elim (cases_lt page area.first.0) [
      | inl l ↦ none-some area.perms (sym (gap.free area.first.0 (omega arith) k) ∙ perms-hit area runs area.first.0 (omega arith) (omega arith))
      | inr l ↦ none-some area.perms (sym (gap.free page (omega arith) (omega arith)) ∙ perms-hit area runs page l h)
    ]

-- gaps after the first run are those of the other runs
behind : (area : Area) (runs : List Area) (page pages : ℕ) → end_of area ≤ page → IsGap (area ∷ runs) page pages → IsGap runs page pages
behind area runs page pages h gap = record { ends = gap.ends; free = λ q a b. sym (perms-miss area runs q (inr (omega arith))) ∙ gap.free q a b }

before : (area : Area) (runs : List Area) (page pages : ℕ) → end_of area ≤ page → IsGap runs page pages → IsGap (area ∷ runs) page pages
before area runs page pages h gap = record { ends = gap.ends; free = λ q a b. perms-miss area runs q (inr (omega arith)) ∙ gap.free q a b }

pub if_it_ends-found : (first pages : ℕ) (runs : List Area) → ((page : ℕ) → first ≤ page → page < first + pages → perms_of runs page ≡ None) → Found runs first pages (if_it_ends first pages)
if_it_ends-found first pages runs free =
    let P : Option ℕ → Type 0 = Found runs first pages in
    elim (cases_lt PAGES_END (first + pages)) [
      | inl h ↦ subst P (sym (cond-false _ _ _ (lt-leb _ _ h))) (λ page a gap. let e : page + pages ≤ PAGES_END = gap.ends in absurd (omega arith))
      | inr h ↦ subst P (sym (cond-true _ _ _ (le-leb _ _ h))) (record { from_first = omega arith; gap = record { ends = h; free = free }; lowest = λ page a b gap. absurd (omega arith) })
    ]

-- the gap among the other runs is that among all, where no page below its start will do
moved : (area : Area) (runs : List Area) (first first' pages : ℕ) (gap : Option ℕ) → first ≤ first' → end_of area ≤ first' → ((page : ℕ) → first ≤ page → page < first' → IsGap (area ∷ runs) page pages → ⊥) → Found runs first' pages gap → Found (area ∷ runs) first pages gap
moved area runs first first' pages None a b none found = λ page l gap.
    elim (cases_lt page first') [
      | inl h ↦ none page l h gap
      | inr h ↦ found page h (behind area runs page pages (omega arith) gap)
    ]
moved area runs first first' pages (Some at) a b none found =
    let c : first' ≤ at = found.from_first in
    record {
      from_first = omega arith;
      gap = before area runs at pages (omega arith) found.gap;
      lowest = λ page l m gap.
          elim (cases_lt page first') [
            | inl h ↦ none page l h gap
            | inr h ↦ found.lowest page h m (behind area runs page pages (omega arith) gap)
          ];
    }

pub gap_between-found : (low : ℕ) (runs : List Area) (first pages : ℕ) → IsWithin low PAGES_END runs → 0 < pages → Found runs first pages (gap_between runs first pages)
gap_between-found low [] first pages h p = if_it_ends-found first pages [] (λ page a b. refl)
gap_between-found low (area ∷ runs) first pages h p =
    let q : 0 < area.pages = h.1 in
    let P : Option ℕ → Type 0 = Found (area ∷ runs) first pages in
    let e : end_of area ≤ PAGES_END = within-le (end_of area) PAGES_END runs h.2 in
    elim (cases_lt area.first.0 (first + pages)) [
      | inl k ↦
          subst P (sym (cond-false _ _ _ (lt-leb _ _ k)))
          (moved area runs first (max first (end_of area)) pages _ (omega arith) (omega arith) (λ page a b gap. meets area runs page pages q p (omega arith) (omega arith) gap) (gap_between-found (end_of area) runs (max first (end_of area)) pages h.2 p))
      | inr k ↦
          subst P (sym (cond-true _ _ _ (le-leb _ _ k)))
          (record {
            from_first = omega arith;
            gap = record { ends = omega arith; free = λ page a b. perms-before area.first.0 PAGES_END (area ∷ runs) page (omega arith, q, h.2) (omega arith) };
            lowest = λ page a b gap. absurd (omega arith);
          })
    ]

pub gap-lowest : GapIsLowest
unfolding lowest_gap
gap-lowest runs first pages c =
    let P : Option ℕ → Type 0 = Found runs first pages in
    elim (cases_eq pages 0) [
      | inl h ↦ subst P (sym (cond-true _ _ _ (eq-eqb _ _ h))) (if_it_ends-found first pages runs (λ page a b. absurd (omega arith)))
      | inr h ↦ subst P (sym (cond-false _ _ _ (ne_eqb _ _ h))) (gap_between-found 0 runs first pages (canonical-within runs c) (omega arith))
    ]

-- a range that would pass the end of the address space has no gap
gap_between-none : (low : ℕ) (runs : List Area) (first pages : ℕ) → IsWithin low PAGES_END runs → PAGES_END < first + pages → gap_between runs first pages ≡ None
gap_between-none low [] first pages h k = cond-false _ _ _ (lt-leb _ _ k)
gap_between-none low (area ∷ runs) first pages h k =
    let q : 0 < area.pages = h.1 in
    let e : end_of area ≤ PAGES_END = within-le (end_of area) PAGES_END runs h.2 in
    cond-false _ _ _ (lt-leb _ _ (let l : area.first.0 < first + pages = omega arith in l)) ∙ gap_between-none (end_of area) runs (max first (end_of area)) pages h.2 (omega arith)

pub gap-none : (runs : List Area) (first pages : ℕ) → IsCanonical runs → PAGES_END < first + pages → lowest_gap runs first pages ≡ None
unfolding lowest_gap
gap-none runs first pages c k =
    elim (cases_eq pages 0) [
      | inl h ↦ cond-true _ _ _ (eq-eqb _ _ h) ∙ cond-false _ _ _ (lt-leb _ _ k)
      | inr h ↦ cond-false _ _ _ (ne_eqb _ _ h) ∙ gap_between-none 0 runs first pages (canonical-within runs c) k
    ]

-- no page has a gap at once
pub gap-empty : (runs : List Area) (first pages : ℕ) → pages ≡ 0 → first ≤ PAGES_END → lowest_gap runs first pages ≡ Some first
unfolding lowest_gap
gap-empty runs first pages e h = cond-true _ _ _ (eq-eqb _ _ e) ∙ cond-true _ _ _ (le-leb _ _ (let l : first + pages ≤ PAGES_END = omega arith in l))

-- the gap before the next run of those that are left
pub gap-before : (runs : List Area) (i : ℕ) (run : Area) (at first pages : ℕ) → i < length runs → (pages ≡ 0 → ⊥) → gap_between (drop i runs) at pages ≡ gap_between runs first pages → at + pages ≤ (get_or runs i run).first.0 → lowest_gap runs first pages ≡ Some at
unfolding lowest_gap
gap-before runs i run at first pages h p same fits =
    cond-false _ _ _ (ne_eqb _ _ p) ∙ sym same ∙ ap (λ r. gap_between r at pages) (drop_more runs i run h) ∙ cond-true _ _ _ (le-leb _ _ fits)

-- past the next run of those that are left
pub gap-past : (runs : List Area) (i : ℕ) (run : Area) (at first pages : ℕ) → i < length runs → gap_between (drop i runs) at pages ≡ gap_between runs first pages → (get_or runs i run).first.0 < at + pages → gap_between (drop (i + 1) runs) (max at (end_of (get_or runs i run))) pages ≡ gap_between runs first pages
gap-past runs i run at first pages h same past =
    sym (ap (λ r. gap_between r at pages) (drop_more runs i run h) ∙ cond-false _ _ _ (lt-leb _ _ past)) ∙ same

-- the gap after all runs
pub gap-behind : (runs : List Area) (i : ℕ) (at first pages : ℕ) → length runs ≤ i → (pages ≡ 0 → ⊥) → gap_between (drop i runs) at pages ≡ gap_between runs first pages → lowest_gap runs first pages ≡ if_it_ends at pages
unfolding lowest_gap
gap-behind runs i at first pages h p same =
    cond-false _ _ _ (ne_eqb _ _ p) ∙ sym same ∙ ap (λ r. gap_between r at pages) (drop_all i runs h)
