-- Canonical runs are determined by what they say of each page; what setting and clearing a range makes of them.
use Rattle.std.proofs.Common.{◌≡◌, ℕ, ◌+◌, ◌<◌, ◌≤◌, List, [], ◌∷◌, ◌++◌, Some, None, inl, inr, refl, sym, ◌∙◌, ap, arith, append_assoc}
use Rattle.std.proofs.lemmas.Bool.{cond-true, cond-false, cases_lt, le-leb, lt-leb, lt-ltb, le-ltb, and_from, and_left, and_right, eq-eqb, both_ways}
use Rattle.std.proofs.lemmas.Option.{none-some, same_Some}
use Rattle.lego_base.specs.declared.perms.Perms.{Perms}
use Rattle.lego_base.specs.declared.records.Area.{Area}
use Rattle.lego_base.specs.Space.{perms_of}
use Rattle.lego_base.specs.declared.sizes.TheConstants.{PAGES_END}
use Rattle.area_list.specs.Runs.{end_of, IsCanonical, between, below, above, joined, put_runs, cut_runs, in_range, PutSets, CutClears}
use Rattle.area_list.proofs.Pages.{perms-hit, perms-miss, either, either-none, perms-append, perms-joined, between-in, between-out, below-in, below-out, above-in, above-out}
use Rattle.area_list.proofs.Canonical.{IsWithin, within-append, within-between, within-below, within-above, canonical-tail, canonical-within, canonical-joined}

-- below rising runs nothing is mapped
pub perms-before : (low high : ℕ) (runs : List Area) (page : ℕ) → IsWithin low high runs → page < low → perms_of runs page ≡ None
perms-before low high [] page h k = refl
perms-before low high (area ∷ runs) page h k =
    let l : low ≤ area.first.0 = h.0 in
    perms-miss area runs page (inl (omega arith)) ∙ perms-before (end_of area) high runs page h.2 (omega arith)

-- the first run begins no later than that of a list that says the same
begins : (area next : Area) (runs more : List Area) → IsCanonical (area ∷ runs) → IsCanonical (next ∷ more) → ((page : ℕ) → perms_of (area ∷ runs) page ≡ perms_of (next ∷ more) page) → area.first.0 < next.first.0 → ⊥
begins area next runs more c d same h =
    let p : 0 < area.pages = c.0 in
    let hit : perms_of (area ∷ runs) area.first.0 ≡ Some area.perms = perms-hit area runs area.first.0 (omega arith) (omega arith) in
    let none : perms_of (next ∷ more) area.first.0 ≡ None = perms-before next.first.0 PAGES_END (next ∷ more) area.first.0 (omega arith, d.0, canonical-tail next more d) h in
    none-some area.perms (sym none ∙ sym (same area.first.0) ∙ hit)

-- the page after a run isn't mapped as the run is
behind : (area : Area) (runs : List Area) (perms : Perms) → IsCanonical (area ∷ runs) → area.perms ≡ perms → perms_of runs (end_of area) ≡ Some perms → ⊥
behind area [] perms c alike e = none-some perms e
behind area (next ∷ runs) perms c alike e =
    elim (cases_lt (end_of area) next.first.0) [
      | inl h ↦ none-some perms (sym (perms-before next.first.0 PAGES_END (next ∷ runs) (end_of area) (omega arith, c.3.0, canonical-tail next runs c.3) h) ∙ e)
      | inr h ↦
          let p : 0 < next.pages = c.3.0 in
          let q : end_of area ≤ next.first.0 = c.2.0 in
          let touch : end_of area ≡ next.first.0 = omega arith in
          let hit : perms_of (next ∷ runs) (end_of area) ≡ Some next.perms = perms-hit next runs (end_of area) (omega arith) (omega arith) in
          let same : area.perms ≡ next.perms = alike ∙ same_Some _ _ (sym e ∙ hit) in
          both_ways _ c.2.1 (and_from _ _ (eq-eqb _ _ touch) (eq-eqb _ _ (ap (λ (p : Perms). p.0) same)))
    ]

-- the first run ends no earlier than that of a list that says the same
ends : (area next : Area) (runs more : List Area) → IsCanonical (area ∷ runs) → ((page : ℕ) → perms_of (area ∷ runs) page ≡ perms_of (next ∷ more) page) → area.first.0 ≡ next.first.0 → area.perms ≡ next.perms → end_of area < end_of next → ⊥
ends area next runs more c same first alike h =
    let p : 0 < area.pages = c.0 in
    behind area runs next.perms c alike (sym (perms-miss area runs (end_of area) (inr (omega arith))) ∙ same (end_of area) ∙ perms-hit next more (end_of area) (omega arith) h)

same_area : (area next : Area) → area.first.0 ≡ next.first.0 → area.pages ≡ next.pages → area.perms ≡ next.perms → area ≡ next
same_area area next e f g = λ i. record { first = record { 0 = e i }; pages = f i; perms = g i }

pub unique : (runs runs' : List Area) → IsCanonical runs → IsCanonical runs' → ((page : ℕ) → perms_of runs page ≡ perms_of runs' page) → runs ≡ runs'
unique [] [] c d same = refl
unique [] (next ∷ more) c d same =
    let p : 0 < next.pages = d.0 in
    absurd (none-some next.perms (same next.first.0 ∙ perms-hit next more next.first.0 (omega arith) (omega arith)))
unique (area ∷ runs) [] c d same =
    let p : 0 < area.pages = c.0 in
    absurd (none-some area.perms (sym (same area.first.0) ∙ perms-hit area runs area.first.0 (omega arith) (omega arith)))
unique (area ∷ runs) (next ∷ more) c d same =
    let p : 0 < area.pages = c.0 in
    let q : 0 < next.pages = d.0 in
    let not_less : area.first.0 < next.first.0 → ⊥ = begins area next runs more c d same in
    let not_more : next.first.0 < area.first.0 → ⊥ = begins next area more runs d c (λ page. sym (same page)) in
    let first : area.first.0 ≡ next.first.0 = omega (arith, not_less, not_more) in
    let alike : area.perms ≡ next.perms = same_Some _ _ (sym (perms-hit area runs area.first.0 (omega arith) (omega arith)) ∙ same area.first.0 ∙ perms-hit next more area.first.0 (omega arith) (omega arith)) in
    let not_shorter : end_of area < end_of next → ⊥ = ends area next runs more c same first alike in
    let not_longer : end_of next < end_of area → ⊥ = ends next area more runs d (λ page. sym (same page)) (sym first) (sym alike) in
    let pages : area.pages ≡ next.pages = omega (arith, not_shorter, not_longer) in
    let rest : (page : ℕ) → perms_of runs page ≡ perms_of more page = λ page.
    elim (cases_lt page (end_of area)) [
      | inl h ↦ perms-before (end_of area) PAGES_END runs page (canonical-tail area runs c) h ∙ sym (perms-before (end_of next) PAGES_END more page (canonical-tail next more d) (omega arith))
      | inr h ↦ sym (perms-miss area runs page (inr h)) ∙ same page ∙ perms-miss next more page (inr (omega arith))
    ] in
    λ i. same_area area next first pages alike i ∷ unique runs more c.3 d.3 rest i

in-range : {A : Type 0} (first pages page : ℕ) (inside outside : A) → first ≤ page → page < first + pages → in_range first pages page inside outside ≡ inside
in-range first pages page inside outside h k = cond-true _ _ _ (and_from _ _ (le-leb _ _ h) (lt-ltb _ _ k))

below-range : {A : Type 0} (first pages page : ℕ) (inside outside : A) → page < first → in_range first pages page inside outside ≡ outside
below-range first pages page inside outside h = cond-false _ _ _ (and_left _ _ (lt-leb _ _ h))

above-range : {A : Type 0} (first pages page : ℕ) (inside outside : A) → first + pages ≤ page → in_range first pages page inside outside ≡ outside
above-range first pages page inside outside h = cond-false _ _ _ (and_right _ _ (le-ltb _ _ h))

-- runs below a page, others from it to before another, and runs from there on
module _ (first pages : ℕ) (runs middle : List Area) where
  parted-below : (page : ℕ) → page < first → perms_of (middle ++ above (first + pages) runs) page ≡ perms_of (above (first + pages) runs) page → perms_of (below first runs ++ (middle ++ above (first + pages) runs)) page ≡ perms_of runs page
  parted-below page h out =
      perms-append (below first runs) _ page
      ∙ ap (λ o. either o (perms_of (middle ++ above (first + pages) runs) page)) (below-in first runs page h)
      ∙ ap (either (perms_of runs page)) (out ∙ above-out (first + pages) runs page (omega arith))
      ∙ either-none (perms_of runs page)

  parted-from : (page : ℕ) → first ≤ page → perms_of (below first runs ++ (middle ++ above (first + pages) runs)) page ≡ perms_of (middle ++ above (first + pages) runs) page
  parted-from page h =
      perms-append (below first runs) _ page
      ∙ ap (λ o. either o (perms_of (middle ++ above (first + pages) runs) page)) (below-out first runs page h)

pub put-sets : PutSets
unfolding put_runs
put-sets first pages perms runs fits c =
    let middle : List Area = between first (first + pages) perms in
    let flat : below first runs ++ middle ++ above (first + pages) runs ≡ below first runs ++ (middle ++ above (first + pages) runs) = append_assoc (below first runs) middle (above (first + pages) runs) in
    let all : IsWithin 0 PAGES_END runs = canonical-within runs c in
    let left : IsWithin 0 first (below first runs) = within-below 0 0 PAGES_END first runs (omega arith) (omega arith) all in
    let inner : IsWithin first (first + pages) middle = within-between first first (first + pages) (first + pages) perms (omega arith) (omega arith) (omega arith) in
    let right : IsWithin (first + pages) PAGES_END (above (first + pages) runs) = within-above 0 (first + pages) PAGES_END (first + pages) runs (omega arith) fits all in
    let whole : IsWithin 0 PAGES_END (below first runs ++ middle ++ above (first + pages) runs) = within-append 0 (first + pages) PAGES_END _ _ (within-append 0 first (first + pages) _ _ left inner) right in
    let pages-of : (page : ℕ) → perms_of (joined [] (below first runs ++ middle ++ above (first + pages) runs)) page ≡ perms_of (below first runs ++ (middle ++ above (first + pages) runs)) page = λ page. perms-joined [] (below first runs ++ middle ++ above (first + pages) runs) page ∙ ap (λ r. perms_of r page) flat in (
      canonical-joined 0 [] _ tt (omega arith) whole,
      λ page.
          pages-of page
          ∙ elim (cases_lt page first) [
            | inl h ↦
                parted-below first pages runs middle page h (between-out first (first + pages) perms (above (first + pages) runs) page (inl h))
                ∙ sym (below-range first pages page (Some perms) (perms_of runs page) h)
            | inr h ↦
                parted-from first pages runs middle page h
                ∙ elim (cases_lt page (first + pages)) [
                  | inl k ↦ between-in first (first + pages) perms (above (first + pages) runs) page h k ∙ sym (in-range first pages page (Some perms) (perms_of runs page) h k)
                  | inr k ↦
                      between-out first (first + pages) perms (above (first + pages) runs) page (inr k)
                      ∙ above-in (first + pages) runs page k
                      ∙ sym (above-range first pages page (Some perms) (perms_of runs page) k)
                ]
          ],
    )

pub cut-clears : CutClears
unfolding cut_runs
cut-clears first pages runs fits c =
    let all : IsWithin 0 PAGES_END runs = canonical-within runs c in
    let left : IsWithin 0 first (below first runs) = within-below 0 0 PAGES_END first runs (omega arith) (omega arith) all in
    let right : IsWithin first PAGES_END (above (first + pages) runs) = within-above 0 first PAGES_END (first + pages) runs (omega arith) (omega arith) all in (
      canonical-joined 0 [] _ tt (omega arith) (within-append 0 first PAGES_END _ _ left right),
      λ page.
          perms-joined [] (below first runs ++ above (first + pages) runs) page
          ∙ elim (cases_lt page first) [
            | inl h ↦ parted-below first pages runs [] page h refl ∙ sym (below-range first pages page None (perms_of runs page) h)
            | inr h ↦
                parted-from first pages runs [] page h
                ∙ elim (cases_lt page (first + pages)) [
                  | inl k ↦ above-out (first + pages) runs page k ∙ sym (in-range first pages page None (perms_of runs page) h k)
                  | inr k ↦ above-in (first + pages) runs page k ∙ sym (above-range first pages page None (perms_of runs page) k)
                ]
          ],
    )
