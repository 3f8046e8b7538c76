-- Runs in rising order between two pages, and the lists of them that are canonical.
use Rattle.std.proofs.Common.{◌≡◌, ℕ, ◌+◌, ◌-◌, ◌<◌, ◌≤◌, min, max, List, [], ◌∷◌, ◌++◌, sum_by, inl, inr, sym, subst, arith}
use Rattle.std.proofs.lemmas.Bool.{cond-true, cond-false, and_parts, cases_lt, cases_Bool, eqb-true}
use Rattle.std.proofs.lemmas.List.Sums.{sum_by-cons}
use Rattle.lego_base.specs.declared.perms.Perms.{Perms}
use Rattle.lego_base.specs.declared.records.Area.{Area}
use Rattle.lego_base.specs.declared.sizes.TheConstants.{PAGES_END}
use Rattle.area_list.specs.Runs.{end_of, goes_on, IsBefore, IsCanonical, between, below, above, extended, joined}
use Rattle.area_list.proofs.Pages.{between-is, between-none}

-- runs that rise, each with a page, between two pages
abbrev pub IsWithin : ℕ → ℕ → List Area → Type 0
IsWithin low high [] = low ≤ high
IsWithin low high (area ∷ runs) = (low ≤ area.first.0) × (0 < area.pages) × IsWithin (end_of area) high runs

pub within-le : (low high : ℕ) (runs : List Area) → IsWithin low high runs → low ≤ high
within-le low high [] h = h
within-le low high (area ∷ runs) h = let k : end_of area ≤ high = within-le (end_of area) high runs h.2 in let l : low ≤ area.first.0 = h.0 in omega arith

pub within-lower : (low low' high : ℕ) (runs : List Area) → low' ≤ low → IsWithin low high runs → IsWithin low' high runs
within-lower low low' high [] k h = omega arith
within-lower low low' high (area ∷ runs) k h = let l : low ≤ area.first.0 = h.0 in (omega arith, h.1, h.2)

pub within-upper : (low high high' : ℕ) (runs : List Area) → high ≤ high' → IsWithin low high runs → IsWithin low high' runs
within-upper low high high' [] k h = omega arith
within-upper low high high' (area ∷ runs) k h = (h.0, h.1, within-upper (end_of area) high high' runs k h.2)

pub within-append : (low middle high : ℕ) (runs more : List Area) → IsWithin low middle runs → IsWithin middle high more → IsWithin low high (runs ++ more)
within-append low middle high [] more h k = within-lower middle low high more h k
within-append low middle high (area ∷ runs) more h k = (h.0, h.1, within-append (end_of area) middle high runs more h.2 k)

pub within-between : (low first last high : ℕ) (perms : Perms) → low ≤ first → first ≤ last → last ≤ high → IsWithin low high (between first last perms)
within-between low first last high perms a b c =
    elim (cases_lt first last) [
      | inl h ↦ let P : List Area → Type 0 = λ r. IsWithin low high r in subst P (sym (between-is first last perms h)) (a, omega arith, omega arith)
      | inr h ↦ let P : List Area → Type 0 = λ r. IsWithin low high r in subst P (sym (between-none first last perms h)) (omega arith)
    ]

pub within-below : (low low' high end : ℕ) (runs : List Area) → low' ≤ low → low' ≤ end → IsWithin low high runs → IsWithin low' end (below end runs)
within-below low low' high end [] a b h = b
within-below low low' high end (area ∷ runs) a b h =
    let l : low ≤ area.first.0 = h.0 in
    let p : 0 < area.pages = h.1 in
    let P : List Area → Type 0 = λ r. IsWithin low' end (r ++ below end runs) in
    elim (cases_lt area.first.0 (min (end_of area) end)) [
      | inl k ↦ subst P (sym (between-is area.first.0 (min (end_of area) end) area.perms k)) (omega arith, omega arith, within-below (end_of area) (area.first.0 + (min (end_of area) end - area.first.0)) high end runs (omega arith) (omega arith) h.2)
      | inr k ↦ subst P (sym (between-none area.first.0 (min (end_of area) end) area.perms k)) (within-below (end_of area) low' high end runs (omega arith) b h.2)
    ]

pub within-above : (low low' high start : ℕ) (runs : List Area) → low' ≤ max low start → low' ≤ high → IsWithin low high runs → IsWithin low' high (above start runs)
within-above low low' high start [] a b h = b
within-above low low' high start (area ∷ runs) a b h =
    let l : low ≤ area.first.0 = h.0 in
    let p : 0 < area.pages = h.1 in
    let e : end_of area ≤ high = within-le (end_of area) high runs h.2 in
    let P : List Area → Type 0 = λ r. IsWithin low' high (r ++ above start runs) in
    elim (cases_lt (max area.first.0 start) (end_of area)) [
      | inl k ↦ subst P (sym (between-is (max area.first.0 start) (end_of area) area.perms k)) (omega arith, omega arith, within-above (end_of area) (max area.first.0 start + (end_of area - max area.first.0 start)) high start runs (omega arith) (omega arith) h.2)
      | inr k ↦ subst P (sym (between-none (max area.first.0 start) (end_of area) area.perms k)) (within-above (end_of area) low' high start runs (omega arith) b h.2)
    ]

-- what follows a run of canonical runs
pub canonical-tail : (area : Area) (runs : List Area) → IsCanonical (area ∷ runs) → IsWithin (end_of area) PAGES_END runs
canonical-tail area [] h = h.1
canonical-tail area (next ∷ runs) h = (h.2.0, h.3.0, canonical-tail next runs h.3)

pub canonical-within : (runs : List Area) → IsCanonical runs → IsWithin 0 PAGES_END runs
canonical-within [] h = omega arith
canonical-within (area ∷ runs) h = (omega arith, h.0, canonical-tail area runs h)

pub within-extended : (low : ℕ) (runs : List Area) (next : Area) → IsWithin low next.first.0 runs → 0 < next.pages → IsWithin low (end_of next) (extended runs next)
within-extended low [] next h p = (h, p, omega arith)
within-extended low (area ∷ []) next h p =
    let a : low ≤ area.first.0 = h.0 in
    let b : 0 < area.pages = h.1 in
    let c : end_of area ≤ next.first.0 = h.2 in
    let P : List Area → Type 0 = λ r. IsWithin low (end_of next) r in
    elim (cases_Bool (goes_on area next)) [
      | inl e ↦ subst P (sym (cond-true _ _ _ e)) (let t : end_of area ≡ next.first.0 = eqb-true _ _ (and_parts _ _ e).0 in (a, omega arith, omega arith))
      | inr e ↦ subst P (sym (cond-false _ _ _ e)) (a, b, (c, p, omega arith))
    ]
within-extended low (area ∷ area' ∷ runs) next h p = (h.0, h.1, within-extended (end_of area) (area' ∷ runs) next h.2 p)

before-extended : (area area' next : Area) (runs : List Area) → IsBefore area (area' ∷ runs) → IsBefore area (extended (area' ∷ runs) next)
before-extended area area' next [] h =
    let P : List Area → Type 0 = λ r. IsBefore area r in
    elim (cases_Bool (goes_on area' next)) [
      | inl e ↦ subst P (sym (cond-true _ _ _ e)) h
      | inr e ↦ subst P (sym (cond-false _ _ _ e)) h
    ]
before-extended area area' next (area'' ∷ runs) h = h

pub canonical-extended : (low : ℕ) (runs : List Area) (next : Area) → IsCanonical runs → IsWithin low next.first.0 runs → 0 < next.pages → end_of next ≤ PAGES_END → IsCanonical (extended runs next)
canonical-extended low [] next c h p e = (p, e, tt, tt)
canonical-extended low (area ∷ []) next c h p e =
    let P : List Area → Type 0 = IsCanonical in
    elim (cases_Bool (goes_on area next)) [
      | inl g ↦ subst P (sym (cond-true _ _ _ g)) (let t : end_of area ≡ next.first.0 = eqb-true _ _ (and_parts _ _ g).0 in (omega arith, omega arith, tt, tt))
      | inr g ↦ subst P (sym (cond-false _ _ _ g)) (c.0, c.1, (h.2, g), (p, e, tt, tt))
    ]
canonical-extended low (area ∷ area' ∷ runs) next c h p e = (c.0, c.1, before-extended area area' next runs c.2, canonical-extended (end_of area) (area' ∷ runs) next c.3 h.2 p e)

pub canonical-joined : (middle : ℕ) (runs more : List Area) → IsCanonical runs → IsWithin 0 middle runs → IsWithin middle PAGES_END more → IsCanonical (joined runs more)
canonical-joined middle runs [] c h k = c
canonical-joined middle runs (next ∷ more) c h k =
    let before : IsWithin 0 next.first.0 runs = within-upper 0 middle next.first.0 runs k.0 h in
    let ends : end_of next ≤ PAGES_END = within-le (end_of next) PAGES_END more k.2 in
    canonical-joined (end_of next) (extended runs next) more (canonical-extended 0 runs next c before k.1 ends) (within-extended 0 runs next before k.1) k.2

-- runs between two pages have no more pages than lie between them
within-pages : (low high : ℕ) (runs : List Area) → IsWithin low high runs → low + sum_by (λ (run : Area). run.pages) runs ≤ high
within-pages low high [] h = omega arith
within-pages low high (area ∷ runs) h =
    let l : low ≤ area.first.0 = h.0 in
    omega (arith, within-pages (end_of area) high runs h.2, sum_by-cons (λ (run : Area). run.pages) area runs)

pub pages_fit : (runs : List Area) → IsCanonical runs → sum_by (λ (run : Area). run.pages) runs ≤ PAGES_END
pages_fit runs c = omega (arith, within-pages 0 PAGES_END runs (canonical-within runs c))
