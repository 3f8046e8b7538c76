-- Where in canonical runs a page is.
use Rattle.std.proofs.Common.{◌≡◌, ℕ, zero, suc, ◌<◌, ◌≤◌, List, [], ◌∷◌, length, get_or, drop, Some, None, inl, inr, sym, ◌∙◌, ap, arith}
use Rattle.std.proofs.lemmas.Bool.{cases_lt}
use Rattle.std.proofs.lemmas.List.{drop_all}
use Rattle.lego_base.specs.declared.records.Area.{Area}
use Rattle.lego_base.specs.Space.{perms_of}
use Rattle.lego_base.specs.declared.sizes.TheConstants.{PAGES_END}
use Rattle.area_list.specs.Runs.{end_of, IsCanonical}
use Rattle.area_list.proofs.Pages.{perms-hit, perms-miss}
use Rattle.area_list.proofs.Canonical.{IsWithin, canonical-tail}
use Rattle.area_list.proofs.Unique.{perms-before}

-- each of rising runs begins at their lower end or above
begins-above : (low high : ℕ) (runs : List Area) (i : ℕ) (run : Area) → IsWithin low high runs → i < length runs → low ≤ (get_or runs i run).first.0
begins-above low high [] i run h k = absurd (omega arith)
begins-above low high (area ∷ runs) zero run h k = h.0
begins-above low high (area ∷ runs) (suc i) run h k =
    let first : low ≤ area.first.0 = h.0 in
    omega (arith, begins-above (end_of area) high runs i run h.2 (omega arith))

pub at-run : (runs : List Area) (i : ℕ) (run : Area) (page : ℕ) → IsCanonical runs → i < length runs → (get_or runs i run).first.0 ≤ page → page < end_of (get_or runs i run) → perms_of runs page ≡ Some (get_or runs i run).perms
at-run [] i run page c h a b = absurd (omega arith)
at-run (area ∷ runs) zero run page c h a b = perms-hit area runs page a b
at-run (area ∷ runs) (suc i) run page c h a b =
    perms-miss area runs page (inr (let k : end_of area ≤ (get_or runs i run).first.0 = begins-above (end_of area) PAGES_END runs i run (canonical-tail area runs c) (omega arith) in omega arith))
    ∙ at-run runs i run page c.3 (omega arith) a b

pub past-run : (runs : List Area) (i : ℕ) (run : Area) (page : ℕ) → IsCanonical runs → i < length runs → end_of (get_or runs i run) ≤ page → perms_of (drop (suc i) runs) page ≡ perms_of runs page
past-run [] i run page c h a = absurd (omega arith)
past-run (area ∷ runs) zero run page c h a = sym (perms-miss area runs page (inr a))
past-run (area ∷ runs) (suc i) run page c h a =
    past-run runs i run page c.3 (omega arith) a
    ∙ sym (perms-miss area runs page (inr (let k : end_of area ≤ (get_or runs i run).first.0 = begins-above (end_of area) PAGES_END runs i run (canonical-tail area runs c) (omega arith) in omega arith)))

before-run : (runs : List Area) (i : ℕ) (run : Area) (page : ℕ) → IsCanonical runs → i < length runs → page < (get_or runs i run).first.0 → perms_of (drop i runs) page ≡ None
before-run [] i run page c h a = absurd (omega arith)
before-run (area ∷ runs) zero run page c h a = perms-before area.first.0 PAGES_END (area ∷ runs) page (omega arith, c.0, canonical-tail area runs c) a
before-run (area ∷ runs) (suc i) run page c h a = before-run runs i run page c.3 (omega arith) a

-- a page below a run, where there is one, and after all runs before it
pub between-runs : (runs : List Area) (i : ℕ) (run : Area) (page : ℕ) → IsCanonical runs → (i < length runs → page < (get_or runs i run).first.0) → perms_of (drop i runs) page ≡ None
between-runs runs i run page c h =
    elim (cases_lt i (length runs)) [
      | inl k ↦ before-run runs i run page c k (h k)
      | inr k ↦ ap (λ r. perms_of r page) (drop_all i runs k)
    ]
