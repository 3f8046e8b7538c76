-- Ranges whose pages all have permissions, run by run.
use Rattle.std.proofs.Common.{◌≡◌, ◌==◌, ℕ, suc, zero, ◌+◌, ◌-◌, ◌<◌, ◌≤◌, true, false, ◌&&◌, List, [], ◌∷◌, length, get_or, drop, Some, None, ◌*◌, ◌/◌, ◌%◌, ◌^◌, inl, inr, refl, sym, ◌∙◌, ap, arith}
use Rattle.std.proofs.lemmas.Bool.{ne_eqb, eq-eqb, and_parts, and_from, cases_eq}
use Rattle.std.specs.Int.Bits.{bit_and, and_high}
use Rattle.lego_base.specs.declared.perms.Perms.{Perms}
use Rattle.lego_base.specs.declared.records.Area.{Area}
use Rattle.std.proofs.lemmas.List.{drop_more}
use Rattle.lego_base.specs.Space.{perms_of, allows}
use Rattle.lego_base.specs.declared.sizes.TheConstants.{PAGES_END}
use Rattle.area_list.specs.Runs.{end_of, IsCanonical}
use Rattle.area_list.specs.Cover.{has_all, covered, CoversEachPage, HasOneIsAllows}
use Rattle.area_list.proofs.Pages.{perms-hit, perms-miss}
use Rattle.area_list.proofs.Canonical.{IsWithin, canonical-tail}
use Rattle.area_list.proofs.Unique.{perms-before}

-- from the end of the first run on only the others matter
pub covered-behind : (area : Area) (runs : List Area) (at left : ℕ) (need : Perms) → end_of area ≤ at → covered (area ∷ runs) at left need ≡ covered runs at left need
unfolding covered
covered-behind area runs at zero need h = refl
covered-behind area runs at (suc left) need h =
    ap (λ o. has_all o need && covered (area ∷ runs) (at + 1) left need) (perms-miss area runs at (inr h))
    ∙ ap (λ b. has_all (perms_of runs at) need && b) (covered-behind area runs (at + 1) left need (omega arith))

-- pages of a run that has the permissions may be passed over
pub covered-within : (area : Area) (runs : List Area) (at here left : ℕ) (need : Perms) → area.first.0 ≤ at → at + here ≤ end_of area → has_all (Some area.perms) need ≡ true → covered (area ∷ runs) at (here + left) need ≡ covered (area ∷ runs) (at + here) left need
unfolding covered
covered-within area runs at zero left need a b h = ap (λ (n : ℕ). covered (area ∷ runs) at n need) (let e : 0 + left ≡ left = omega arith in e) ∙ ap (λ (n : ℕ). covered (area ∷ runs) n left need) (let e : at ≡ at + 0 = omega arith in e)
covered-within area runs at (suc here) left need a b h =
    let e : suc here + left ≡ suc (here + left) = omega arith in
    ap (λ (n : ℕ). covered (area ∷ runs) at n need) e
    ∙ ap (λ o. has_all o need && covered (area ∷ runs) (at + 1) (here + left) need) (perms-hit area runs at a (omega arith))
    ∙ ap (λ b. b && covered (area ∷ runs) (at + 1) (here + left) need) h
    ∙ covered-within area runs (at + 1) here left need (omega arith) (omega arith) h
    ∙ ap (λ (n : ℕ). covered (area ∷ runs) n left need) (let e : at + 1 + here ≡ at + suc here = omega arith in e)

-- a range that begins below rising runs isn't covered
pub covered-hole : (low high : ℕ) (runs : List Area) (at left : ℕ) (need : Perms) → IsWithin low high runs → at < low → 0 < left → covered runs at left need ≡ false
unfolding covered
covered-hole low high runs at zero need h k p = absurd (omega arith)
covered-hole low high runs at (suc left) need h k p = ap (λ o. has_all o need && covered runs (at + 1) left need) (perms-before low high runs at h k)

-- how the runs that are left decide, with the first of them named
pub covered_left : (runs : List Area) (i : ℕ) (run : Area) (at left : ℕ) (need : Perms) → i < length runs → covered (drop i runs) at left need ≡ covered (get_or runs i run ∷ drop (i + 1) runs) at left need
covered_left runs i run at left need h = ap (λ r. covered r at left need) (drop_more runs i run h)

pub covered-none : (runs : List Area) (at left : ℕ) (need : Perms) → left ≡ 0 → covered runs at left need ≡ true
unfolding covered
covered-none runs at left need e = ap (λ (n : ℕ). covered runs at n need) e

pub covered-nothing : (at left : ℕ) (need : Perms) → covered [] at left need ≡ (left == 0)
unfolding covered
covered-nothing at zero need = refl
covered-nothing at (suc left) need = sym (ne_eqb (suc left) 0 (λ e. absurd (omega arith)))

-- a range that begins below the first run, or in it without the permissions, isn't covered
pub covered-below : (area : Area) (runs : List Area) (at left : ℕ) (need : Perms) → IsCanonical (area ∷ runs) → at < area.first.0 → (left ≡ 0 → ⊥) → covered (area ∷ runs) at left need ≡ false
covered-below area runs at left need c h p = covered-hole area.first.0 PAGES_END (area ∷ runs) at left need (omega arith, c.0, canonical-tail area runs c) h (omega arith)

pub covered-lacking : (area : Area) (runs : List Area) (at left : ℕ) (need : Perms) → area.first.0 ≤ at → at < end_of area → has_all (Some area.perms) need ≡ false → (left ≡ 0 → ⊥) → covered (area ∷ runs) at left need ≡ false
unfolding covered
covered-lacking area runs at zero need a b h p = absurd (p refl)
covered-lacking area runs at (suc left) need a b h p =
    ap (λ o. has_all o need && covered (area ∷ runs) (at + 1) left need) (perms-hit area runs at a b)
    ∙ ap (λ b. b && covered (area ∷ runs) (at + 1) left need) h

-- a range that ends in the first run is covered
pub covered-whole : (area : Area) (runs : List Area) (at left : ℕ) (need : Perms) → area.first.0 ≤ at → at + left ≤ end_of area → has_all (Some area.perms) need ≡ true → covered (area ∷ runs) at left need ≡ true
covered-whole area runs at left need a b h =
    ap (λ (n : ℕ). covered (area ∷ runs) at n need) (let e : left ≡ left + 0 = omega arith in e)
    ∙ covered-within area runs at left 0 need a b h
    ∙ covered-none (area ∷ runs) (at + left) 0 need refl

-- what is left of a range after the first run
pub covered-rest : (area : Area) (runs : List Area) (at left : ℕ) (need : Perms) → area.first.0 ≤ at → at < end_of area → end_of area - at < left → has_all (Some area.perms) need ≡ true → covered (area ∷ runs) at left need ≡ covered runs (end_of area) (left - (end_of area - at)) need
covered-rest area runs at left need a b l h =
    ap (λ (n : ℕ). covered (area ∷ runs) at n need) (let e : left ≡ (end_of area - at) + (left - (end_of area - at)) = omega arith in e)
    ∙ covered-within area runs at (end_of area - at) (left - (end_of area - at)) need a (omega arith) h
    ∙ ap (λ (n : ℕ). covered (area ∷ runs) n (left - (end_of area - at)) need) (let e : at + (end_of area - at) ≡ end_of area = omega arith in e)
    ∙ covered-behind area runs (end_of area) (left - (end_of area - at)) need (omega arith)

-- each page of a covered range has the permissions, and where each has them the range is covered
pages-have : (runs : List Area) (first pages : ℕ) (need : Perms) → covered runs first pages need ≡ true → (page : ℕ) → first ≤ page → page < first + pages → has_all (perms_of runs page) need ≡ true
unfolding covered
pages-have runs first zero need c page h k = absurd (omega arith)
pages-have runs first (suc pages) need c page h k =
    let parts = and_parts _ _ c in
    elim (cases_eq first page) [
      | inl e ↦ ap (λ (n : ℕ). has_all (perms_of runs n) need) (sym e) ∙ parts.0
      | inr e ↦ pages-have runs (first + 1) pages need parts.1 page (omega arith) (omega arith)
    ]

have-covered : (runs : List Area) (first pages : ℕ) (need : Perms) → ((page : ℕ) → first ≤ page → page < first + pages → has_all (perms_of runs page) need ≡ true) → covered runs first pages need ≡ true
unfolding covered
have-covered runs first zero need h = refl
have-covered runs first (suc pages) need h =
    and_from _ _ (h first (omega arith) (omega arith)) (have-covered runs (first + 1) pages need (λ page a b. h page (omega arith) (omega arith)))

pub covers-each : CoversEachPage
covers-each runs first pages need = (pages-have runs first pages need, have-covered runs first pages need)

-- a bit in its place is the place's value exactly where it is 1
bit-test : (bit place : ℕ) → bit < 2 → 0 < place → (bit * place == place) ≡ (bit == 1)
bit-test bit place h p =
    elim (cases_eq bit 1) [
      | inl e ↦ eq-eqb _ _ (ap (λ (n : ℕ). n * place) e ∙ (let one : 1 * place ≡ place = omega arith in one)) ∙ sym (eq-eqb _ _ e)
      | inr e ↦
          let zero-bit : bit ≡ 0 = omega (arith, e) in
          let none : bit * place ≡ 0 = ap (λ (n : ℕ). n * place) zero-bit ∙ (let z : 0 * place ≡ 0 = omega arith in z) in
          ne_eqb _ _ (λ f. absurd (omega (arith, none, f))) ∙ sym (ne_eqb _ _ e)
    ]

need-test : (n k : ℕ) → 0 < 2 ^ k → (bit_and n (2 ^ (1 + k) - 2 ^ k) == 2 ^ k) ≡ (n / 2 ^ k % 2 == 1)
need-test n k p = ap (λ (m : ℕ). m == 2 ^ k) (and_high n 1 k) ∙ bit-test (n / 2 ^ k % 2) (2 ^ k) (omega arith) p

pub has-one : HasOneIsAllows
has-one None need h = refl
has-one (Some perms) need h =
    let at : (k : ℕ) → 0 < 2 ^ k → 2 ^ (1 + k) - 2 ^ k ≡ 2 ^ k → need.0 ≡ 2 ^ k → has_all (Some perms) need ≡ allows (Some perms) need.0 = λ k p same e.
    ap (λ (n : ℕ). bit_and perms.0 n == n) e
    ∙ ap (λ (n : ℕ). bit_and perms.0 n == 2 ^ k) (sym same)
    ∙ need-test perms.0 k p
    ∙ ap (λ (n : ℕ). perms.0 / n % 2 == 1) (sym e) in
    elim h [
      | inl e ↦ at 0 (omega arith) refl e
      | inr h' ↦ elim h' [ inl e ↦ at 1 (omega arith) refl e | inr e ↦ at 2 (omega arith) refl e ]
    ]
