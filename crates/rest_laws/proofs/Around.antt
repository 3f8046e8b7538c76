-- Memories guard each other in a circle.
use Rattle.std.proofs.Common.{◌≡◌, ◌⊎◌, ◌+◌, ◌-◌, ◌%◌, ◌<◌, ◌≤◌, ◌∙◌, ℕ, ap, arith, inl, inr, suc, zero}
use Rattle.std.proofs.Math.Nat.{add-mod_right, mod-eq_of_lt, mod-lt, mod_self}
use Rattle.std.proofs.lemmas.Bool.{cases_lt}
use Rattle.lego_msg.specs.Next.{next}
use Rattle.rest_laws.specs.Around.{GuardsItsOwn, SecondariesDiffer}

-- the next place of a circle, by the two cases
next_is : (n m : ℕ) → m < n → ((m + 1 < n) × ((m + 1) % n ≡ m + 1)) ⊎ ((m + 1 ≡ n) × ((m + 1) % n ≡ 0))
next_is n m below = elim (cases_lt (m + 1) n) [
  | inl less ↦ inl (less, mod-eq_of_lt less)
  | inr most ↦ let last : m + 1 ≡ n = omega (arith, below, most) in inr (last, ap (λ (k : ℕ). k % n) last ∙ mod_self n)
]

differs : (n m : ℕ) → 2 ≤ n → m < n → (m + 1) % n ≡ m → ⊥
differs n m two_ below same = elim (next_is n m below) [
  | inl next ↦ let is = next.1 in omega (arith, is, same)
  | inr next ↦ let is = next.1 in let last = next.0 in omega (arith, is, last, same, two_)
]

one_to_one : (n m k : ℕ) → m < n → k < n → (m + 1) % n ≡ (k + 1) % n → m ≡ k
one_to_one n m k below below' same = elim (next_is n m below) [
  | inl a ↦
      elim (next_is n k below') [
        | inl b ↦ let x = a.1 in let y = b.1 in omega (arith, x, y, same)
        | inr b ↦ let x = a.1 in let y = b.1 in absurd (omega (arith, x, y, same))
      ]
  | inr a ↦
      elim (next_is n k below') [
        | inl b ↦ let x = a.1 in let y = b.1 in absurd (omega (arith, x, y, same))
        | inr b ↦ let x = a.0 in let y = b.0 in omega (arith, x, y)
      ]
]

pub secondaries-differ : SecondariesDiffer
secondaries-differ n m k two_ below below' = (differs n m two_ below, mod-lt (m + 1) (omega (arith, two_)), one_to_one n m k below below')

-- the place before, by the two cases
guards : (n c : ℕ) → 2 ≤ n → c < n → (((c + n - 1) % n) < n) × (((c + n - 1) % n + 1) % n ≡ c)
guards n zero two_ below =
    let first : 0 + n - 1 ≡ n - 1 = omega arith in
    let is : (0 + n - 1) % n ≡ n - 1 = ap (λ (k : ℕ). k % n) first ∙ mod-eq_of_lt (omega (arith, two_)) in
    let last : (0 + n - 1) % n + 1 ≡ n = omega (arith, is, two_) in
    (omega (arith, is, two_), ap (λ (k : ℕ). k % n) last ∙ mod_self n)
guards n (suc c) two_ below =
    let over : suc c + n - 1 ≡ c + n = omega arith in
    let is : (suc c + n - 1) % n ≡ c = ap (λ (k : ℕ). k % n) over ∙ add-mod_right c n ∙ mod-eq_of_lt (omega (arith, below)) in
    let next : (suc c + n - 1) % n + 1 ≡ suc c = omega (arith, is) in
    (omega (arith, is, below), ap (λ (k : ℕ). k % n) next ∙ mod-eq_of_lt below)

pub guards-its-own : GuardsItsOwn
guards-its-own n c two_ below = guards n c two_ below
