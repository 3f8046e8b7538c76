-- The bit operations of two words are those of their digits.
use Rattle.std.proofs.Common.{◌≡◌, ℕ, zero, suc, ◌+◌, ◌-◌, ◌*◌, ◌/◌, ◌%◌, ◌^◌, ◌<◌, ◌≤◌, min, max, sym, ◌∙◌, ap, subst, arith, bit_and, bit_or, bit_xor}
use Rattle.std.proofs.lemmas.Nat.{mod-pow-add, xor_lt, or_lt, and_le_l}
use Rattle.std.proofs.lemmas.Nat.Bits.{bit_at_xor, bit_at_or, bit_at_and, bit_at-lt}
use Rattle.rv64_step.specs.Arith.{digit, number_by, xor, or, and}

-- a number is made of its digits
digits_make : (n k : ℕ) → number_by k (digit n) ≡ n % 2 ^ k
unfolding number_by
digits_make n zero = omega arith
digits_make n (suc k) =
    let before : number_by k (digit n) ≡ n % 2 ^ k = digits_make n k in
    let more : 1 + k ≡ suc k = omega arith in
    let split : n % 2 ^ suc k ≡ (n / 2 ^ k % 2 ^ 1) * 2 ^ k + n % 2 ^ k = subst (λ (m : ℕ). n % 2 ^ m ≡ (n / 2 ^ k % 2 ^ 1) * 2 ^ k + n % 2 ^ k) more (mod-pow-add n 1 k) in
    omega (arith, before, split)

made_of : (n : ℕ) (f : ℕ → ℕ) → n < 2 ^ 64 → ((i : ℕ) → digit n i ≡ f i) → n ≡ number_by 64 f
made_of n f fits each =
    let whole : n % 2 ^ 64 ≡ n = omega arith in
    sym whole ∙ sym (digits_make n 64) ∙ ap (number_by 64) (λ j i. each i j)

product_of_bits : (a b : ℕ) → a < 2 → b < 2 → min a b ≡ a * b
product_of_bits zero b h k = omega arith
product_of_bits (suc zero) b h k = omega arith
product_of_bits (suc (suc a)) b h k = let no : ⊥ = omega arith in absurd no

sum_of_bits : (a b : ℕ) → a < 2 → b < 2 → max a b ≡ a + b - a * b
sum_of_bits zero b h k = omega arith
sum_of_bits (suc zero) b h k = omega arith
sum_of_bits (suc (suc a)) b h k = let no : ⊥ = omega arith in absurd no

pub xor_is : (a b : ℕ) → a < 2 ^ 64 → b < 2 ^ 64 → bit_xor a b ≡ xor a b
xor_is a b fits fits' = made_of (bit_xor a b) _ (xor_lt 64 a b fits fits') (bit_at_xor a b)

pub or_is : (a b : ℕ) → a < 2 ^ 64 → b < 2 ^ 64 → bit_or a b ≡ or a b
or_is a b fits fits' = made_of (bit_or a b) _ (or_lt 64 a b fits fits') (λ i. bit_at_or a b i ∙ sum_of_bits (digit a i) (digit b i) (bit_at-lt a i) (bit_at-lt b i))

pub and_is : (a b : ℕ) → a < 2 ^ 64 → b < 2 ^ 64 → bit_and a b ≡ and a b
and_is a b fits fits' =
    let le : bit_and a b ≤ a = and_le_l a b in
    made_of (bit_and a b) _ (omega arith) (λ i. bit_at_and a b i ∙ product_of_bits (digit a i) (digit b i) (bit_at-lt a i) (bit_at-lt b i))
