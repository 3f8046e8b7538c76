-- Which immediates each format can hold.
use Rattle.std.proofs.Common.{ℕ, ℤ, ◌≡◌, ◌<◌, ◌≤◌, ◌+◌, ◌-◌, ◌*◌, ◌^◌, pos, ◌-ℤ◌, nat_lt, refl, arith}
use Rattle.std.proofs.lemmas.Bool.{cond_both, ltb-true, ltb-false}
use Rattle.std.proofs.lemmas.Int.{ints}
use Rattle.rv64_decode.specs.declared.encoding.Format.TheVariants.{RType, IType, SType, BType, UType, JType, Shift, ShiftWord}
use Rattle.rv64_decode.specs.Encoding.{field, sign_extended}
use Rattle.rv64_decode.specs.Laws.{IsWithin, ImmediatesInRange}

-- the two cases of a sign
by_sign : (P : ℤ → Type 0) (width n : ℕ) → (n < 2 ^ (width - 1) → P (pos n)) → (2 ^ (width - 1) ≤ n → P (pos n -ℤ pos (2 ^ width))) → P (sign_extended width n)
by_sign P width n plus minus =
    cond_both (nat_lt n (2 ^ (width - 1))) (pos n) (pos n -ℤ pos (2 ^ width)) P
    (λ e. plus (ltb-true n (2 ^ (width - 1)) e)) (λ e. minus (ltb-false n (2 ^ (width - 1)) e))

within_12 : (n : ℕ) → n < 2 ^ 12 → IsWithin (pos 0 -ℤ pos (2 ^ 11)) (pos (2 ^ 11) -ℤ pos 1) (pos 1) (sign_extended 12 n)
within_12 n most =
    by_sign (IsWithin (pos 0 -ℤ pos (2 ^ 11)) (pos (2 ^ 11) -ℤ pos 1) (pos 1)) 12 n
    (λ h. record { least = omega (arith, ints); most = omega (arith, ints); multiple = (pos n, omega (arith, ints)) })
    (λ h. record { least = omega (arith, ints); most = omega (arith, ints); multiple = (pos n -ℤ pos (2 ^ 12), omega (arith, ints)) })

within_13 : (m : ℕ) → m < 2 ^ 12 → (n : ℕ) → n ≡ m * 2 → IsWithin (pos 0 -ℤ pos (2 ^ 12)) (pos (2 ^ 12) -ℤ pos 2) (pos 2) (sign_extended 13 n)
within_13 m most n e =
    by_sign (IsWithin (pos 0 -ℤ pos (2 ^ 12)) (pos (2 ^ 12) -ℤ pos 2) (pos 2)) 13 n
    (λ h. record { least = omega (arith, ints); most = omega (arith, ints); multiple = (pos m, omega (arith, ints)) })
    (λ h. record { least = omega (arith, ints); most = omega (arith, ints); multiple = (pos m -ℤ pos (2 ^ 12), omega (arith, ints)) })

within_21 : (m : ℕ) → m < 2 ^ 20 → (n : ℕ) → n ≡ m * 2 → IsWithin (pos 0 -ℤ pos (2 ^ 20)) (pos (2 ^ 20) -ℤ pos 2) (pos 2) (sign_extended 21 n)
within_21 m most n e =
    by_sign (IsWithin (pos 0 -ℤ pos (2 ^ 20)) (pos (2 ^ 20) -ℤ pos 2) (pos 2)) 21 n
    (λ h. record { least = omega (arith, ints); most = omega (arith, ints); multiple = (pos m, omega (arith, ints)) })
    (λ h. record { least = omega (arith, ints); most = omega (arith, ints); multiple = (pos m -ℤ pos (2 ^ 20), omega (arith, ints)) })

within_32 : (m : ℕ) → m < 2 ^ 20 → IsWithin (pos 0 -ℤ pos (2 ^ 31)) (pos (2 ^ 31) -ℤ pos (2 ^ 12)) (pos (2 ^ 12)) (sign_extended 32 (m * 2 ^ 12))
within_32 m most =
    by_sign (IsWithin (pos 0 -ℤ pos (2 ^ 31)) (pos (2 ^ 31) -ℤ pos (2 ^ 12)) (pos (2 ^ 12))) 32 (m * 2 ^ 12)
    (λ h. record { least = omega (arith, ints); most = omega (arith, ints); multiple = (pos m, omega (arith, ints)) })
    (λ h. record { least = omega (arith, ints); most = omega (arith, ints); multiple = (pos m -ℤ pos (2 ^ 20), omega (arith, ints)) })

pub immediate_within : ImmediatesInRange
immediate_within RType w = refl
immediate_within IType w = within_12 (field 20 12 w) (omega arith)
immediate_within SType w = within_12 (field 7 5 w + field 25 7 w * 2 ^ 5) (omega arith)
immediate_within BType w = within_13 (field 8 4 w + field 25 6 w * 2 ^ 4 + field 7 1 w * 2 ^ 10 + field 31 1 w * 2 ^ 11) (omega arith) (field 8 4 w * 2 ^ 1 + field 25 6 w * 2 ^ 5 + field 7 1 w * 2 ^ 11 + field 31 1 w * 2 ^ 12) (omega arith)
immediate_within UType w = within_32 (field 12 20 w) (omega arith)
immediate_within JType w = within_21 (field 21 10 w + field 20 1 w * 2 ^ 10 + field 12 8 w * 2 ^ 11 + field 31 1 w * 2 ^ 19) (omega arith) (field 21 10 w * 2 ^ 1 + field 20 1 w * 2 ^ 11 + field 12 8 w * 2 ^ 12 + field 31 1 w * 2 ^ 20) (omega arith)
immediate_within Shift w = record { least = omega (arith, ints); most = omega (arith, ints); multiple = (pos (field 20 6 w), omega (arith, ints)) }
immediate_within ShiftWord w = record { least = omega (arith, ints); most = omega (arith, ints); multiple = (pos (field 20 5 w), omega (arith, ints)) }
