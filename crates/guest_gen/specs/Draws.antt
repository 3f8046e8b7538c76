-- Numbers drawn from a seed by a linear congruential generator: the multiplier and the increment are those that Numerical
-- Recipes gives for 32 bits.
use Rattle.std.specs.Prelude.{ℕ, zero, suc, ◌+◌, ◌*◌, ◌/◌, ◌%◌, ◌^◌, List, [], ◌∷◌}

-- the next state
abbrev pub next : ℕ → ℕ
next state = (state * 1664525 + 1013904223) % 2 ^ 32

-- the number below k that is drawn: from the upper bits, which repeat latest
abbrev pub drawn : ℕ → ℕ → ℕ
drawn k state = next state / 65536 % k

-- the state after n draws
abbrev pub after : ℕ → ℕ → ℕ
after zero state = state
after (suc n) state = after n (next state)

-- n numbers below k
abbrev pub draws : ℕ → ℕ → ℕ → List ℕ
draws zero k state = []
draws (suc n) k state = drawn k state ∷ draws n k (next state)
