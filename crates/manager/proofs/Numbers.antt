-- Counts of numbers.
use Rattle.std.proofs.Common.{◌≡◌, ℕ, zero, suc, refl, slice_index, replicate}

-- a list of zeros, and what is past its end
pub all_zero : (n m : ℕ) → slice_index (replicate n 0) m ≡ 0
all_zero zero m = refl
all_zero (suc n) zero = refl
all_zero (suc n) (suc m) = all_zero n m
