-- The product of two signed words in 128 bits.
use Rattle.std.proofs.Common.{◌≡◌, ℕ, ℤ, pos, negsuc, ◌*ℤ◌, ◌^◌, ◌≤◌, ◌<◌, FitsSigned, to_z, of_z, unsigned_abs, w64, arith, lit<}
use Rattle.std.proofs.lemmas.Int.{fits_signed_mul, to_z-of_z, ints}
use Rattle.std.specs.Int.{int_rem_euclid, w128}
use Rattle.rv64_step.specs.Word.{signed}

of_z_is : (z : ℤ) → FitsSigned w128 z → of_z w128 z ≡ unsigned_abs (int_rem_euclid z (pos (2 ^ 128)))
of_z_is (pos n) fits = omega (arith, ints)
of_z_is (negsuc n) fits = omega (arith, ints)

pub signed_is : (n : ℕ) → n < 2 ^ 64 → to_z w64 n ≡ signed n
signed_is n fits = grind (arith, ints)

pub product_is : (x y : ℤ) → FitsSigned w64 x → FitsSigned w64 y → of_z w128 (to_z w128 (of_z w128 (to_z w128 (of_z w128 (to_z w64 (of_z w64 x))) *ℤ to_z w128 (of_z w128 (to_z w64 (of_z w64 y)))))) ≡ unsigned_abs (int_rem_euclid (x *ℤ y) (pos (2 ^ 128)))
product_is x y fx fy =
    let ax : unsigned_abs x ≤ 2 ^ 63 = omega (arith, ints) in
    let ay : unsigned_abs y ≤ 2 ^ 63 = omega (arith, ints) in
    let fits : FitsSigned w128 (x *ℤ y) = fits_signed_mul w128 x y (2 ^ 63) (2 ^ 63) ax ay (lit< tt) in
    let wide_x : FitsSigned w128 x = omega (arith, ints) in
    let wide_y : FitsSigned w128 y = omega (arith, ints) in
    simp to_z-of_z (of_z_is (x *ℤ y) fits)
