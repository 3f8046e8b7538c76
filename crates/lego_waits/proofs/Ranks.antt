-- When the rank falls.
use Rattle.std.proofs.Common.{◌≡◌, ◌+◌, ◌-◌, ◌*◌, ◌<◌, ◌≤◌, ℕ, arith, subst, suc, zero}
use Rattle.std.proofs.lemmas.Nat.{mul-le}
use Rattle.lego_waits.specs.Measure.{held, rank, stairs, ways, width}

width_grows : (n p q : ℕ) → p ≤ q → width n p ≤ width n q
width_grows n p q le = omega (arith, le)

-- stairs rise
climb : (n p d : ℕ) → stairs n p ≤ stairs n (d + p)
climb n p zero = let same : p ≡ 0 + p = omega arith in subst (λ (m : ℕ). stairs n p ≤ stairs n m) same (omega arith)
climb n p (suc d) =
    let before : stairs n p ≤ stairs n (d + p) = climb n p d in
    let same : suc (d + p) ≡ suc d + p = omega arith in
    subst (λ (m : ℕ). stairs n p ≤ stairs n m) same (omega (arith, before))

stairs_rise : (n p q : ℕ) → p ≤ q → stairs n p ≤ stairs n q
stairs_rise n p q le = subst (λ (m : ℕ). stairs n p ≤ stairs n m) (omega (arith, le)) (climb n p (q - p))

-- and by two widths where they rise by one at least
stairs_rise_more : (n p q : ℕ) → p < q → stairs n p + 2 * width n q ≤ stairs n q
stairs_rise_more n p zero le = absurd (omega (arith, le))
stairs_rise_more n p (suc q) le =
    let below : stairs n p ≤ stairs n q = stairs_rise n p q (omega (arith, le)) in
    omega (arith, below)

times_grows : (a b l m : ℕ) → a ≤ b → l ≤ m → a * l ≤ b * m
times_grows a b l m x y = mul-le a l b m x y

one_more : (a l : ℕ) → a * (l + 1) ≡ a * l + a
one_more a l = omega arith

-- THE THREE WAYS in which it falls

pub weights_fall : (n p p' l l' w w' : ℕ) → p' ≤ p → l' ≤ l → w' < w → rank n p' l' w' < rank n p l w
weights_fall n p p' l l' w w' ways held lighter =
    let a : stairs n p' ≤ stairs n p = stairs_rise n p' p ways in
    let b : width n p' * l' ≤ width n p * l = times_grows (width n p') (width n p) l' l (width_grows n p' p ways) held in
    sums (stairs n p') (stairs n p) (width n p' * l') (width n p * l) w' w a b lighter
  where
    sums : (a b c d e f : ℕ) → a ≤ b → c ≤ d → e < f → a + c + e < b + d + f
    sums a b c d e f x y z = omega (arith, x, y, z)

pub held_falls : (n p p' l l' w w' : ℕ) → p' ≤ p → l' < l → w' ≤ w + (29 * p + (20 * n + 99)) → rank n p' l' w' < rank n p l w
held_falls n p p' l l' w w' ways held more =
    let a : stairs n p' ≤ stairs n p = stairs_rise n p' p ways in
    let b : width n p' * l' ≤ width n p * l' = times_grows (width n p') (width n p) l' l' (width_grows n p' p ways) (omega arith) in
    let c : width n p * (l' + 1) ≤ width n p * l = times_grows (width n p) (width n p) (l' + 1) l (omega arith) (omega (arith, held)) in
    let d : width n p * (l' + 1) ≡ width n p * l' + width n p = one_more (width n p) l' in
    sums (stairs n p') (stairs n p) (width n p' * l') (width n p * l') (width n p * (l' + 1)) (width n p * l) n p w' w a b c d more
  where
    sums : (a b c d e f n p w' w : ℕ) → a ≤ b → c ≤ d → e ≤ f → e ≡ d + (30 * p + (20 * n + 100)) → w' ≤ w + (29 * p + (20 * n + 99)) → a + c + w' < b + f + w
    sums a b c d e f n p w' w x y z u v = omega (arith, x, y, z, u, v)

pub ways_fall : (n p p' l l' w w' : ℕ) → p' < p → l' ≤ l + 1 → w' ≤ w + (29 * p + (20 * n + 99)) → rank n p' l' w' < rank n p l w
ways_fall n p p' l l' w w' ways held more =
    let a : stairs n p' + 2 * width n p ≤ stairs n p = stairs_rise_more n p' p ways in
    let b : width n p' * l' ≤ width n p * (l + 1) = times_grows (width n p') (width n p) l' (l + 1) (width_grows n p' p (omega (arith, ways))) held in
    let c : width n p * (l + 1) ≡ width n p * l + width n p = one_more (width n p) l in
    sums (stairs n p') (stairs n p) (width n p' * l') (width n p * (l + 1)) (width n p * l) n p w' w a b c more
  where
    sums : (a b c d e n p w' w : ℕ) → a + 2 * (30 * p + (20 * n + 100)) ≤ b → c ≤ d → d ≡ e + (30 * p + (20 * n + 100)) → w' ≤ w + (29 * p + (20 * n + 99)) → a + c + w' < b + e + w
    sums a b c d e n p w' w x y z u = omega (arith, x, y, z, u)
