-- Sums over lists.
use Rattle.std.proofs.Common.{◌≡◌, ◌+◌, ◌*◌, ◌≤◌, [], ◌∷◌, ◌++◌, ◌∙◌, ℕ, List, Some, ap, arith, drop, length, map, refl, slice_get, subst, suc, take, zero}
use Rattle.std.specs.Prelude.{slice_set}
use Rattle.lego_msg.proofs.Senders.{same_some}
use Rattle.lego_waits.specs.Measure.{total}

pub total-append : {X : Type 0} (f : X → ℕ) (xs ys : List X) → total f (xs ++ ys) ≡ total f xs + total f ys
total-append f [] ys = omega arith
total-append f (x ∷ xs) ys = let rest : total f (xs ++ ys) ≡ total f xs + total f ys = total-append f xs ys in omega (arith, rest)

-- one place set
pub total-set : {X : Type 0} (f : X → ℕ) (xs : List X) (i : ℕ) (old new : X) → slice_get xs i ≡ Some old → total f (slice_set xs i new) + f old ≡ total f xs + f new
total-set f [] i old new at = cc at
total-set f (x ∷ xs) zero old new at = let same : f x ≡ f old = ap f (same_some x old at) in omega (arith, same)
total-set f (x ∷ xs) (suc i) old new at = let rest : total f (slice_set xs i new) + f old ≡ total f xs + f new = total-set f xs i old new at in omega (arith, rest)

-- one of a list is no more than the whole
pub total-least : {X : Type 0} (f : X → ℕ) (xs : List X) (i : ℕ) (x : X) → slice_get xs i ≡ Some x → f x ≤ total f xs
total-least f [] i x at = cc at
total-least f (y ∷ ys) zero x at = let same : f y ≡ f x = ap f (same_some y x at) in omega (arith, same)
total-least f (y ∷ ys) (suc i) x at = let rest : f x ≤ total f ys = total-least f ys i x at in omega (arith, rest)

-- one taken out
pub total-out : {X : Type 0} (f : X → ℕ) (xs : List X) (i : ℕ) (x : X) → slice_get xs i ≡ Some x → total f xs ≡ total f (take i xs ++ drop (i + 1) xs) + f x
total-out f [] i x at = cc at
total-out f (y ∷ ys) zero x at = let same : f y ≡ f x = ap f (same_some y x at) in omega (arith, same)
total-out {X = X} f (y ∷ ys) (suc i) x at =
    let rest : total f ys ≡ total f (take i ys ++ drop (i + 1) ys) + f x = total-out f ys i x at in
    let place : suc (i + 1) ≡ suc i + 1 = omega arith in
    subst (λ (n : ℕ). total f (y ∷ ys) ≡ total f (take (suc i) (y ∷ ys) ++ drop n (y ∷ ys)) + f x) place (omega (arith, rest))

-- without the first one, where there is one
pub total-rest : {X : Type 0} (f : X → ℕ) (xs : List X) → total f (drop 1 xs) ≤ total f xs
total-rest f [] = omega arith
total-rest f (x ∷ xs) = omega arith

-- another function, by bounds
pub total-most : {X : Type 0} (f g h : X → ℕ) (xs : List X) → ((x : X) → f x ≤ g x + h x) → total f xs ≤ total g xs + total h xs
total-most f g h [] most = omega arith
total-most f g h (x ∷ xs) most =
    let one : f x ≤ g x + h x = most x in
    let rest : total f xs ≤ total g xs + total h xs = total-most f g h xs most in
    omega (arith, one, rest)

pub total-same : {X : Type 0} (f g : X → ℕ) (xs : List X) → ((x : X) → f x ≡ g x) → total f xs ≡ total g xs
total-same f g [] same = refl
total-same f g (x ∷ xs) same = λ i. same x i + total-same f g xs same i

pub total-times : {X : Type 0} (k : ℕ) (f : X → ℕ) (xs : List X) → total (λ (x : X). k * f x) xs ≡ k * total f xs
total-times {X = X} k f [] = omega arith
total-times {X = X} k f (x ∷ xs) = let rest : total (λ (x : X). k * f x) xs ≡ k * total f xs = total-times k f xs in ap (λ (n : ℕ). k * f x + n) rest ∙ omega arith

pub total-map : {X Y : Type 0} (f : Y → ℕ) (g : X → Y) (xs : List X) → total f (map g xs) ≡ total (λ (x : X). f (g x)) xs
total-map f g [] = refl
total-map f g (x ∷ xs) = λ i. f (g x) + total-map f g xs i

-- each the same number
pub total-each : {X : Type 0} (k : ℕ) (xs : List X) → total (λ (x : X). k) xs ≡ length xs * k
total-each {X = X} k [] = omega arith
total-each {X = X} k (x ∷ xs) = let rest : total (λ (x : X). k) xs ≡ length xs * k = total-each k xs in omega (arith, rest)
