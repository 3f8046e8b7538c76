-- Lists of zeros.
use Rattle.std.proofs.Common.{◌≡◌, ℕ, zero, suc, ◌+◌, ◌-◌, List, [], ◌∷◌, ◌++◌, length, get_or, take, replicate, refl, ◌∙◌, ap, arith}
use Rattle.std.proofs.lemmas.List.{take_all}

-- each number of such a list is 0, and so is what stands for one past its end
pub get_or-zeros : (n k : ℕ) → ◌≡◌ {A = ℕ} (get_or (replicate n 0) k 0) 0
get_or-zeros zero k = refl
get_or-zeros (suc n) zero = refl
get_or-zeros (suc n) (suc k) = get_or-zeros n k

pub all_zero : (xs : List ℕ) (n : ℕ) → xs ≡ replicate n 0 → (k : ℕ) → get_or xs k 0 ≡ 0
all_zero xs n e k = ap (λ ys. get_or ys k 0) e ∙ get_or-zeros n k

-- zeros after a list change nothing
pub get_or-append_zeros : (xs : List ℕ) (n k : ℕ) → get_or (xs ++ replicate n 0) k 0 ≡ get_or xs k 0
get_or-append_zeros [] n k = get_or-zeros n k
get_or-append_zeros (x ∷ xs) n zero = refl
get_or-append_zeros (x ∷ xs) n (suc k) = get_or-append_zeros xs n k

-- what `resize` gives where a list grows
pub grown : (xs new : List ℕ) (len n m : ℕ) → len ≡ length xs → n ≡ length xs → new ≡ take (n + m) xs ++ replicate (n + m - len) 0 → new ≡ xs ++ replicate m 0
grown xs new len n m l e h =
    let rest : n + m - len ≡ m = omega arith in
    h ∙ ap (λ ys. ys ++ replicate (n + m - len) 0) (take_all (n + m) xs (omega arith)) ∙ ap (λ k. xs ++ replicate k 0) rest
