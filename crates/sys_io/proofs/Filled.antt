-- A buffer that was filled with the first bytes of others.
use Rattle.std.proofs.Common.{◌≡◌, ℕ, ◌≤◌, min, refl, ◌∙◌, ap, List, [], ◌∷◌, ◌++◌, append-nil, length, take, drop, arith}
use Rattle.std.proofs.lemmas.List.{length-drop, take_all}

empty : (l : List ℕ) → length l ≡ 0 → l ≡ []
empty [] e = refl
empty (x ∷ l) e = cc e

-- the whole of it was
pub filled : (buf bytes : List ℕ) (r count : ℕ) → length buf ≡ count → count ≤ length bytes → r ≡ min (length buf) (length bytes) → (r ≡ count) × (take r bytes ++ drop r buf ≡ take count bytes)
filled buf bytes r count size enough r_is =
    let same : r ≡ count = omega (arith, size, enough, r_is) in
    let rest = length-drop r buf in
    let none : length (drop r buf) ≡ 0 = omega (arith, rest, same, size) in
    (same, (λ i. take (same i) bytes ++ empty (drop r buf) none i) ∙ append-nil (take count bytes))

-- a vector into whose slice a list of its length was written
pub written_back : (old new : List ℕ) (len : ℕ) → length old ≡ len → length new ≡ len → take len (new ++ drop (length new) old) ≡ new
written_back old new len before after =
    let rest = length-drop (length new) old in
    let none : length (drop (length new) old) ≡ 0 = omega (arith, rest, before, after) in
    let all : length new ≤ len = omega (arith, after) in
    ap (λ (l : List ℕ). take len (new ++ l)) (empty (drop (length new) old) none) ∙ ap (take len) (append-nil new) ∙ take_all len new all
