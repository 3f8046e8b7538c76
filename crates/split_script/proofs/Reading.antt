-- Blocks of a read, one after the other, are the read.
use Rattle.std.proofs.Common.{◌≡◌, ℕ, zero, suc, ◌+◌, ◌-◌, ◌*◌, ◌/◌, ◌%◌, ◌≤◌, ◌<◌, inl, inr, refl, sym, ◌∙◌, ap, List, [], ◌∷◌, ◌++◌, length, min, take, drop, append-nil, arith}
use Rattle.std.proofs.lemmas.Bool.{cases_lt}
use Rattle.std.proofs.lemmas.List.{length-drop, drop-drop}
use Rattle.lego_base.specs.Pieces.{piece, zeros}
use Rattle.lego_msg.specs.Files.{block_of}
use Rattle.split_script.specs.Cuts.{spans_in, units_met}
use Rattle.split_script.specs.Laws.{blocks_read, BlocksGiveTheRead}

-- a piece that ends before the padding, and within what is taken
inside : (ys more : List ℕ) (m off n : ℕ) → off + n ≤ m → off + n ≤ length ys → take n (drop off (take m (ys ++ more))) ≡ take n (drop off ys)
inside ys more m off zero low short = refl
inside [] more m off (suc n) low short = absurd (omega arith)
inside (y ∷ ys) more zero off (suc n) low short = absurd (omega arith)
inside (y ∷ ys) more (suc m) zero (suc n) low short = ap (λ (ys : List ℕ). y ∷ ys) (inside ys more m zero n (omega arith) (omega arith))
inside (y ∷ ys) more (suc m) (suc off) (suc n) low short = inside ys more m off (suc n) (omega arith) (omega arith)

one_block : (bytes : List ℕ) (off n : ℕ) → off % 4096 + n ≤ 4096 → (0 < n → off + n ≤ length bytes) → piece (block_of bytes (off / 4096)) (off % 4096) n ≡ take n (drop off bytes)
one_block bytes off zero room within = refl
one_block bytes off (suc n) room within =
    let all : off + suc n ≤ length bytes = within (omega arith) in
    let left : length (drop (off / 4096 * 4096) bytes) ≡ length bytes - off / 4096 * 4096 = length-drop (off / 4096 * 4096) bytes in
    let place : off / 4096 * 4096 + off % 4096 ≡ off = omega arith in
    inside (drop (off / 4096 * 4096) bytes) (zeros 4096) 4096 (off % 4096) (suc n) room (omega arith)
    ∙ ap (λ (ys : List ℕ). take (suc n) ys) (drop-drop (off % 4096) (off / 4096 * 4096) bytes)
    ∙ ap (λ (m : ℕ). take (suc n) (drop m bytes)) place

none_taken : (n : ℕ) → take {A = ℕ} n [] ≡ []
none_taken zero = refl
none_taken (suc n) = refl

take_more : (k n : ℕ) (ys : List ℕ) → take k ys ++ take n (drop k ys) ≡ take (k + n) ys
take_more zero n ys = let e : 0 + n ≡ n = omega arith in ap (λ (m : ℕ). take m ys) (sym e)
take_more (suc k) n [] = none_taken n ∙ sym (none_taken (suc k + n))
take_more (suc k) n (y ∷ ys) =
    let e : suc k + n ≡ suc (k + n) = omega arith in
    ap (λ (ys : List ℕ). y ∷ ys) (take_more k n ys) ∙ ap (λ (m : ℕ). take m (y ∷ ys)) (sym e)

-- the bytes up to a block's end, then the others where there are any
first_then : (bytes : List ℕ) (off n room : ℕ) → take (min n room) (drop off bytes) ++ take (n - room) (drop (off + room) bytes) ≡ take n (drop off bytes)
first_then bytes off n room = elim (cases_lt room n) [
  | inl more ↦
      let size : min n room ≡ room = omega arith in
      let sum : room + (n - room) ≡ n = omega arith in
      ap (λ (m : ℕ). take m (drop off bytes) ++ take (n - room) (drop (off + room) bytes)) size
      ∙ ap (λ (ys : List ℕ). take room (drop off bytes) ++ take (n - room) ys) (sym (drop-drop room off bytes))
      ∙ take_more room (n - room) (drop off bytes)
      ∙ ap (λ (m : ℕ). take m (drop off bytes)) sum
  | inr all ↦
      let size : min n room ≡ n = omega arith in
      let none : n - room ≡ 0 = omega arith in
      (λ i. take (size i) (drop off bytes) ++ take (none i) (drop (off + room) bytes)) ∙ append-nil (take n (drop off bytes))
]

spans_read : (bytes : List ℕ) (units off n : ℕ) → (0 < n → off + n ≤ length bytes) → (0 < n → off % 4096 + n ≤ units * 4096) → blocks_read bytes (spans_in 4096 units off n) ≡ take n (drop off bytes)
spans_read bytes zero off zero within enough = refl
spans_read bytes zero off (suc n) within enough = let some : off % 4096 + suc n ≤ 0 = enough (omega arith) in absurd (omega arith)
spans_read bytes (suc units) off n within enough =
    ap (λ (ys : List ℕ). ys ++ blocks_read bytes (spans_in 4096 units (off + (4096 - off % 4096)) (n - (4096 - off % 4096))))
    (one_block bytes off (min n (4096 - off % 4096)) (omega arith) (λ some. let all : off + n ≤ length bytes = within (omega arith) in omega arith))
    ∙ ap (λ (ys : List ℕ). take (min n (4096 - off % 4096)) (drop off bytes) ++ ys)
    (spans_read bytes units (off + (4096 - off % 4096)) (n - (4096 - off % 4096))
    (λ some. let all : off + n ≤ length bytes = within (omega arith) in omega arith)
    (λ some. let all : off % 4096 + n ≤ suc units * 4096 = enough (omega arith) in omega arith))
    ∙ first_then bytes off n (4096 - off % 4096)

suffice : (off n : ℕ) → 0 < n → off % 4096 + n ≤ units_met 4096 off n * 4096
suffice off zero some = absurd (omega arith)
suffice off (suc n) some = omega arith

pub reading : BlocksGiveTheRead
reading bytes off n within = spans_read bytes (units_met 4096 off n) off n (λ some. within) (suffice off n)
