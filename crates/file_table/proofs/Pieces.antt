-- The bytes of a file: what a write leaves and what a block has, in the words of the definitions.
use Rattle.std.proofs.Common.{◌≡◌, ◌⊎◌, ◌+◌, ◌-◌, ◌*◌, ◌^◌, ◌<◌, ◌≤◌, [], ◌∷◌, ◌++◌, ◌∙◌, ℕ, List, ap, arith, cond, drop, inl, inr, length, length-append, length-drop, max, min, refl, sym, take}
use Rattle.std.proofs.lemmas.Bool.{cases_lt, ne_eqb}
use Rattle.std.proofs.lemmas.List.{append-nil, drop_all, drop_min, length-replicate, length-take, take-append-le, take-replicate, take_all, take_min}
use Rattle.std.proofs.Math.Seq.{take-append-add}
use Rattle.lego_base.specs.Pieces.{laid_over, of_size, written_at, zeros}
use Rattle.lego_msg.specs.Files.{block_of}
use Rattle.file_table.specs.Numbers.{size_after}

-- SIZES
of_size_within : (n : ℕ) (bytes : List ℕ) → n ≤ length bytes → of_size n bytes ≡ take n bytes
of_size_within n bytes h =
    let none : n - length bytes ≡ 0 = omega arith in
    ap (λ k. take n bytes ++ zeros k) none ∙ append-nil (take n bytes)

of_size_past : (n : ℕ) (bytes : List ℕ) → length bytes ≤ n → of_size n bytes ≡ bytes ++ zeros (n - length bytes)
of_size_past n bytes h = ap (λ t. t ++ zeros (n - length bytes)) (take_all n bytes h)

pub length-of_size : (n : ℕ) (bytes : List ℕ) → length (of_size n bytes) ≡ n
length-of_size n bytes =
    omega (arith, length-append (take n bytes) (zeros (n - length bytes)), length-take n bytes, length-replicate {A = ℕ} (n - length bytes) 0)

-- the first bytes of some that were filled up with zeros
take_filled : (m n : ℕ) (bytes : List ℕ) → m ≤ n → take m (bytes ++ zeros n) ≡ of_size m bytes
take_filled m n bytes h = by (cases_lt (length bytes) m)
  where
    by : (length bytes < m) ⊎ (m ≤ length bytes) → take m (bytes ++ zeros n) ≡ of_size m bytes
    by (inl past) =
        let k : m ≡ length bytes + (m - length bytes) = omega arith in
        let few : m - length bytes ≤ n = omega arith in
        ap (λ j. take j (bytes ++ zeros n)) k ∙ take-append-add bytes (zeros n) (m - length bytes)
        ∙ ap (λ t. bytes ++ t) (take-replicate (m - length bytes) n 0 few)
        ∙ sym (of_size_past m bytes (omega arith))
    by (inr within) = take-append-le m bytes (zeros n) within ∙ sym (of_size_within m bytes within)

take_sized : (m n : ℕ) (bytes : List ℕ) → m ≤ n → length bytes ≤ n → take m (of_size n bytes) ≡ of_size m bytes
take_sized m n bytes h long = ap (take m) (of_size_past n bytes long) ∙ by (cases_lt (length bytes) m)
  where
    by : (length bytes < m) ⊎ (m ≤ length bytes) → take m (bytes ++ zeros (n - length bytes)) ≡ of_size m bytes
    by (inl past) =
        let k : m ≡ length bytes + (m - length bytes) = omega arith in
        let few : m - length bytes ≤ n - length bytes = omega arith in
        ap (λ j. take j (bytes ++ zeros (n - length bytes))) k ∙ take-append-add bytes (zeros (n - length bytes)) (m - length bytes)
        ∙ ap (λ t. bytes ++ t) (take-replicate (m - length bytes) (n - length bytes) 0 few)
        ∙ sym (of_size_past m bytes (omega arith))
    by (inr within) = take-append-le m bytes (zeros (n - length bytes)) within ∙ sym (of_size_within m bytes within)

-- WRITES: the bytes are filled up to the piece's end, and the piece is laid over them
drop_sized : (k : ℕ) (bytes : List ℕ) → drop k (of_size (max (length bytes) k) bytes) ≡ drop k bytes
drop_sized k bytes = by (cases_lt (length bytes) k)
  where
    by : (length bytes < k) ⊎ (k ≤ length bytes) → drop k (of_size (max (length bytes) k) bytes) ≡ drop k bytes
    by (inl past) =
        let size = length-of_size (max (length bytes) k) bytes in
        drop_all k (of_size (max (length bytes) k) bytes) (omega arith) ∙ sym (drop_all k bytes (omega arith))
    by (inr within) =
        let n : max (length bytes) k ≡ length bytes = omega arith in
        ap (drop k) (ap (λ j. of_size j bytes) n ∙ of_size_within (length bytes) bytes (omega arith) ∙ take_all (length bytes) bytes (omega arith))

pub written : (old : List ℕ) (off : ℕ) (piece : List ℕ) → 0 < length piece → laid_over (of_size (max (length old) (off + length piece)) old) off piece ≡ written_at old off piece
written old off [] some = absurd (omega arith)
written old off (b ∷ bs) some =
    let end = off + length (b ∷ bs) in
    let full = of_size (max (length old) end) old in
    ap (λ t. t ++ b ∷ bs ++ drop end full) (take_sized off (max (length old) end) old (omega arith) (omega arith))
    ∙ ap (λ t. of_size off old ++ b ∷ bs ++ t) (drop_sized end old)

pub length-written : (old : List ℕ) (off : ℕ) (piece : List ℕ) → length (written_at old off piece) ≡ size_after (length old) off (length piece)
length-written old off [] = refl
length-written old off (b ∷ bs) =
    let piece = b ∷ bs in
    let front : length (of_size off old ++ piece) ≡ off + length piece = length-append (of_size off old) piece ∙ ap (λ k. k + length piece) (length-of_size off old) in
    let back : length (drop (off + length piece) old) ≡ length old - (off + length piece) = length-drop (off + length piece) old in
    let whole : length (of_size off old ++ piece ++ drop (off + length piece) old) ≡ length (of_size off old ++ piece) + length (drop (off + length piece) old) = length-append (of_size off old ++ piece) (drop (off + length piece) old) in
    let size : length (of_size off old ++ piece ++ drop (off + length piece) old) ≡ max (length old) (off + length piece) = omega (arith, whole, front, back) in
    size ∙ sym (ap (λ e. cond e (length old) (max (length old) (off + length piece))) (ne_eqb (length piece) 0 (λ e. omega (arith, e))))

-- BLOCKS: the part of a block that is there, filled up
pub block_is : (bytes : List ℕ) (block from start : ℕ) → from ≡ min (block * 4096) (2 ^ 64 - 1) → length bytes < 2 ^ 63 → start ≡ min from (length bytes) →
    of_size 4096 (take (min (length bytes) (start + 4096) - start) (drop start bytes)) ≡ block_of bytes block
block_is bytes block from start f short s =
    let least : start ≡ min (block * 4096) (length bytes) = omega arith in
    let rest : drop start bytes ≡ drop (block * 4096) bytes = ap (λ k. drop k bytes) least ∙ drop_min (block * 4096) bytes in
    let D = drop (block * 4096) bytes in
    let size : length (drop start bytes) ≡ length bytes - start = length-drop start bytes in
    let much : min (length bytes) (start + 4096) - start ≡ min 4096 (length (drop start bytes)) = omega arith in
    ap (λ k. of_size 4096 (take k (drop start bytes))) much
    ∙ ap (of_size 4096) (take_min 4096 (drop start bytes) ∙ ap (take 4096) rest)
    ∙ again D
    ∙ sym (take_filled 4096 4096 D (omega arith))
  where
    again : (bytes : List ℕ) → of_size 4096 (take 4096 bytes) ≡ of_size 4096 bytes
    again bytes = by (cases_lt (length bytes) 4096)
      where
        by : (length bytes < 4096) ⊎ (4096 ≤ length bytes) → of_size 4096 (take 4096 bytes) ≡ of_size 4096 bytes
        by (inl short) = ap (of_size 4096) (take_all 4096 bytes (omega arith))
        by (inr long) =
            let n : length (take 4096 bytes) ≡ 4096 = omega (arith, length-take 4096 bytes) in
            of_size_within 4096 (take 4096 bytes) (omega arith) ∙ take_all 4096 (take 4096 bytes) (omega arith) ∙ sym (of_size_within 4096 bytes long)
