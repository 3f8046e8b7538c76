-- The blocks of a file once bytes are written into one of them, byte by byte.
use Rattle.std.proofs.Common.{◌≡◌, ◌+◌, ◌-◌, ◌*◌, ◌<◌, ◌≤◌, [], ◌∷◌, ◌++◌, ◌∙◌, ℕ, List, ap, arith, drop, get_or, inl, inr, length, length-append, refl, suc, sym, take, zero}
use Rattle.std.proofs.Math.ListN.{get_or-append}
use Rattle.std.proofs.lemmas.Bool.{cases_lt}
use Rattle.std.proofs.lemmas.List.{ext_get_or, get_or-append_right, get_or-drop, get_or-take, length-drop, length-replicate, length-take-le, take_all}
use Rattle.lego_base.specs.Pieces.{of_size, written_at, zeros}
use Rattle.lego_msg.specs.Files.{block_of}

-- past the end of bytes nothing is read, and zeros read 0
past_end : (bytes : List ℕ) (i : ℕ) → length bytes ≤ i → get_or bytes i 0 ≡ 0
past_end [] i most = refl
past_end (b ∷ bytes) zero most = absurd (omega (arith, most))
past_end (b ∷ bytes) (suc i) most = past_end bytes i (omega (arith, most))

zero_at : (n i : ℕ) → get_or (zeros n) i 0 ≡ 0
zero_at zero i = refl
zero_at (suc n) zero = refl
zero_at (suc n) (suc i) = zero_at n i

take_length : (n : ℕ) (bytes : List ℕ) → (length (take n bytes) ≤ n) × (length (take n bytes) ≤ length bytes)
take_length zero [] = (omega arith, omega arith)
take_length zero (b ∷ bytes) = (omega arith, omega arith)
take_length (suc n) [] = (omega arith, omega arith)
take_length (suc n) (b ∷ bytes) = let rest = take_length n bytes in let most = rest.0 in let less = rest.1 in (omega (arith, most), omega (arith, less))

-- the first n bytes with zeros behind them read as the bytes do
padded : (bytes : List ℕ) (m i : ℕ) → get_or (bytes ++ zeros m) i 0 ≡ get_or bytes i 0
padded bytes m i = elim (cases_lt i (length bytes)) [
  | inl less ↦ get_or-append bytes (zeros m) 0 i less
  | inr most ↦ get_or-append_right bytes (zeros m) (length bytes) i 0 refl most ∙ zero_at m (i - length bytes) ∙ sym (past_end bytes i most)
]

pub sized_length : (n : ℕ) (bytes : List ℕ) → length (of_size n bytes) ≡ n
sized_length n bytes =
    let all : length (take n bytes ++ zeros (n - length bytes)) ≡ length (take n bytes) + length (zeros (n - length bytes)) = length-append (take n bytes) (zeros (n - length bytes)) in
    let behind : length (zeros (n - length bytes)) ≡ n - length bytes = length-replicate {A = ℕ} (n - length bytes) 0 in
    elim (cases_lt (length bytes) n) [
      | inl less ↦ let whole : length (take n bytes) ≡ length bytes = ap length (take_all n bytes (omega (arith, less))) in omega (arith, all, behind, whole, less)
      | inr most ↦ let front : length (take n bytes) ≡ n = length-take-le n bytes most in omega (arith, all, behind, front, most)
    ]

sized_at : (n : ℕ) (bytes : List ℕ) (i : ℕ) → i < n → get_or (of_size n bytes) i 0 ≡ get_or bytes i 0
sized_at n bytes i less = padded (take n bytes) (n - length bytes) i ∙ get_or-take n bytes i 0 less

-- SIZES AND PIECES, once or twice
pub sized_twice : (n : ℕ) (bytes : List ℕ) → of_size n (of_size n bytes) ≡ of_size n bytes
sized_twice n bytes = ext_get_or 0 (of_size n (of_size n bytes)) (of_size n bytes) (sized_length n (of_size n bytes) ∙ sym (sized_length n bytes)) (λ i less. sized_at n (of_size n bytes) i (let whole = sized_length n (of_size n bytes) in omega (arith, whole, less)))

module _ (old : List ℕ) (off b : ℕ) (piece : List ℕ) where
  abbrev front : List ℕ
  front = of_size off old ++ b ∷ piece

  front_length : length front ≡ off + length (b ∷ piece)
  front_length = let all = length-append (of_size off old) (b ∷ piece) in let size = sized_length off old in omega (arith, all, size)

  -- before the piece and behind it the bytes read as before
  written_before : (i : ℕ) → i < off → get_or (written_at old off (b ∷ piece)) i 0 ≡ get_or old i 0
  written_before i less =
      let size = sized_length off old in
      get_or-append front (drop (off + length (b ∷ piece)) old) 0 i (let whole = front_length in omega (arith, whole, less))
      ∙ get_or-append (of_size off old) (b ∷ piece) 0 i (omega (arith, size, less)) ∙ sized_at off old i less

  written_behind : (i : ℕ) → off + length (b ∷ piece) ≤ i → get_or (written_at old off (b ∷ piece)) i 0 ≡ get_or old i 0
  written_behind i most =
      let back : off + length (b ∷ piece) + (i - (off + length (b ∷ piece))) ≡ i = omega (arith, most) in
      get_or-append_right front (drop (off + length (b ∷ piece)) old) (off + length (b ∷ piece)) i 0 front_length most
      ∙ get_or-drop (off + length (b ∷ piece)) old (i - (off + length (b ∷ piece))) 0 ∙ ap (λ (j : ℕ). get_or old j 0) back

  written_inside : (i : ℕ) → off ≤ i → i < off + length (b ∷ piece) → get_or (written_at old off (b ∷ piece)) i 0 ≡ get_or (b ∷ piece) (i - off) 0
  written_inside i least less =
      get_or-append front (drop (off + length (b ∷ piece)) old) 0 i (let whole = front_length in omega (arith, whole, less))
      ∙ get_or-append_right (of_size off old) (b ∷ piece) off i 0 (sized_length off old) least

  written_length : length (written_at old off (b ∷ piece)) ≡ off + length (b ∷ piece) + length (drop (off + length (b ∷ piece)) old)
  written_length = length-append front (drop (off + length (b ∷ piece)) old) ∙ ap (λ (n : ℕ). n + length (drop (off + length (b ∷ piece)) old)) front_length

pub written_twice : (old : List ℕ) (off : ℕ) (piece : List ℕ) → written_at (written_at old off piece) off piece ≡ written_at old off piece
written_twice old off [] = refl
written_twice old off (b ∷ piece) = ext_get_or 0 (written_at new off (b ∷ piece)) new same_length same
  where
    new : List ℕ
    new = written_at old off (b ∷ piece)

    same_length : length (written_at (written_at old off (b ∷ piece)) off (b ∷ piece)) ≡ length (written_at old off (b ∷ piece))
    same_length =
        let once = written_length old off b piece in
        let twice = written_length (written_at old off (b ∷ piece)) off b piece in
        let rest : length (drop (off + length (b ∷ piece)) old) ≡ length old - (off + length (b ∷ piece)) = length-drop (off + length (b ∷ piece)) old in
        let again : length (drop (off + length (b ∷ piece)) (written_at old off (b ∷ piece))) ≡ length (written_at old off (b ∷ piece)) - (off + length (b ∷ piece)) = length-drop (off + length (b ∷ piece)) (written_at old off (b ∷ piece)) in
        omega (arith, once, twice, rest, again)

    same : (i : ℕ) → i < length (written_at (written_at old off (b ∷ piece)) off (b ∷ piece)) → get_or (written_at (written_at old off (b ∷ piece)) off (b ∷ piece)) i 0 ≡ get_or (written_at old off (b ∷ piece)) i 0
    same i less = elim (cases_lt i off) [
      | inl before ↦ written_before (written_at old off (b ∷ piece)) off b piece i before
      | inr least ↦
          elim (cases_lt i (off + length (b ∷ piece))) [
            | inl inside ↦ written_inside (written_at old off (b ∷ piece)) off b piece i least inside ∙ sym (written_inside old off b piece i least inside)
            | inr behind ↦ written_behind (written_at old off (b ∷ piece)) off b piece i behind
          ]
    ]

-- BLOCKS
pub block_length : (bytes : List ℕ) (block : ℕ) → length (block_of bytes block) ≡ 4096
block_length bytes block = length-take-le 4096 (drop (block * 4096) bytes ++ zeros 4096) (let all = length-append (drop (block * 4096) bytes) (zeros 4096) in let behind = length-replicate {A = ℕ} 4096 0 in omega (arith, all, behind))

block_at : (bytes : List ℕ) (block i : ℕ) → i < 4096 → get_or (block_of bytes block) i 0 ≡ get_or bytes (block * 4096 + i) 0
block_at bytes block i less = get_or-take 4096 (drop (block * 4096) bytes ++ zeros 4096) i 0 less ∙ padded (drop (block * 4096) bytes) 4096 i ∙ get_or-drop (block * 4096) bytes i 0

-- another block than the one that is written into reads as before
pub other_block : (old : List ℕ) (block off : ℕ) (piece : List ℕ) (k : ℕ) → off + length piece ≤ 4096 → (block ≡ k → ⊥) → block_of (written_at old (block * 4096 + off) piece) k ≡ block_of old k
other_block old block off [] k within differ = refl
other_block old block off (b ∷ piece) k within differ = ext_get_or 0 (block_of (written_at old (block * 4096 + off) (b ∷ piece)) k) (block_of old k) (block_length (written_at old (block * 4096 + off) (b ∷ piece)) k ∙ sym (block_length old k)) same
  where
    same : (i : ℕ) → i < length (block_of (written_at old (block * 4096 + off) (b ∷ piece)) k) → get_or (block_of (written_at old (block * 4096 + off) (b ∷ piece)) k) i 0 ≡ get_or (block_of old k) i 0
    same i there =
        let whole = block_length (written_at old (block * 4096 + off) (b ∷ piece)) k in
        let less : i < 4096 = omega (arith, whole, there) in
        block_at (written_at old (block * 4096 + off) (b ∷ piece)) k i less ∙ apart less ∙ sym (block_at old k i less)
      where
        apart : i < 4096 → get_or (written_at old (block * 4096 + off) (b ∷ piece)) (k * 4096 + i) 0 ≡ get_or old (k * 4096 + i) 0
        apart less = elim (cases_lt k block) [
          | inl before ↦ written_before old (block * 4096 + off) b piece (k * 4096 + i) (omega (arith, before, less))
          | inr most ↦
              elim (cases_lt block k) [
                | inl behind ↦ written_behind old (block * 4096 + off) b piece (k * 4096 + i) (omega (arith, behind, within))
                | inr least ↦ absurd (differ (omega (arith, most, least)))
              ]
        ]
