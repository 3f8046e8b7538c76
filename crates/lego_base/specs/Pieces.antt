-- Bytes in place of others: in a page, a line or a file.
use Rattle.std.specs.Prelude.{◌+◌, ◌-◌, [], ◌∷◌, ◌++◌, ℕ, List, drop, length, replicate, take}

abbrev pub zeros : ℕ → List ℕ
zeros n = replicate n 0

-- bytes with others in place of those starting at an offset
abbrev pub laid_over : List ℕ → ℕ → List ℕ → List ℕ
laid_over old off bytes = take off old ++ bytes ++ drop (off + length bytes) old

-- n bytes: the first ones of these, then zeros
abbrev pub of_size : ℕ → List ℕ → List ℕ
of_size n bytes = take n bytes ++ zeros (n - length bytes)

-- Bytes with a piece written at an offset, with zeros before it where it begins past the end. An empty piece changes
-- nothing.
abbrev pub written_at : List ℕ → ℕ → List ℕ → List ℕ
written_at old off [] = old
written_at old off (byte ∷ bytes) = of_size off old ++ byte ∷ bytes ++ drop (off + length (byte ∷ bytes)) old

-- at most n bytes, starting at an offset
abbrev pub piece : List ℕ → ℕ → ℕ → List ℕ
piece bytes off n = take n (drop off bytes)
