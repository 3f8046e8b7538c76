-- Words of 64 bits as whole numbers from 0 to 2 ^ 64 - 1, as in the chapter "RV64I Base Integer
-- Instruction Set" of the RISC-V manual, volume I.
use Rattle.std.specs.Prelude.{ℕ, ℤ, ◌+◌, ◌-◌, ◌%◌, ◌^◌, if◌then◌else◌, nat_lt, pos, ◌-ℤ◌, unsigned_abs}
use Rattle.std.specs.Int.{cast_unsigned, int_rem_euclid, w64}

-- a word read as a signed number, from -2 ^ 63 to 2 ^ 63 - 1
abbrev pub signed : ℕ → ℤ
signed w = if nat_lt w (2 ^ 63) then pos w else (pos w -ℤ pos (2 ^ 64))

-- a whole number as a word, modulo 2 ^ 64
abbrev pub word : ℤ → ℕ
word z = unsigned_abs (int_rem_euclid z (pos (2 ^ 64)))

-- the low bits of a word, sign extended to 64 bits
abbrev pub sext : ℕ → ℕ → ℕ
sext bits w = if nat_lt (w % 2 ^ bits) (2 ^ (bits - 1)) then w % 2 ^ bits else (2 ^ 64 - 2 ^ bits + w % 2 ^ bits)

-- a word plus a signed offset, modulo 2 ^ 64
abbrev pub plus : ℕ → ℤ → ℕ
plus w offset = (w + cast_unsigned w64 offset) % 2 ^ 64
