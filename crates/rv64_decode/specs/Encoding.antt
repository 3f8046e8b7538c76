-- The fields of a 32-bit instruction and its immediates, as the RISC-V manual, volume I, draws them in
-- "Base Instruction Formats" and "Immediate Encoding Variants".
use Rattle.std.specs.Prelude.{ℕ, ℤ, ◌+◌, ◌-◌, ◌*◌, ◌/◌, ◌%◌, ◌^◌, if◌then◌else◌, nat_lt, pos, ◌-ℤ◌}
use Rattle.rv64_decode.specs.declared.encoding.Format.{Format}
use Rattle.rv64_decode.specs.declared.encoding.Format.TheVariants.{RType, IType, SType, BType, UType, JType, Shift, ShiftWord}

-- the number in bits `from` to `from + width - 1`
abbrev pub field : ℕ → ℕ → ℕ → ℕ
field from width word = word / 2 ^ from % 2 ^ width

-- a number of `width` bits in two's complement
abbrev pub sign_extended : ℕ → ℕ → ℤ
sign_extended width n = if nat_lt n (2 ^ (width - 1)) then pos n else (pos n -ℤ pos (2 ^ width))

-- the immediate of a word: each of its parts at its place, the sign in bit 31;
-- 0 where the format has none, and the amount where it is a shift's
abbrev pub immediate : Format → ℕ → ℤ
immediate RType word = pos 0
immediate IType word = sign_extended 12 (field 20 12 word)
immediate SType word = sign_extended 12 (field 7 5 word + field 25 7 word * 2 ^ 5)
immediate BType word = sign_extended 13 (field 8 4 word * 2 ^ 1 + field 25 6 word * 2 ^ 5 + field 7 1 word * 2 ^ 11 + field 31 1 word * 2 ^ 12)
immediate UType word = sign_extended 32 (field 12 20 word * 2 ^ 12)
immediate JType word = sign_extended 21 (field 21 10 word * 2 ^ 1 + field 20 1 word * 2 ^ 11 + field 12 8 word * 2 ^ 12 + field 31 1 word * 2 ^ 20)
immediate Shift word = pos (field 20 6 word)
immediate ShiftWord word = pos (field 20 5 word)
