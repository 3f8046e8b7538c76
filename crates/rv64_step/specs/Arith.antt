-- The arithmetic of RV64IM on words, over whole numbers: sums, products, quotients, remainders and powers
-- of two. To be compared with the chapters "RV32I", "RV64I" and "M" of the RISC-V manual, volume I.
use Rattle.std.specs.Prelude.{ℕ, zero, suc, ℤ, ◌+◌, ◌-◌, ◌*◌, ◌/◌, ◌%◌, ◌^◌, ◌==◌, if◌then◌else◌, nat_lt, pos, ◌*ℤ◌, int_lt, int_div, int_rem, unsigned_abs}
use Rattle.std.specs.Int.{int_rem_euclid, int_shr}
use Rattle.rv64_step.specs.Word.{signed, word, sext}

abbrev pub add : ℕ → ℕ → ℕ
add a b = (a + b) % 2 ^ 64

abbrev pub sub : ℕ → ℕ → ℕ
sub a b = (a + (2 ^ 64 - b)) % 2 ^ 64

-- a shift goes by the low six bits of the second word
abbrev pub sll : ℕ → ℕ → ℕ
sll a b = a * 2 ^ (b % 64) % 2 ^ 64

abbrev pub srl : ℕ → ℕ → ℕ
srl a b = a / 2 ^ (b % 64)

abbrev pub sra : ℕ → ℕ → ℕ
sra a b = word (int_shr (signed a) (b % 64))

abbrev pub slt : ℕ → ℕ → ℕ
slt a b = if int_lt (signed a) (signed b) then 1 else 0

abbrev pub sltu : ℕ → ℕ → ℕ
sltu a b = if nat_lt a b then 1 else 0

-- bit i of a number
abbrev pub digit : ℕ → ℕ → ℕ
digit n i = n / 2 ^ i % 2

-- the number that has these bits, below bit k
unfoldable pub number_by : ℕ → (ℕ → ℕ) → ℕ
number_by zero bit = 0
number_by (suc k) bit = number_by k bit + bit k * 2 ^ k

abbrev pub xor : ℕ → ℕ → ℕ
xor a b = number_by 64 (λ i. (digit a i + digit b i) % 2)

abbrev pub or : ℕ → ℕ → ℕ
or a b = number_by 64 (λ i. digit a i + digit b i - digit a i * digit b i)

abbrev pub and : ℕ → ℕ → ℕ
and a b = number_by 64 (λ i. digit a i * digit b i)

abbrev pub mul : ℕ → ℕ → ℕ
mul a b = a * b % 2 ^ 64

-- the upper 64 bits of a product of whole numbers, taken modulo 2 ^ 128
abbrev pub upper : ℤ → ℕ
upper product = unsigned_abs (int_rem_euclid product (pos (2 ^ 128))) / 2 ^ 64

abbrev pub mulh : ℕ → ℕ → ℕ
mulh a b = upper (signed a *ℤ signed b)

abbrev pub mulhsu : ℕ → ℕ → ℕ
mulhsu a b = upper (signed a *ℤ pos b)

abbrev pub mulhu : ℕ → ℕ → ℕ
mulhu a b = upper (pos a *ℤ pos b)

-- division rounds towards zero; -2 ^ 63 by -1 is 2 ^ 63, which is -2 ^ 63 as a word
abbrev pub div : ℕ → ℕ → ℕ
div a b = if b == 0 then 2 ^ 64 - 1 else word (int_div (signed a) (signed b))

abbrev pub divu : ℕ → ℕ → ℕ
divu a b = if b == 0 then 2 ^ 64 - 1 else a / b

abbrev pub rem : ℕ → ℕ → ℕ
rem a b = if b == 0 then a else word (int_rem (signed a) (signed b))

abbrev pub remu : ℕ → ℕ → ℕ
remu a b = if b == 0 then a else a % b

-- The W forms work on the low 32 bits and sign extend the result.

abbrev pub addw : ℕ → ℕ → ℕ
addw a b = sext 32 (a + b)

abbrev pub subw : ℕ → ℕ → ℕ
subw a b = sext 32 (sub a b)

-- a shift of a word of 32 bits goes by the low five bits of the second word
abbrev pub sllw : ℕ → ℕ → ℕ
sllw a b = sext 32 (a * 2 ^ (b % 32))

abbrev pub srlw : ℕ → ℕ → ℕ
srlw a b = sext 32 (a % 2 ^ 32 / 2 ^ (b % 32))

abbrev pub sraw : ℕ → ℕ → ℕ
sraw a b = word (int_shr (signed (sext 32 a)) (b % 32))

abbrev pub mulw : ℕ → ℕ → ℕ
mulw a b = sext 32 (a * b)

abbrev pub divw : ℕ → ℕ → ℕ
divw a b = sext 32 (div (sext 32 a) (sext 32 b))

abbrev pub divuw : ℕ → ℕ → ℕ
divuw a b = sext 32 (divu (a % 2 ^ 32) (b % 2 ^ 32))

abbrev pub remw : ℕ → ℕ → ℕ
remw a b = sext 32 (rem (sext 32 a) (sext 32 b))

abbrev pub remuw : ℕ → ℕ → ℕ
remuw a b = sext 32 (remu (a % 2 ^ 32) (b % 2 ^ 32))
