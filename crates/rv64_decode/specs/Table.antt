-- The instruction table of RV64IM, one line an instruction, to be compared with the chapter "RV32/64G
-- Instruction Set Listings" of the RISC-V manual, volume I. Opcodes and funct7 are hexadecimal.
use Rattle.std.specs.Prelude.{ℕ, ℤ, ◌+◌, ◌*◌, ◌^◌, ◌==◌, ◌&&◌, Bool, true, List, [], ◌∷◌, ◌++◌, Option, find}
use Rattle.std.specs.Option.{option_map}
use Rattle.rv64_decode.specs.declared.Instr.{Instr}
use Rattle.rv64_decode.specs.declared.Op.{Op}
use Rattle.rv64_decode.specs.declared.Op.TheVariants.{Lui, Auipc, Jal, Jalr, Beq, Bne, Blt, Bge, Bltu, Bgeu, Lb, Lh, Lw, Ld, Lbu, Lhu, Lwu, Sb, Sh, Sw, Sd, Addi, Slti, Sltiu, Xori, Ori, Andi, Slli, Srli, Srai, Add, Sub, Sll, Slt, Sltu, Xor, Srl, Sra, Or, And, Mul, Mulh, Mulhsu, Mulhu, Div, Divu, Rem, Remu, Addiw, Slliw, Srliw, Sraiw, Addw, Subw, Sllw, Srlw, Sraw, Mulw, Divw, Divuw, Remw, Remuw, Fence, Ecall, Ebreak}
use Rattle.rv64_decode.specs.declared.encoding.Format.{Format}
use Rattle.rv64_decode.specs.declared.encoding.Format.TheVariants.{RType, IType, SType, BType, UType, JType, Shift, ShiftWord}
use Rattle.rv64_decode.specs.Encoding.{field, immediate}

-- what a row fixes beside the opcode
pub data Fixed : Type 0 where
  -- nothing
  nothing : Fixed
  -- bits 14..12
  funct3 : ℕ → Fixed
  -- bits 14..12, and bits 31..26
  funct6 : ℕ → ℕ → Fixed
  -- bits 14..12, and bits 31..25
  funct7 : ℕ → ℕ → Fixed
  -- all of bits 31..7
  others : ℕ → Fixed

pub record Row : Type 0 where
  pub opcode : ℕ
  pub fixed : Fixed
  pub op : Op
  pub format : Format

abbrev pub row : ℕ → Fixed → Op → Format → Row
row opcode fixed op format = record { opcode = opcode; fixed = fixed; op = op; format = format }

abbrev pub uppers : List Row
uppers =
    row 0x37 nothing Lui UType ∷
    row 0x17 nothing Auipc UType ∷
    []

abbrev pub jumps : List Row
jumps =
    row 0x6f nothing Jal JType ∷
    []

abbrev pub indirect_jumps : List Row
indirect_jumps =
    row 0x67 (funct3 0) Jalr IType ∷
    []

abbrev pub branches : List Row
branches =
    row 0x63 (funct3 0) Beq BType ∷
    row 0x63 (funct3 1) Bne BType ∷
    row 0x63 (funct3 4) Blt BType ∷
    row 0x63 (funct3 5) Bge BType ∷
    row 0x63 (funct3 6) Bltu BType ∷
    row 0x63 (funct3 7) Bgeu BType ∷
    []

abbrev pub loads : List Row
loads =
    row 0x03 (funct3 0) Lb IType ∷
    row 0x03 (funct3 1) Lh IType ∷
    row 0x03 (funct3 2) Lw IType ∷
    row 0x03 (funct3 3) Ld IType ∷
    row 0x03 (funct3 4) Lbu IType ∷
    row 0x03 (funct3 5) Lhu IType ∷
    row 0x03 (funct3 6) Lwu IType ∷
    []

abbrev pub stores : List Row
stores =
    row 0x23 (funct3 0) Sb SType ∷
    row 0x23 (funct3 1) Sh SType ∷
    row 0x23 (funct3 2) Sw SType ∷
    row 0x23 (funct3 3) Sd SType ∷
    []

abbrev pub constants : List Row
constants =
    row 0x13 (funct3 0) Addi IType ∷
    row 0x13 (funct3 2) Slti IType ∷
    row 0x13 (funct3 3) Sltiu IType ∷
    row 0x13 (funct3 4) Xori IType ∷
    row 0x13 (funct3 6) Ori IType ∷
    row 0x13 (funct3 7) Andi IType ∷
    []

abbrev pub shifts : List Row
shifts =
    row 0x13 (funct6 1 0x00) Slli Shift ∷
    row 0x13 (funct6 5 0x00) Srli Shift ∷
    row 0x13 (funct6 5 0x10) Srai Shift ∷
    []

abbrev pub registers : List Row
registers =
    row 0x33 (funct7 0 0x00) Add RType ∷
    row 0x33 (funct7 0 0x20) Sub RType ∷
    row 0x33 (funct7 1 0x00) Sll RType ∷
    row 0x33 (funct7 2 0x00) Slt RType ∷
    row 0x33 (funct7 3 0x00) Sltu RType ∷
    row 0x33 (funct7 4 0x00) Xor RType ∷
    row 0x33 (funct7 5 0x00) Srl RType ∷
    row 0x33 (funct7 5 0x20) Sra RType ∷
    row 0x33 (funct7 6 0x00) Or RType ∷
    row 0x33 (funct7 7 0x00) And RType ∷
    row 0x33 (funct7 0 0x01) Mul RType ∷
    row 0x33 (funct7 1 0x01) Mulh RType ∷
    row 0x33 (funct7 2 0x01) Mulhsu RType ∷
    row 0x33 (funct7 3 0x01) Mulhu RType ∷
    row 0x33 (funct7 4 0x01) Div RType ∷
    row 0x33 (funct7 5 0x01) Divu RType ∷
    row 0x33 (funct7 6 0x01) Rem RType ∷
    row 0x33 (funct7 7 0x01) Remu RType ∷
    []

abbrev pub word_constants : List Row
word_constants =
    row 0x1b (funct3 0) Addiw IType ∷
    []

abbrev pub word_shifts : List Row
word_shifts =
    row 0x1b (funct7 1 0x00) Slliw ShiftWord ∷
    row 0x1b (funct7 5 0x00) Srliw ShiftWord ∷
    row 0x1b (funct7 5 0x20) Sraiw ShiftWord ∷
    []

abbrev pub word_registers : List Row
word_registers =
    row 0x3b (funct7 0 0x00) Addw RType ∷
    row 0x3b (funct7 0 0x20) Subw RType ∷
    row 0x3b (funct7 1 0x00) Sllw RType ∷
    row 0x3b (funct7 5 0x00) Srlw RType ∷
    row 0x3b (funct7 5 0x20) Sraw RType ∷
    row 0x3b (funct7 0 0x01) Mulw RType ∷
    row 0x3b (funct7 4 0x01) Divw RType ∷
    row 0x3b (funct7 5 0x01) Divuw RType ∷
    row 0x3b (funct7 6 0x01) Remw RType ∷
    row 0x3b (funct7 7 0x01) Remuw RType ∷
    []

-- all other bits of a fence are free
abbrev pub fences : List Row
fences =
    row 0x0f (funct3 0) Fence RType ∷
    []

-- the words 0x00000073 and 0x00100073
abbrev pub systems : List Row
systems =
    row 0x73 (others 0x0000) Ecall RType ∷
    row 0x73 (others 0x2000) Ebreak RType ∷
    []

unfoldable pub table : List Row
table = uppers ++ jumps ++ indirect_jumps ++ branches ++ loads ++ stores ++ constants ++ shifts ++ registers ++ word_constants ++ word_shifts ++ word_registers ++ fences ++ systems

-- whether a word has the bits that a row fixes beside the opcode
abbrev pub has : ℕ → Fixed → Bool
has word nothing = true
has word (funct3 f3) = field 12 3 word == f3
has word (funct6 f3 f6) = field 12 3 word == f3 && field 26 6 word == f6
has word (funct7 f3 f7) = field 12 3 word == f3 && field 25 7 word == f7
has word (others n) = field 7 25 word == n

-- whether a word belongs to a row
abbrev pub fits : ℕ → Row → Bool
fits word row = field 0 7 word == row.opcode && has word row.fixed

-- the row of a word
unfoldable pub row_of : ℕ → Option Row
row_of word = find (fits word) table

-- an instruction with the registers of a word, which are its bits 11..7, 19..15 and 24..20 in every format
abbrev pub with_registers : ℕ → Op → ℤ → Instr
with_registers word op imm = record { op = op; rd = field 7 5 word; rs1 = field 15 5 word; rs2 = field 20 5 word; imm = imm }

-- the instruction of a word: none where no row has it
unfoldable pub decoded : ℕ → Option Instr
decoded word = option_map (λ row. with_registers word row.op (immediate row.format word)) (row_of word)

-- a row as mask and match: the ones of what it fixes, and the values there
abbrev pub mask_of_fixed : Fixed → ℕ
mask_of_fixed nothing = 0
mask_of_fixed (funct3 f3) = 0x7 * 2 ^ 12
mask_of_fixed (funct6 f3 f6) = 0x7 * 2 ^ 12 + 0x3f * 2 ^ 26
mask_of_fixed (funct7 f3 f7) = 0x7 * 2 ^ 12 + 0x7f * 2 ^ 25
mask_of_fixed (others n) = 0x1ffffff * 2 ^ 7

abbrev pub match_of_fixed : Fixed → ℕ
match_of_fixed nothing = 0
match_of_fixed (funct3 f3) = f3 * 2 ^ 12
match_of_fixed (funct6 f3 f6) = f3 * 2 ^ 12 + f6 * 2 ^ 26
match_of_fixed (funct7 f3 f7) = f3 * 2 ^ 12 + f7 * 2 ^ 25
match_of_fixed (others n) = n * 2 ^ 7

abbrev pub mask_of : Row → ℕ
mask_of row = 0x7f + mask_of_fixed row.fixed

abbrev pub match_of : Row → ℕ
match_of row = row.opcode + match_of_fixed row.fixed
