-- What the code says of the table by other words: the operation by the fields that a function for one opcode is given, the
-- format by the operation, and the topmost part of an immediate.
use Rattle.std.specs.Prelude.{ℕ, Bool, ◌==◌, ◌&&◌, ◌||◌, List, Option, find}
use Rattle.std.specs.Option.{option_map}
use Rattle.rv64_decode.specs.declared.Instr.{Instr}
use Rattle.rv64_decode.specs.declared.Op.{Op}
use Rattle.rv64_decode.specs.declared.Op.TheVariants.{Lui, Auipc, Jal, Jalr, Beq, Bne, Blt, Bge, Bltu, Bgeu, Lb, Lh, Lw, Ld, Lbu, Lhu, Lwu, Sb, Sh, Sw, Sd, Addi, Slti, Sltiu, Xori, Ori, Andi, Slli, Srli, Srai, Addiw, Slliw, Srliw, Sraiw}
use Rattle.rv64_decode.specs.declared.encoding.Format.{Format}
use Rattle.rv64_decode.specs.declared.encoding.Format.TheVariants.{RType, IType, SType, BType, UType, JType, Shift, ShiftWord}
use Rattle.rv64_decode.specs.Encoding.{immediate}
use Rattle.rv64_decode.specs.Table.{Fixed, nothing, funct3, funct6, funct7, others, Row, with_registers}

abbrev pub funct3_of : Fixed → ℕ
funct3_of nothing = 0
funct3_of (funct3 f3) = f3
funct3_of (funct6 f3 f6) = f3
funct3_of (funct7 f3 f7) = f3
funct3_of (others n) = 0

-- funct6, funct7 or the other bits, whichever the row fixes
abbrev pub upper_of : Fixed → ℕ
upper_of nothing = 0
upper_of (funct3 f3) = 0
upper_of (funct6 f3 f6) = f6
upper_of (funct7 f3 f7) = f7
upper_of (others n) = n

-- the operation of the row with this funct3
abbrev pub op_by_funct3 : List Row → ℕ → Option Op
op_by_funct3 rows f3 = option_map (λ row. row.op) (find (λ row. f3 == funct3_of row.fixed) rows)

-- the operation of the row with this funct3, and this funct6 or funct7
abbrev pub op_by_both : List Row → ℕ → ℕ → Option Op
op_by_both rows f3 upper = option_map (λ row. row.op) (find (λ row. f3 == funct3_of row.fixed && upper == upper_of row.fixed) rows)

-- the operation of the row with these bits above the opcode
abbrev pub op_by_others : List Row → ℕ → Option Op
op_by_others rows n = option_map (λ row. row.op) (find (λ row. n == upper_of row.fixed) rows)

-- the format of an operation's row
abbrev pub format_of : Op → Format
format_of Lui = UType
format_of Auipc = UType
format_of Jal = JType
format_of Jalr = IType
format_of Beq = BType
format_of Bne = BType
format_of Blt = BType
format_of Bge = BType
format_of Bltu = BType
format_of Bgeu = BType
format_of Lb = IType
format_of Lh = IType
format_of Lw = IType
format_of Ld = IType
format_of Lbu = IType
format_of Lhu = IType
format_of Lwu = IType
format_of Sb = SType
format_of Sh = SType
format_of Sw = SType
format_of Sd = SType
format_of Addi = IType
format_of Slti = IType
format_of Sltiu = IType
format_of Xori = IType
format_of Ori = IType
format_of Andi = IType
format_of Slli = Shift
format_of Srli = Shift
format_of Srai = Shift
format_of Addiw = IType
format_of Slliw = ShiftWord
format_of Srliw = ShiftWord
format_of Sraiw = ShiftWord
format_of _ = RType

-- an operation with the registers and the immediate of a word
abbrev pub of_word : ℕ → Op → Instr
of_word word op = with_registers word op (immediate (format_of op) word)

-- where the topmost part of an immediate may begin, which has its sign
abbrev pub is_top : ℕ → Bool
is_top from = from == 12 || from == 20 || from == 25 || from == 31
