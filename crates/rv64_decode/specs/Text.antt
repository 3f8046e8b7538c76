-- How an instruction is written in assembly language: mnemonics and operands as the RISC-V manual writes
-- them, registers by their names in the calling convention, offsets and constants in decimal.
use Rattle.std.specs.Prelude.{ℕ, List, [], ◌∷◌, ◌++◌, ◌/◌, ◌%◌, ◌^◌, decimal, codes, slice_index_or}
use Rattle.std.specs.Fmt.{signed_decimal}
use Rattle.std.specs.Int.{cast_unsigned, w64}
use Rattle.rv64_decode.specs.declared.Instr.{Instr}
use Rattle.rv64_decode.specs.declared.Op.{Op}
use Rattle.rv64_decode.specs.declared.Op.TheVariants.{Lui, Auipc, Jal, Jalr, Beq, Bne, Blt, Bge, Bltu, Bgeu, Lb, Lh, Lw, Ld, Lbu, Lhu, Lwu, Sb, Sh, Sw, Sd, Addi, Slti, Sltiu, Xori, Ori, Andi, Slli, Srli, Srai, Add, Sub, Sll, Slt, Sltu, Xor, Srl, Sra, Or, And, Mul, Mulh, Mulhsu, Mulhu, Div, Divu, Rem, Remu, Addiw, Slliw, Srliw, Sraiw, Addw, Subw, Sllw, Srlw, Sraw, Mulw, Divw, Divuw, Remw, Remuw, Fence, Ecall, Ebreak}
use Rattle.rv64_decode.specs.declared.text.Operands.{Operands}
use Rattle.rv64_decode.specs.declared.text.Operands.TheVariants.{Upper, Jump, Load, Store, Branch, Constant, Registers, Alone}

abbrev pub mnemonic_of : Op → List ℕ
mnemonic_of Lui = codes "lui"
mnemonic_of Auipc = codes "auipc"
mnemonic_of Jal = codes "jal"
mnemonic_of Jalr = codes "jalr"
mnemonic_of Beq = codes "beq"
mnemonic_of Bne = codes "bne"
mnemonic_of Blt = codes "blt"
mnemonic_of Bge = codes "bge"
mnemonic_of Bltu = codes "bltu"
mnemonic_of Bgeu = codes "bgeu"
mnemonic_of Lb = codes "lb"
mnemonic_of Lh = codes "lh"
mnemonic_of Lw = codes "lw"
mnemonic_of Ld = codes "ld"
mnemonic_of Lbu = codes "lbu"
mnemonic_of Lhu = codes "lhu"
mnemonic_of Lwu = codes "lwu"
mnemonic_of Sb = codes "sb"
mnemonic_of Sh = codes "sh"
mnemonic_of Sw = codes "sw"
mnemonic_of Sd = codes "sd"
mnemonic_of Addi = codes "addi"
mnemonic_of Slti = codes "slti"
mnemonic_of Sltiu = codes "sltiu"
mnemonic_of Xori = codes "xori"
mnemonic_of Ori = codes "ori"
mnemonic_of Andi = codes "andi"
mnemonic_of Slli = codes "slli"
mnemonic_of Srli = codes "srli"
mnemonic_of Srai = codes "srai"
mnemonic_of Add = codes "add"
mnemonic_of Sub = codes "sub"
mnemonic_of Sll = codes "sll"
mnemonic_of Slt = codes "slt"
mnemonic_of Sltu = codes "sltu"
mnemonic_of Xor = codes "xor"
mnemonic_of Srl = codes "srl"
mnemonic_of Sra = codes "sra"
mnemonic_of Or = codes "or"
mnemonic_of And = codes "and"
mnemonic_of Mul = codes "mul"
mnemonic_of Mulh = codes "mulh"
mnemonic_of Mulhsu = codes "mulhsu"
mnemonic_of Mulhu = codes "mulhu"
mnemonic_of Div = codes "div"
mnemonic_of Divu = codes "divu"
mnemonic_of Rem = codes "rem"
mnemonic_of Remu = codes "remu"
mnemonic_of Addiw = codes "addiw"
mnemonic_of Slliw = codes "slliw"
mnemonic_of Srliw = codes "srliw"
mnemonic_of Sraiw = codes "sraiw"
mnemonic_of Addw = codes "addw"
mnemonic_of Subw = codes "subw"
mnemonic_of Sllw = codes "sllw"
mnemonic_of Srlw = codes "srlw"
mnemonic_of Sraw = codes "sraw"
mnemonic_of Mulw = codes "mulw"
mnemonic_of Divw = codes "divw"
mnemonic_of Divuw = codes "divuw"
mnemonic_of Remw = codes "remw"
mnemonic_of Remuw = codes "remuw"
mnemonic_of Fence = codes "fence"
mnemonic_of Ecall = codes "ecall"
mnemonic_of Ebreak = codes "ebreak"

-- the operands that an operation is written with
abbrev pub operands_of : Op → Operands
operands_of Lui = Upper
operands_of Auipc = Upper
operands_of Jal = Jump
operands_of Jalr = Load
operands_of Beq = Branch
operands_of Bne = Branch
operands_of Blt = Branch
operands_of Bge = Branch
operands_of Bltu = Branch
operands_of Bgeu = Branch
operands_of Lb = Load
operands_of Lh = Load
operands_of Lw = Load
operands_of Ld = Load
operands_of Lbu = Load
operands_of Lhu = Load
operands_of Lwu = Load
operands_of Sb = Store
operands_of Sh = Store
operands_of Sw = Store
operands_of Sd = Store
operands_of Addi = Constant
operands_of Slti = Constant
operands_of Sltiu = Constant
operands_of Xori = Constant
operands_of Ori = Constant
operands_of Andi = Constant
operands_of Slli = Constant
operands_of Srli = Constant
operands_of Srai = Constant
operands_of Add = Registers
operands_of Sub = Registers
operands_of Sll = Registers
operands_of Slt = Registers
operands_of Sltu = Registers
operands_of Xor = Registers
operands_of Srl = Registers
operands_of Sra = Registers
operands_of Or = Registers
operands_of And = Registers
operands_of Mul = Registers
operands_of Mulh = Registers
operands_of Mulhsu = Registers
operands_of Mulhu = Registers
operands_of Div = Registers
operands_of Divu = Registers
operands_of Rem = Registers
operands_of Remu = Registers
operands_of Addiw = Constant
operands_of Slliw = Constant
operands_of Srliw = Constant
operands_of Sraiw = Constant
operands_of Addw = Registers
operands_of Subw = Registers
operands_of Sllw = Registers
operands_of Srlw = Registers
operands_of Sraw = Registers
operands_of Mulw = Registers
operands_of Divw = Registers
operands_of Divuw = Registers
operands_of Remw = Registers
operands_of Remuw = Registers
operands_of Fence = Alone
operands_of Ecall = Alone
operands_of Ebreak = Alone

-- the names of registers 0 to 31
abbrev pub names : List (List ℕ)
names =
    codes "zero" ∷
    codes "ra" ∷
    codes "sp" ∷
    codes "gp" ∷
    codes "tp" ∷
    codes "t0" ∷
    codes "t1" ∷
    codes "t2" ∷
    codes "s0" ∷
    codes "s1" ∷
    codes "a0" ∷
    codes "a1" ∷
    codes "a2" ∷
    codes "a3" ∷
    codes "a4" ∷
    codes "a5" ∷
    codes "a6" ∷
    codes "a7" ∷
    codes "s2" ∷
    codes "s3" ∷
    codes "s4" ∷
    codes "s5" ∷
    codes "s6" ∷
    codes "s7" ∷
    codes "s8" ∷
    codes "s9" ∷
    codes "s10" ∷
    codes "s11" ∷
    codes "t3" ∷
    codes "t4" ∷
    codes "t5" ∷
    codes "t6" ∷
    []

-- past register 31 there is no name
abbrev pub register_text : ℕ → List ℕ
register_text n = slice_index_or names n (codes "?")

-- the upper 20 of the immediate's 32 bits, as the assembler takes them
abbrev pub upper_number : Instr → ℕ
upper_number i = cast_unsigned w64 i.imm / 2 ^ 12 % 2 ^ 20

abbrev pub operands_text : Operands → Instr → List ℕ
operands_text Upper i = codes " " ++ register_text i.rd ++ codes ", " ++ decimal (upper_number i)
operands_text Jump i = codes " " ++ register_text i.rd ++ codes ", " ++ signed_decimal i.imm
operands_text Load i = codes " " ++ register_text i.rd ++ codes ", " ++ signed_decimal i.imm ++ codes "(" ++ register_text i.rs1 ++ codes ")"
operands_text Store i = codes " " ++ register_text i.rs2 ++ codes ", " ++ signed_decimal i.imm ++ codes "(" ++ register_text i.rs1 ++ codes ")"
operands_text Branch i = codes " " ++ register_text i.rs1 ++ codes ", " ++ register_text i.rs2 ++ codes ", " ++ signed_decimal i.imm
operands_text Constant i = codes " " ++ register_text i.rd ++ codes ", " ++ register_text i.rs1 ++ codes ", " ++ signed_decimal i.imm
operands_text Registers i = codes " " ++ register_text i.rd ++ codes ", " ++ register_text i.rs1 ++ codes ", " ++ register_text i.rs2
operands_text Alone i = []

abbrev pub text_of : Instr → List ℕ
text_of i = mnemonic_of i.op ++ operands_text (operands_of i.op) i
