-- The instructions of generated programs, in the formats of the RISC-V manual, volume I, "Base Instruction Formats" and
-- "Immediate Encoding Variants".
use Rattle.std.specs.Prelude.{ℕ, ◌+◌, ◌-◌, ◌*◌, ◌/◌, ◌%◌, ◌^◌, List, [], ◌∷◌, ◌++◌, length, flat_map}
use Rattle.lego_base.specs.Space.{bytes_of}
use Rattle.guest_gen.specs.declared.assembly.Register.{Register}
use Rattle.guest_gen.specs.declared.assembly.Register.TheVariants.{Zero, T0, T1, S0, S1, A0, A1, A2, A3, A4, A5, A7}
use Rattle.guest_gen.specs.declared.assembly.Step.{Step}
use Rattle.guest_gen.specs.declared.assembly.Step.TheVariants.{Li, Minus, Move, Add, StoreByte, LoadWord, SkipUnlessZero, Call}

-- the number of a register
abbrev pub number : Register → ℕ
number Zero = 0
number T0 = 5
number T1 = 6
number S0 = 8
number S1 = 9
number A0 = 10
number A1 = 11
number A2 = 12
number A3 = 13
number A4 = 14
number A5 = 15
number A7 = 17

-- ---- formats: of an immediate those bits count that the format has room for

abbrev pub r_type : ℕ → ℕ → Register → Register → Register → ℕ
r_type opcode funct3 rd rs1 rs2 = opcode + number rd * 2 ^ 7 + funct3 * 2 ^ 12 + number rs1 * 2 ^ 15 + number rs2 * 2 ^ 20

abbrev pub i_type : ℕ → ℕ → Register → Register → ℕ → ℕ
i_type opcode funct3 rd rs1 imm = opcode + number rd * 2 ^ 7 + funct3 * 2 ^ 12 + number rs1 * 2 ^ 15 + imm % 2 ^ 12 * 2 ^ 20

abbrev pub s_type : ℕ → ℕ → Register → Register → ℕ → ℕ
s_type opcode funct3 rs1 rs2 imm =
    opcode + imm % 2 ^ 5 * 2 ^ 7 + funct3 * 2 ^ 12 + number rs1 * 2 ^ 15 + number rs2 * 2 ^ 20 + imm / 2 ^ 5 % 2 ^ 7 * 2 ^ 25

-- of a branch forward
abbrev pub b_type : ℕ → ℕ → Register → Register → ℕ → ℕ
b_type opcode funct3 rs1 rs2 imm =
    opcode + imm / 2 ^ 11 % 2 * 2 ^ 7 + imm / 2 % 2 ^ 4 * 2 ^ 8 + funct3 * 2 ^ 12 + number rs1 * 2 ^ 15 + number rs2 * 2 ^ 20 + imm / 2 ^ 5 % 2 ^ 6 * 2 ^ 25

abbrev pub u_type : ℕ → Register → ℕ → ℕ
u_type opcode rd imm = opcode + number rd * 2 ^ 7 + imm % 2 ^ 20 * 2 ^ 12

-- ---- steps

abbrev pub addi : Register → Register → ℕ → ℕ
addi rd rs1 imm = i_type 0x13 0 rd rs1 imm

abbrev pub words_of : Step → List ℕ
-- the upper part is rounded, as the lower one is signed
words_of (Li rd value) = u_type 0x37 rd ((value + 2048) / 4096) ∷ addi rd rd value ∷ []
words_of (Minus rd value) = addi rd Zero (4096 - value) ∷ []
words_of (Move rd rs1) = addi rd rs1 0 ∷ []
words_of (Add rd rs1 rs2) = r_type 0x33 0 rd rs1 rs2 ∷ []
words_of (StoreByte rs2 rs1) = s_type 0x23 0 rs1 rs2 0 ∷ []
words_of (LoadWord rd rs1 offset) = i_type 0x03 2 rd rs1 offset ∷ []
words_of (SkipUnlessZero rs1 over) = b_type 0x63 1 rs1 Zero over ∷ []
words_of (Call n) = addi A7 Zero n ∷ 0x73 ∷ []

abbrev pub word_bytes : ℕ → List ℕ
word_bytes word = bytes_of 4 word

abbrev pub bytes_of_step : Step → List ℕ
bytes_of_step step = flat_map word_bytes (words_of step)

abbrev pub bytes_of_steps : List Step → List ℕ
bytes_of_steps steps = flat_map bytes_of_step steps

-- clone(SIGCHLD, 0): the child runs some steps, which don't end at their end, and its parent others
abbrev pub forks : List Step → List Step → List Step
forks child parent =
    Li A0 17 ∷ Li A1 0 ∷ Call 220 ∷ SkipUnlessZero A0 (4 + length (bytes_of_steps child)) ∷ (child ++ parent)
