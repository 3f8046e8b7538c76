-- What each instruction asks for: an end with the registers after it, or one access to memory, with the
-- registers by what it gives. One line an instruction, to be compared with the chapters "RV32I", "RV64I"
-- and "M" of the RISC-V manual, volume I.
use Rattle.std.specs.Prelude.{◌≡◌, ℕ, ℤ, ◌+◌, ◌*◌, ◌/◌, ◌%◌, ◌^◌, ◌==◌, Bool, if◌then◌else◌, nat_lt, nat_le, not, slice_index, slice_set, int_lt, int_le, Option, Some, None, Result, Ok, Err}
use Rattle.std.specs.Int.{cast_unsigned, w64}
use Rattle.lego_base.specs.declared.stops.Halt.{Halt}
use Rattle.lego_base.specs.declared.stops.MemStop.{MemStop}
use Rattle.lego_base.specs.declared.stops.MemStop.TheVariants as mem_stop
use Rattle.rv64_decode.specs.declared.Instr.{Instr}
use Rattle.rv64_decode.specs.declared.Op.{Op}
use Rattle.rv64_decode.specs.declared.Op.TheVariants.{Lui, Auipc, Jal, Jalr, Beq, Bne, Blt, Bge, Bltu, Bgeu, Lb, Lh, Lw, Ld, Lbu, Lhu, Lwu, Sb, Sh, Sw, Sd, Addi, Slti, Sltiu, Xori, Ori, Andi, Slli, Srli, Srai, Add, Sub, Sll, Slt, Sltu, Xor, Srl, Sra, Or, And, Mul, Mulh, Mulhsu, Mulhu, Div, Divu, Rem, Remu, Addiw, Slliw, Srliw, Sraiw, Addw, Subw, Sllw, Srlw, Sraw, Mulw, Divw, Divuw, Remw, Remuw, Fence, Ecall, Ebreak}
use Rattle.rv64_decode.specs.Table.{decoded}
use Rattle.rv64_step.specs.declared.cpu.Cpu.{Cpu}
use Rattle.rv64_step.specs.declared.cpu.StepEnd.{StepEnd}
use Rattle.rv64_step.specs.declared.cpu.StepEnd.TheVariants.{Next, Call, Dead}
use Rattle.rv64_step.specs.Word.{signed, sext, plus}
use Rattle.rv64_step.specs.Arith.{add, sub, sll, srl, sra, slt, sltu, xor, or, and, mul, mulh, mulhsu, mulhu, div, divu, rem, remu, addw, subw, sllw, srlw, sraw, mulw, divw, divuw, remw, remuw}

-- a register: register 0 reads 0
abbrev pub reg : Cpu → ℕ → ℕ
reg cpu r = if r == 0 then 0 else slice_index cpu.x r

-- the address of the next instruction
abbrev pub next_pc : Cpu → ℕ
next_pc cpu = (cpu.pc + 4) % 2 ^ 64

-- the processor with a value in a register, at an address: writes to register 0 are dropped
abbrev pub with_reg : Cpu → ℕ → ℕ → ℕ → Cpu
with_reg cpu r value pc = record { pc = pc; x = if r == 0 then cpu.x else slice_set cpu.x r value }

-- what an instruction asks for
pub data Asks : Type 0 where
  -- nothing of memory: how the step ends, and the processor after it
  Ends : StepEnd → Cpu → Asks
  -- a load of n bytes at an address, and the processor by the value
  Loads : ℕ → ℕ → (ℕ → Cpu) → Asks
  -- a store of the lowest n bytes of a value at an address, and the processor after it
  Stores : ℕ → ℕ → ℕ → Cpu → Asks

-- a value for a register, then the next instruction
abbrev pub sets : Cpu → ℕ → ℕ → Asks
sets cpu r value = Ends Next (with_reg cpu r value (next_pc cpu))

-- a value of both registers
abbrev pub by_registers : (ℕ → ℕ → ℕ) → Instr → Cpu → Asks
by_registers f i cpu = sets cpu i.rd (f (reg cpu i.rs1) (reg cpu i.rs2))

-- a value of the first register and the immediate
abbrev pub by_constant : (ℕ → ℕ → ℕ) → Instr → Cpu → Asks
by_constant f i cpu = sets cpu i.rd (f (reg cpu i.rs1) (cast_unsigned w64 i.imm))

-- A jump that links: the return address goes to a register. A target that isn't a multiple of 4 kills by
-- signal 7 before anything is written.
abbrev pub links : Cpu → ℕ → ℕ → Asks
links cpu r target = if target % 4 == 0 then Ends Next (with_reg cpu r (next_pc cpu) target) else Ends (Dead 7) cpu

-- a branch: taken to a target under the same rule, or on to the next instruction
abbrev pub branches : Cpu → ℤ → Bool → Asks
branches cpu offset taken =
    if taken
    then (if plus cpu.pc offset % 4 == 0 then Ends Next (record cpu { pc = plus cpu.pc offset }) else Ends (Dead 7) cpu)
    else Ends Next (record cpu { pc = next_pc cpu })

-- a load of n bytes, and the value for the destination by what is there
abbrev pub loads : Instr → Cpu → ℕ → (ℕ → ℕ) → Asks
loads i cpu n extended = Loads (plus (reg cpu i.rs1) i.imm) n (λ v. with_reg cpu i.rd (extended v) (next_pc cpu))

-- a store of the lowest n bytes of the second register
abbrev pub stores : Instr → Cpu → ℕ → Asks
stores i cpu n = Stores (plus (reg cpu i.rs1) i.imm) n (reg cpu i.rs2) (record cpu { pc = next_pc cpu })

abbrev pub asks : Instr → Cpu → Op → Asks
asks i cpu Lui = sets cpu i.rd (cast_unsigned w64 i.imm)
asks i cpu Auipc = sets cpu i.rd (plus cpu.pc i.imm)
asks i cpu Jal = links cpu i.rd (plus cpu.pc i.imm)
asks i cpu Jalr = links cpu i.rd (plus (reg cpu i.rs1) i.imm / 2 * 2)
asks i cpu Beq = branches cpu i.imm (reg cpu i.rs1 == reg cpu i.rs2)
asks i cpu Bne = branches cpu i.imm (not (reg cpu i.rs1 == reg cpu i.rs2))
asks i cpu Blt = branches cpu i.imm (int_lt (signed (reg cpu i.rs1)) (signed (reg cpu i.rs2)))
asks i cpu Bge = branches cpu i.imm (int_le (signed (reg cpu i.rs2)) (signed (reg cpu i.rs1)))
asks i cpu Bltu = branches cpu i.imm (nat_lt (reg cpu i.rs1) (reg cpu i.rs2))
asks i cpu Bgeu = branches cpu i.imm (nat_le (reg cpu i.rs2) (reg cpu i.rs1))
asks i cpu Lb = loads i cpu 1 (sext 8)
asks i cpu Lh = loads i cpu 2 (sext 16)
asks i cpu Lw = loads i cpu 4 (sext 32)
asks i cpu Ld = loads i cpu 8 (λ v. v)
asks i cpu Lbu = loads i cpu 1 (λ v. v)
asks i cpu Lhu = loads i cpu 2 (λ v. v)
asks i cpu Lwu = loads i cpu 4 (λ v. v)
asks i cpu Sb = stores i cpu 1
asks i cpu Sh = stores i cpu 2
asks i cpu Sw = stores i cpu 4
asks i cpu Sd = stores i cpu 8
asks i cpu Addi = by_constant add i cpu
asks i cpu Slti = by_constant slt i cpu
asks i cpu Sltiu = by_constant sltu i cpu
asks i cpu Xori = by_constant xor i cpu
asks i cpu Ori = by_constant or i cpu
asks i cpu Andi = by_constant and i cpu
asks i cpu Slli = by_constant sll i cpu
asks i cpu Srli = by_constant srl i cpu
asks i cpu Srai = by_constant sra i cpu
asks i cpu Add = by_registers add i cpu
asks i cpu Sub = by_registers sub i cpu
asks i cpu Sll = by_registers sll i cpu
asks i cpu Slt = by_registers slt i cpu
asks i cpu Sltu = by_registers sltu i cpu
asks i cpu Xor = by_registers xor i cpu
asks i cpu Srl = by_registers srl i cpu
asks i cpu Sra = by_registers sra i cpu
asks i cpu Or = by_registers or i cpu
asks i cpu And = by_registers and i cpu
asks i cpu Mul = by_registers mul i cpu
asks i cpu Mulh = by_registers mulh i cpu
asks i cpu Mulhsu = by_registers mulhsu i cpu
asks i cpu Mulhu = by_registers mulhu i cpu
asks i cpu Div = by_registers div i cpu
asks i cpu Divu = by_registers divu i cpu
asks i cpu Rem = by_registers rem i cpu
asks i cpu Remu = by_registers remu i cpu
asks i cpu Addiw = by_constant addw i cpu
asks i cpu Slliw = by_constant sllw i cpu
asks i cpu Srliw = by_constant srlw i cpu
asks i cpu Sraiw = by_constant sraw i cpu
asks i cpu Addw = by_registers addw i cpu
asks i cpu Subw = by_registers subw i cpu
asks i cpu Sllw = by_registers sllw i cpu
asks i cpu Srlw = by_registers srlw i cpu
asks i cpu Sraw = by_registers sraw i cpu
asks i cpu Mulw = by_registers mulw i cpu
asks i cpu Divw = by_registers divw i cpu
asks i cpu Divuw = by_registers divuw i cpu
asks i cpu Remw = by_registers remw i cpu
asks i cpu Remuw = by_registers remuw i cpu
asks i cpu Fence = Ends Next (record cpu { pc = next_pc cpu })
-- the address stays at the call, or at the breakpoint, which kills by signal 5
asks i cpu Ecall = Ends Call cpu
asks i cpu Ebreak = Ends (Dead 5) cpu

-- how a step ends where an access gave nothing: a byte that isn't permitted kills by signal 11
abbrev pub stopped : MemStop → Result StepEnd Halt
stopped mem_stop.Segv = Ok (Dead 11)
stopped (mem_stop.Halt halt) = Err halt

-- The end of a step by what its load answered.
abbrev pub AfterLoad : Cpu → (ℕ → Cpu) → Result ℕ MemStop → Result StepEnd Halt → Cpu → Type 0
AfterLoad cpu after (Ok value) result cpu' = (result ≡ Ok Next) × (cpu' ≡ after value)
AfterLoad cpu after (Err stop) result cpu' = (result ≡ stopped stop) × (cpu' ≡ cpu)

-- The end of a step by what its store answered.
abbrev pub AfterStore : Cpu → Cpu → Result (Unit {0}) MemStop → Result StepEnd Halt → Cpu → Type 0
AfterStore cpu after (Ok done) result cpu' = (result ≡ Ok Next) × (cpu' ≡ after)
AfterStore cpu after (Err stop) result cpu' = (result ≡ stopped stop) × (cpu' ≡ cpu)

-- What is asked for was done, on a memory that was `mid` and is `new`, with its own relations.
abbrev pub Does : {X : Type 0} → (X → ℕ → ℕ → Result ℕ MemStop → X → Type 0) → (X → ℕ → ℕ → ℕ → Result (Unit {0}) MemStop → X → Type 0) → Cpu → Asks → X → Result StepEnd Halt → Cpu → X → Type 0
Does loaded stored cpu (Ends end after) mid result cpu' new = (result ≡ Ok end) × (cpu' ≡ after) × (new ≡ mid)
Does loaded stored cpu (Loads address n after) mid result cpu' new = (answer : Result ℕ MemStop) × loaded mid address n answer new × AfterLoad cpu after answer result cpu'
Does loaded stored cpu (Stores address n value after) mid result cpu' new = (answer : Result (Unit {0}) MemStop) × stored mid address n value answer new × AfterStore cpu after answer result cpu'

-- An instruction was executed; a word that isn't one kills by signal 4.
abbrev pub Obeys : {X : Type 0} → (X → ℕ → ℕ → Result ℕ MemStop → X → Type 0) → (X → ℕ → ℕ → ℕ → Result (Unit {0}) MemStop → X → Type 0) → Cpu → Option Instr → X → Result StepEnd Halt → Cpu → X → Type 0
Obeys loaded stored cpu None mid result cpu' new = (result ≡ Ok (Dead 4)) × (cpu' ≡ cpu) × (new ≡ mid)
Obeys loaded stored cpu (Some i) mid result cpu' new = Does loaded stored cpu (asks i cpu i.op) mid result cpu' new

-- What follows a fetch by its answer.
abbrev pub AfterFetch : {X : Type 0} → (X → ℕ → ℕ → Result ℕ MemStop → X → Type 0) → (X → ℕ → ℕ → ℕ → Result (Unit {0}) MemStop → X → Type 0) → Cpu → Result ℕ MemStop → X → Result StepEnd Halt → Cpu → X → Type 0
AfterFetch loaded stored cpu (Ok word) mid result cpu' new = Obeys loaded stored cpu (decoded word) mid result cpu' new
AfterFetch loaded stored cpu (Err stop) mid result cpu' new = (result ≡ stopped stop) × (cpu' ≡ cpu) × (new ≡ mid)

-- One step of a processor on a memory with these relations: a fetch, then what the word asks for, each
-- access once and in this order. The memory was `old` and is `new`, the processor `cpu` and `cpu'`.
pub record IsStep {X : Type 0} (fetched : X → ℕ → Result ℕ MemStop → X → Type 0) (loaded : X → ℕ → ℕ → Result ℕ MemStop → X → Type 0) (stored : X → ℕ → ℕ → ℕ → Result (Unit {0}) MemStop → X → Type 0)
    (cpu : Cpu) (old : X) (result : Result StepEnd Halt) (cpu' : Cpu) (new : X) : Type 0 where
  pub word : Result ℕ MemStop
  pub mid : X
  pub fetch : fetched old cpu.pc word mid
  pub rest : AfterFetch loaded stored cpu word mid result cpu' new
