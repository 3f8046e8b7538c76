-- Steps over a process's space of the flat memory.
use Rattle.std.proofs.Common.{◌≡◌, ℕ, Bool, eqb, sym, ◌∙◌, ap, Option, Some, None, Result, Ok, Err, IfOk, IsTrue}
use Rattle.std.proofs.lemmas.Bool.{eq-eqb}
use Rattle.lego_base.specs.declared.stops.Halt.{Halt}
use Rattle.lego_base.specs.declared.stops.MemStop.{MemStop}
use Rattle.rv64_decode.specs.declared.Instr.{Instr}
use Rattle.rv64_decode.specs.Table.{decoded}
use Rattle.rv64_step.specs.declared.cpu.Cpu.{Cpu}
use Rattle.rv64_step.specs.declared.cpu.StepEnd.{StepEnd}
use Rattle.rv64_step.specs.Access.{Fetched, Loaded, Stored}
use Rattle.rv64_step.specs.Meaning.{Asks, Ends, Loads, Stores, asks, Does, Obeys, AfterFetch, IsStep}
use Rattle.lego_base.specs.Space.{Space}
use Rattle.flat_memory.specs.declared.turn.TurnSpace.{TurnSpace}
use Rattle.flat_memory.specs.Access.{NoHalt, OutOfMemory}
use Rattle.flat_memory.specs.Spaces.{space_of}
use Rattle.linux_model.specs.Agrees.{Agrees}
use Rattle.linux_model.specs.Instructions.{one}
use Rattle.linux_model.proofs.Steps.{step_is}

-- The space's own words: it serves its process and stays that of this process; only lack of memory halts, and only a
-- store.
abbrev serves : TurnSpace → ℕ → Bool
serves m q = eqb q m.pid.0

abbrev space : TurnSpace → ℕ → Space
space m q = space_of m.space

abbrev fetches : TurnSpace → ℕ → ℕ → Result ℕ MemStop → TurnSpace → Type 0
fetches m q a answer n = (n.pid ≡ m.pid) × NoHalt answer

abbrev loads : TurnSpace → ℕ → ℕ → ℕ → Result ℕ MemStop → TurnSpace → Type 0
loads m q a len answer n = (n.pid ≡ m.pid) × NoHalt answer

abbrev stores : TurnSpace → ℕ → ℕ → ℕ → ℕ → Result (Unit {0}) MemStop → TurnSpace → Type 0
stores m q a len value answer n = (n.pid ≡ m.pid) × OutOfMemory answer

abbrev pub Stepped : ℕ → Cpu → TurnSpace → Result StepEnd Halt → Cpu → TurnSpace → Type 0
Stepped pid cpu old result cpu' new = IsStep (Fetched serves space fetches pid) (Loaded serves space loads pid) (Stored serves space stores pid) cpu old result cpu' new

module _ (pid : ℕ) where
  asked_pid : (cpu : Cpu) (want : Asks) (mid new : TurnSpace) (result : Result StepEnd Halt) (cpu' : Cpu) → Does (Loaded serves space loads pid) (Stored serves space stores pid) cpu want mid result cpu' new → new.pid ≡ mid.pid
  asked_pid cpu (Ends stop after) mid new result cpu' does = ap (λ (m : TurnSpace). m.pid) does.2
  asked_pid cpu (Loads address n after) mid new result cpu' (answer, loaded, ends) = loaded.joined.0
  asked_pid cpu (Stores address n value after) mid new result cpu' (answer, stored, ends) = stored.joined.0

  obeyed_pid : (cpu : Cpu) (word : Option Instr) (mid new : TurnSpace) (result : Result StepEnd Halt) (cpu' : Cpu) → Obeys (Loaded serves space loads pid) (Stored serves space stores pid) cpu word mid result cpu' new → new.pid ≡ mid.pid
  obeyed_pid cpu None mid new result cpu' obeys = ap (λ (m : TurnSpace). m.pid) obeys.2
  obeyed_pid cpu (Some i) mid new result cpu' obeys = asked_pid cpu (asks i cpu i.op) mid new result cpu' obeys

  fetched_pid : (cpu : Cpu) (word : Result ℕ MemStop) (mid new : TurnSpace) (result : Result StepEnd Halt) (cpu' : Cpu) → AfterFetch (Loaded serves space loads pid) (Stored serves space stores pid) cpu word mid result cpu' new → new.pid ≡ mid.pid
  fetched_pid cpu (Ok word) mid new result cpu' rest = obeyed_pid cpu (decoded word) mid new result cpu' rest
  fetched_pid cpu (Err stop) mid new result cpu' rest = ap (λ (m : TurnSpace). m.pid) rest.2

  -- a step leaves the space to its process
  pub step_pid : (cpu : Cpu) (old new : TurnSpace) (result : Result StepEnd Halt) (cpu' : Cpu) → Stepped pid cpu old result cpu' new → new.pid ≡ old.pid
  step_pid cpu old new result cpu' step = fetched_pid cpu step.word step.mid new result cpu' step.rest ∙ step.fetch.joined.0

-- a space is that of its process
pub served : (pid : ℕ) (m : TurnSpace) → m.pid.0 ≡ pid → IsTrue (serves m pid)
served pid m e = eq-eqb pid m.pid.0 (sym e)

-- a step that ended is the one instruction of the definitions
pub stepped : (pid : ℕ) (cpu : Cpu) (old new : TurnSpace) (result : Result StepEnd Halt) (cpu' : Cpu) → old.pid.0 ≡ pid → Stepped pid cpu old result cpu' new → IfOk result (λ stop. Agrees (one pid cpu (space_of old.space)) stop cpu' (space_of new.space))
stepped pid cpu old new result cpu' here step = step_is serves space fetches loads stores pid cpu old result cpu' new (served pid old here) step

-- the same at an end that is known
pub stepped_to : (pid : ℕ) (cpu : Cpu) (old new : TurnSpace) (result : Result StepEnd Halt) (stop : StepEnd) (cpu' : Cpu) → old.pid.0 ≡ pid → result ≡ Ok stop → Stepped pid cpu old result cpu' new → Agrees (one pid cpu (space_of old.space)) stop cpu' (space_of new.space)
stepped_to pid cpu old new result stop cpu' here e step = rw e at (stepped pid cpu old new result cpu' here step)
