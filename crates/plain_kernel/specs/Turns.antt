-- The parts of a turn.
use Rattle.std.specs.Prelude.{◌≡◌, ℕ, suc, List, [], Option, Some, None, IfSome, true}
use Rattle.lego_base.specs.Space.{Space}
use Rattle.rv64_step.specs.declared.cpu.StepEnd.{StepEnd}
use Rattle.desc_read.specs.declared.plan.Plan.{Plan}
use Rattle.kernel_objects.specs.declared.process.Waiting.{Waiting}
use Rattle.linux_model.specs.State.{Kernel, Process}
use Rattle.linux_model.specs.Processes.{process}
use Rattle.linux_model.specs.Effects.{Effect}
use Rattle.linux_model.specs.Held.{Held, held_after_all}
use Rattle.linux_model.specs.Managed.{Managed, managed_after_all}
use Rattle.linux_model.specs.Instructions.{Ran, many}
use Rattle.linux_model.specs.Turns.{Schedule, acts, ended, ready, whose}
use Rattle.manager.specs.Words.{is_alive}
use Rattle.call_machine.specs.Lent.{FitTogether}
use Rattle.sys_calls.specs.Ready.{CanCall}
use Rattle.plain_machine.specs.Plain.{held_of, Did}
use Rattle.plain_kernel.specs.declared.kernel.Next.{Next}
use Rattle.plain_kernel.specs.declared.kernel.Next.TheVariants.{Turn, End}
use Rattle.plain_kernel.specs.declared.kernel.PlainKernel.{PlainKernel}
use Rattle.plain_kernel.specs.Standing.{over}

-- the turns that a description asks for
abbrev pub schedule_of : Plan → Schedule
schedule_of plan = record { turns = plan.turns; quantum = plan.quantum; max_turns = plan.max_turns }

-- Effects happened: the machine did them, and what they make of what was managed is managed now.
pub record Turned (old new : PlainKernel) (es : List Effect) : Type 0 where
  pub did : Did old.machine new.machine es
  pub managed : managed_after_all es old.manager ≡ new.manager

-- what a process does in its turn
abbrev pub acts_in : Schedule → Process → Kernel → List Effect
acts_in schedule p k = acts schedule p p.waiting k

-- the process with this pid, if it is there, did what it does in its turn
abbrev pub TookTurn : Schedule → ℕ → PlainKernel → PlainKernel → Kernel → Type 0
TookTurn schedule pid old new k = IfSome (process old.manager.procs pid) (λ p. Turned old new (acts_in schedule p (over old k)))

-- the instructions of a process in these spaces
abbrev pub ran_in : ℕ → Process → (ℕ → Space) → Ran
ran_in quantum p space = many quantum p.pid p.cpu (space p.pid)

-- instructions of a process were run, and ended so
pub record Instructed (quantum : ℕ) (p : Process) (old new : PlainKernel) (stop : StepEnd) : Type 0 where
  pub stops : (ran_in quantum p (held_of old.machine).space).stop ≡ stop
  pub turned : Turned old new (ran_in quantum p (held_of old.machine).space).effects

-- what happens before the call of a turn is tried: the instructions, where no call is kept
abbrev pub before_call : ℕ → Process → Option Waiting → (ℕ → Space) → List Effect
before_call quantum p None space = (ran_in quantum p space).effects
before_call quantum p (Some w) space = []

-- A process may have a turn: it lives, what is managed fits to what is held, and its call may come once the instructions before
-- it were run.
pub record CanTurn (schedule : Schedule) (pid : ℕ) (man : Managed) (held : Held) : Type 0 where
  pub alive : is_alive pid man ≡ true
  pub fit : FitTogether man held
  pub call :
      IfSome (process man.procs pid) (λ p.
      CanCall pid (managed_after_all (before_call schedule.quantum p p.waiting held.space) man) (held_after_all (before_call schedule.quantum p p.waiting held.space) held))

-- the process with this pid has the turn after n turns
pub record HasTurn (schedule : Schedule) (turns : ℕ) (k : Kernel) (pid : ℕ) : Type 0 where
  pub p : Process
  pub there : process k.procs pid ≡ Some p
  pub turn : whose schedule (suc turns) k.procs (ready k) ≡ Some p

-- what comes after n turns
abbrev pub NextIs : Schedule → ℕ → Kernel → Next → Type 0
NextIs schedule turns k (Turn pid) = (ended schedule turns k ≡ None) × HasTurn schedule turns k pid.0
NextIs schedule turns k (End word) = ended schedule turns k ≡ Some word
