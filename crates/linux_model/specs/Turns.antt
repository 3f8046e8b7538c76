-- Turns and the flat run.
use Rattle.std.specs.Prelude.{ℕ, zero, suc, ◌-◌, ◌%◌, ◌==◌, ◌&&◌, not, Bool, true, if◌then◌else◌, nat_lt, List, [], ◌∷◌, ◌++◌, length, Option, Some, None, slice_index}
use Rattle.lego_base.specs.declared.report.EndWord.{EndWord}
use Rattle.lego_base.specs.declared.report.EndWord.TheVariants.{Done, Stuck, Spent}
use Rattle.rv64_step.specs.declared.cpu.StepEnd.{StepEnd}
use Rattle.rv64_step.specs.declared.cpu.StepEnd.TheVariants.{Next, Call, Dead}
use Rattle.kernel_objects.specs.declared.process.Waiting.{Waiting}
use Rattle.linux_model.specs.State.{Kernel, Process}
use Rattle.linux_model.specs.Processes.{process, is_live}
use Rattle.linux_model.specs.Effects.{Effect, Begins, applies}
use Rattle.linux_model.specs.Instructions.{Ran, many}
use Rattle.linux_model.specs.ProcessCalls.{dying}
use Rattle.linux_model.specs.Calls.{call_effects, still_waits}

-- what fixes the turns of a run
pub record Schedule : Type 0 where
  -- which of the ready processes has the turn, by turns
  pub turns : List ℕ
  -- instructions of a turn
  pub quantum : ℕ
  pub max_turns : ℕ

-- whether a process may have a turn: it lives, and its call doesn't wait
abbrev pub is_ready : Kernel → Process → Bool
is_ready k p = is_live p.state && not (still_waits p.waiting p k)

-- the pids of those that may, in their order
abbrev pub ready_in : Kernel → List Process → List ℕ
ready_in k [] = []
ready_in k (p ∷ procs) = if is_ready k p then p.pid ∷ ready_in k procs else ready_in k procs

abbrev pub ready : Kernel → List ℕ
ready k = ready_in k k.procs

-- how a turn ends after its instructions: a call is tried, or the process dies by a signal
abbrev pub at_stop : StepEnd → ℕ → Kernel → List Effect
at_stop Next pid k = []
at_stop Call pid k = call_effects (process k.procs pid) k
at_stop (Dead signal) pid k = dying pid signal k

abbrev pub after_run : ℕ → Ran → Kernel → List Effect
after_run pid r k = r.effects ++ at_stop r.stop pid (applies r.effects k)

-- the instructions of a process's turn
abbrev pub run_of : Schedule → Process → Kernel → Ran
run_of schedule p k = many schedule.quantum p.pid p.cpu (k.space p.pid)

-- a kept call is tried once more, without its instruction; any other process runs
abbrev pub acts : Schedule → Process → Option Waiting → Kernel → List Effect
acts schedule p None k = after_run p.pid (run_of schedule p k) k
acts schedule p (Some w) k = call_effects (Some p) k

abbrev pub turn_of : Schedule → ℕ → Option Process → Kernel → List Effect
turn_of schedule n None k = []
turn_of schedule n (Some p) k = Begins n p.pid ∷ acts schedule p p.waiting k

-- the pid that has turn n, from 1
abbrev pub chosen : Schedule → ℕ → List ℕ → ℕ
chosen schedule n pids = slice_index pids (slice_index schedule.turns ((n - 1) % length schedule.turns) % length pids)

-- who has turn n: no process where none is ready
abbrev pub whose : Schedule → ℕ → List Process → List ℕ → Option Process
whose schedule n procs [] = None
whose schedule n procs (pid ∷ pids) = process procs (chosen schedule n (pid ∷ pids))

-- the effects of turn n
abbrev pub turn : Schedule → ℕ → Kernel → List Effect
turn schedule n k = turn_of schedule n (whose schedule n k.procs (ready k)) k

-- the flat run: the kernel after n turns
unfoldable pub flat : Schedule → Kernel → ℕ → Kernel
flat schedule boot zero = boot
flat schedule boot (suc n) = applies (turn schedule (suc n) (flat schedule boot n)) (flat schedule boot n)

-- all effects of n turns, in order
unfoldable pub flat_effects : Schedule → Kernel → ℕ → List Effect
flat_effects schedule boot zero = []
flat_effects schedule boot (suc n) = flat_effects schedule boot n ++ turn schedule (suc n) (flat schedule boot n)

-- whether no process lives
abbrev pub is_over : List Process → Bool
is_over [] = true
is_over (p ∷ procs) = not (is_live p.state) && is_over procs

-- how a run ends before turn n + 1, where it does: no process lives, none is ready, or all turns are over
abbrev pub ended : Schedule → ℕ → Kernel → Option EndWord
ended schedule n k =
    if is_over k.procs then Some Done else (
    if length (ready k) == 0 then Some Stuck else (
    if nat_lt n schedule.max_turns then None else Some Spent))
