-- What the calls on a process's space come to: for each process and each kernel with the parts that a call is lent, in
-- place of their own.
use Rattle.std.specs.Prelude.{ℕ, ◌+◌, ◌/◌, ◌==◌, ◌||◌, not, nat_lt, Bool, List, [], ◌∷◌, Option, IfSome, Result, IfOk}
use Rattle.lego_base.specs.declared.perms.Perms.{Perms}
use Rattle.lego_base.specs.declared.sizes.TheConstants.{USER_END}
use Rattle.lego_base.specs.declared.stops.Halt.{Halt}
use Rattle.rv64_step.specs.declared.cpu.Cpu.{Cpu}
use Rattle.kernel_objects.specs.declared.process.Brk.{Brk}
use Rattle.area_list.specs.Runs.{cut_runs}
use Rattle.space_rules.specs.Place.{pages_for, place_of}
use Rattle.linux_model.specs.Limits.{EINVAL, ENOMEM}
use Rattle.linux_model.specs.State.{Kernel, Process}
use Rattle.linux_model.specs.Processes.{at_pid}
use Rattle.linux_model.specs.Effects.{Effect, AsksSpace}
use Rattle.linux_model.specs.Called.{Called, following, first, given}
use Rattle.linux_model.specs.Calls.{call_by, row}
use Rattle.linux_model.specs.SpaceCalls.{areas_of, is_page_address, maps_at, maps_fixed}
use Rattle.linux_model.specs.Held.{Held, with_held}
use Rattle.call_machine.specs.Laws.{effects_of}
use Rattle.call_machine.specs.Made.{Answered}

-- ---- a call that is lent the machine alone, for a process

abbrev pub with_pid : ℕ → Process → Process
with_pid pid p = record p { pid = pid }

-- it answered as its row
abbrev pub Answers : {X : Type 0} (held : X → Held) (does : X → X → List Effect → Type 0) → X → X → ℕ → (Process → Kernel → Called) → Result ℕ Halt → Type 0
Answers held does old new pid row result =
    (p : Process) (k : Kernel)
    → IfOk result (Answered does old new (row (with_pid pid p) (with_held (held old) k)) (with_held (held old) k) (with_held (held new) k))

-- the machine stopped in it, if it did
abbrev pub Stops : {X : Type 0} (held : X → Held) (stops : X → X → List Effect → Type 0) → X → X → ℕ → (Process → Kernel → Called) → Type 0
Stops held stops old new pid row = (p : Process) (k : Kernel) → stops old new (effects_of (row (with_pid pid p) (with_held (held old) k)))

-- ---- a call that is lent the break as well

abbrev pub with_break : Brk → Process → Process
with_break brk p = record p { brk = brk }

abbrev pub kernel_with : ℕ → Brk → Held → Kernel → Kernel
kernel_with pid brk h k = record (with_held h k) { procs = at_pid pid (with_break brk) k.procs }

abbrev pub BreakAnswers : {X : Type 0} (held : X → Held) (does : X → X → List Effect → Type 0) → X → X → ℕ → Brk → Brk → (Process → Kernel → Called) → Result ℕ Halt → Type 0
BreakAnswers held does old new pid brk brk' row result =
    (p : Process) (k : Kernel)
    → IfOk result (Answered does old new (row (with_break brk (with_pid pid p)) (kernel_with pid brk (held old) k)) (kernel_with pid brk (held old) k) (kernel_with pid brk' (held new) k))

abbrev pub BreakStops : {X : Type 0} (held : X → Held) (stops : X → X → List Effect → Type 0) → X → X → ℕ → Brk → (Process → Kernel → Called) → Type 0
BreakStops held stops old new pid brk row =
    (p : Process) (k : Kernel) → stops old new (effects_of (row (with_break brk (with_pid pid p)) (kernel_with pid brk (held old) k)))

-- ---- parts of mmap

-- anywhere, and at an address
abbrev pub anywhere_row : ℕ → Perms → Process → Kernel → Called
anywhere_row len perms p k = following (AsksSpace p.pid ∷ []) (given (place_of (areas_of p k) len) ENOMEM (maps_at p k (pages_for len) perms))

abbrev pub fixed_row : ℕ → ℕ → Perms → Process → Kernel → Called
fixed_row address len perms p k =
    first ((not (is_page_address address) || nat_lt address 4096, EINVAL)
    ∷ (nat_lt USER_END (address + len), ENOMEM) ∷ [])
    (maps_fixed p k (address / 4096) (pages_for len) perms (cut_runs (address / 4096) (pages_for len) (areas_of p k)))

-- ---- the calls by number

abbrev pub is_space_call : ℕ → Bool
is_space_call number = number == 214 || number == 215 || number == 222 || number == 226

-- a process that calls with these registers
abbrev pub calling : ℕ → Cpu → Brk → Process → Process
calling pid cpu brk p = record p { pid = pid; cpu = cpu; brk = brk }

-- where it was one of them it answered as the row of its number
abbrev pub NumberedAnswers : {X : Type 0} (held : X → Held) (does : X → X → List Effect → Type 0) → X → X → ℕ → Cpu → Brk → Brk → Result (Option ℕ) Halt → Type 0
NumberedAnswers held does old new pid cpu brk brk' result =
    (p : Process) (k : Kernel)
    → IfOk result (λ answer. IfSome answer (Answered does old new (row (call_by (calling pid cpu brk p)) (calling pid cpu brk p) (kernel_with pid brk (held old) k)) (kernel_with pid brk (held old) k) (kernel_with pid brk' (held new) k)))

abbrev pub NumberedStops : {X : Type 0} (held : X → Held) (stops : X → X → List Effect → Type 0) → X → X → ℕ → Cpu → Brk → Type 0
NumberedStops held stops old new pid cpu brk =
    (p : Process) (k : Kernel) → stops old new (effects_of (row (call_by (calling pid cpu brk p)) (calling pid cpu brk p) (kernel_with pid brk (held old) k)))
