-- The processes as contracts see them: those of linux_model, and the pid that was given last.
use Rattle.std.specs.Prelude.{ℕ, ◌+◌, ◌%◌, Bool, true, false, ℤ, List, [], ◌∷◌, ◌++◌, length, Option, Some, None, slice_index_or}
use Rattle.std.specs.Int.{cast_unsigned, w64}
use Rattle.lego_base.specs.declared.ids.Pid.{Pid}
use Rattle.rv64_step.specs.declared.cpu.Cpu.{Cpu}
use Rattle.kernel_objects.specs.declared.descriptor.FdEntry.{FdEntry}
use Rattle.kernel_objects.specs.declared.process.Brk.{Brk}
use Rattle.linux_model.specs.State.{Process, State, Live, Zombie}
use Rattle.linux_model.specs.Processes.{Dead, dead_child, has_child, without_process}
use Rattle.proc_table.specs.declared.entry.Entry.{Entry}
use Rattle.proc_table.specs.declared.table.Proc.{Proc}
use Rattle.proc_table.specs.declared.table.Reaped.{Reaped}
use Rattle.proc_table.specs.declared.table.Reaped.TheVariants.{Child, NoChild, NotYet}

abbrev pub state_of : Option ℕ → State
state_of None = Live
state_of (Some status) = Zombie status

abbrev pub process_of : Entry → Process
process_of e = record { pid = e.pid.0; cpu = e.cpu; parent = e.parent.0; state = state_of e.status; brk = e.brk; waiting = e.waiting; fds = e.fds }

-- what is known of a process: the wait status of a zombie alone
abbrev pub status_of : State → Option ℕ
status_of Live = None
status_of (Zombie status) = Some status

abbrev pub proc_of : Process → Proc
proc_of p = record { parent = record { 0 = p.parent }; cpu = p.cpu; brk = p.brk; waiting = p.waiting; status = status_of p.state }

pub record Table : Type 0 where
  -- the living and the zombies, in the order of their pids
  pub procs : List Process
  -- the pid that was given last, 0 before the first
  pub last : ℕ

abbrev pub no_processes : Table
no_processes = record { procs = []; last = 0 }

-- a new process, with the next pid
abbrev pub new_process : ℕ → ℕ → Cpu → Brk → List (Option FdEntry) → Process
new_process pid parent cpu brk fds = record { pid = pid; cpu = cpu; parent = parent; state = Live; brk = brk; waiting = None; fds = fds }

abbrev pub spawned : ℕ → Cpu → Brk → List (Option FdEntry) → Table → Table
spawned parent cpu brk fds t = record { procs = t.procs ++ new_process (t.last + 1) parent cpu brk fds ∷ []; last = t.last + 1 }

-- what a parent finds that waits for a pid, or for any (-1)
abbrev pub reaped_of : Bool → Option Dead → Reaped
reaped_of has (Some dead) = Child (record { 0 = dead.pid }) dead.status
reaped_of true None = NotYet
reaped_of false None = NoChild

abbrev pub child_for : ℕ → ℤ → Table → Reaped
child_for parent want t = reaped_of (has_child parent (cast_unsigned w64 want) t.procs) (dead_child parent (cast_unsigned w64 want) t.procs)

-- the processes once that child's status was taken
abbrev pub without_reaped : Reaped → Table → Table
without_reaped (Child pid status) t = record t { procs = without_process pid.0 t.procs }
without_reaped other t = t

-- who of the ready has the turn, by its number of the turn list
abbrev pub chosen_of : List Pid → ℕ → Option Pid
chosen_of [] turn = None
chosen_of (pid ∷ pids) turn = Some (slice_index_or (pid ∷ pids) (turn % length (pid ∷ pids)) pid)
