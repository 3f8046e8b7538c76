-- Words of the calls' contracts.
use Rattle.std.specs.Prelude.{◌≡◌, ℕ, ◌+◌, ◌-◌, nat_lt, length, Bool, true, false, Result, Ok, Err, if◌then◌else◌, List, [], ◌∷◌, Option, Some, None, option_map, slice_get}
use Rattle.lego_base.specs.declared.ids.FileNo.{FileNo}
use Rattle.lego_base.specs.declared.ids.Pid.{Pid}
use Rattle.kernel_objects.specs.declared.descriptor.Description.{Description}
use Rattle.kernel_objects.specs.declared.descriptor.FdEntry.{FdEntry}
use Rattle.kernel_objects.specs.declared.descriptor.Object.{Object}
use Rattle.kernel_objects.specs.declared.descriptor.Object.TheVariants.{Input, Output, Regular, PipeRead, PipeWrite}
use Rattle.kernel_objects.specs.declared.descriptor.Stream.TheVariants.{Out, Err as ErrOut}
use Rattle.kernel_objects.specs.declared.process.Brk.{Brk}
use Rattle.rv64_step.specs.declared.cpu.Cpu.{Cpu}
use Rattle.kernel_objects.specs.Slots.{picks, held, lowest_free, next_slot}
use Rattle.linux_model.specs.Descriptors.{Open}
use Rattle.linux_model.specs.Effects.{Effect, FreesFile, Reaps, MakesPipe, Opens, Starts}
use Rattle.linux_model.specs.Limits.{DESCRIPTIONS, O_WRONLY}
use Rattle.linux_model.specs.Managed.{Managed, managed_after}
use Rattle.linux_model.specs.Processes.{process, is_live, has_file, fds_of}
use Rattle.proc_table.specs.Entries.{Table, proc_of}
use Rattle.proc_table.specs.declared.table.Proc.{Proc}
use Rattle.proc_table.specs.declared.table.Reaped.{Reaped}
use Rattle.proc_table.specs.declared.table.Reaped.TheVariants.{Child}
use Rattle.manager.specs.declared.manager.Opened.{Opened}
use Rattle.manager.specs.declared.fault.FdFault.{FdFault}
use Rattle.manager.specs.declared.fault.FdFault.TheVariants.{Emfile, Enfile, NoMemory as OutOfMemory}
use Rattle.manager.specs.declared.fault.SpawnFault.{SpawnFault}
use Rattle.manager.specs.declared.fault.SpawnFault.TheVariants.{TooMany, NoMemory}

-- whether a process lives
abbrev pub is_alive : ℕ → Managed → Bool
is_alive pid m = picks (λ p. is_live p.state) (process m.procs pid)

-- what is open as linux_model has it, and the entry of the descriptor
abbrev pub open_of : Opened → Open
open_of o = record { desc = o.desc; is = o.is }

abbrev pub entry_of : Opened → FdEntry
entry_of o = record { desc = o.desc; cloexec = o.cloexec }

-- the file of an object whose description has ended, where no other description is open on it
abbrev pub file_left : Object → List (Option Description) → Option FileNo
file_left (Regular file) descs = if has_file file.0 descs then None else Some file
file_left other descs = None

-- a file that may go
abbrev pub frees : Option FileNo → List Effect
frees None = []
frees (Some file) = FreesFile file.0 ∷ []

-- what a parent has taken is gone
abbrev pub after_reaped : Reaped → Managed → Managed
after_reaped (Child pid status) m = managed_after (Reaps pid.0) m
after_reaped other m = m

-- the processes as proc_table has them
abbrev pub table_of : Managed → Table
table_of m = record { procs = m.procs; last = m.last }

-- whether a new process is one too many
abbrev pub is_too_many : {X : Type 0} → Result X SpawnFault → Bool
is_too_many (Ok x) = false
is_too_many (Err TooMany) = true
is_too_many (Err NoMemory) = false

-- the process at a place has this pid, and this is known of it
abbrev pub KnownAt : ℕ → Pid → Proc → Managed → Type 0
KnownAt place pid known m = option_map {U = Pid × Proc} (λ p. (record { 0 = p.pid }, proc_of p)) (slice_get m.procs place) ≡ Some (pid, known)

-- EMFILE or ENFILE, in this order: a free descriptor, where a description is left
abbrev pub one_of : Option ℕ → ℕ → Result ℕ FdFault
one_of None left = Err Emfile
one_of (Some fd) left = if nat_lt left 1 then Err Enfile else Ok fd

abbrev pub fd_for_one : ℕ → Managed → Result ℕ FdFault
fd_for_one pid m = one_of (lowest_free (fds_of (process m.procs pid)) 0) (DESCRIPTIONS - length (held m.descs))

-- the two lowest free descriptors, where two descriptions are left
abbrev pub second_of : ℕ → Option ℕ → ℕ → Result (ℕ × ℕ) FdFault
second_of reading None left = Err Emfile
second_of reading (Some writing) left = if nat_lt left 2 then Err Enfile else Ok (reading, writing)

abbrev pub two_of : Option ℕ → (ℕ → Option ℕ) → ℕ → Result (ℕ × ℕ) FdFault
two_of None next left = Err Emfile
two_of (Some reading) next left = second_of reading (next (reading + 1)) left

abbrev pub fds_for_two : ℕ → Managed → Result (ℕ × ℕ) FdFault
fds_for_two pid m = two_of (lowest_free (fds_of (process m.procs pid)) 0) (lowest_free (fds_of (process m.procs pid))) (DESCRIPTIONS - length (held m.descs))

-- the limit that was met
abbrev pub limit_of : Result (ℕ × ℕ) FdFault → Option FdFault
limit_of (Ok fds) = None
limit_of (Err Emfile) = Some Emfile
limit_of (Err Enfile) = Some Enfile
limit_of (Err OutOfMemory) = None

-- a pipe with its ends
abbrev pub pipe_effects : ℕ → ℕ × ℕ → Bool → Managed → List Effect
pipe_effects pid fds cloexec m =
    MakesPipe
    ∷ Opens pid fds.0 (PipeRead (next_slot m.pipes)) 0 cloexec
    ∷ Opens pid fds.1 (PipeWrite (next_slot m.pipes)) O_WRONLY cloexec ∷ []

-- the standard streams of a process, and its start with them: those of process 1 are linux_model's
abbrev pub stream_effects : ℕ → List Effect
stream_effects pid = Opens pid 0 Input 0 false ∷ Opens pid 1 (Output Out) O_WRONLY false ∷ Opens pid 2 (Output ErrOut) O_WRONLY false ∷ []

abbrev pub start_effects : ℕ → Cpu → Brk → List Effect
start_effects pid cpu brk = Starts pid cpu brk ∷ stream_effects pid
