-- The processes: who is there, who refers to what, what a death leaves, who waits for whom.
use Rattle.std.specs.Prelude.{◌==◌, ℕ, ◌&&◌, ◌||◌, not, Bool, true, false, if◌then◌else◌, List, [], ◌∷◌, map, filter, Option, Some, None, replicate}
use Rattle.lego_base.specs.declared.report.Exit.{Exit}
use Rattle.rv64_step.specs.declared.cpu.Cpu.{Cpu}
use Rattle.kernel_objects.specs.declared.descriptor.Description.{Description}
use Rattle.kernel_objects.specs.declared.descriptor.FdEntry.{FdEntry}
use Rattle.kernel_objects.specs.declared.descriptor.Object.{Object}
use Rattle.kernel_objects.specs.declared.descriptor.Object.TheVariants.{Regular, PipeRead, PipeWrite}
use Rattle.kernel_objects.specs.declared.process.Brk.{Brk}
use Rattle.kernel_objects.specs.Slots.{holds_some}
use Rattle.linux_model.specs.Limits.{ANY, DESCRIPTORS}
use Rattle.linux_model.specs.State.{Process, State, Live, Zombie}

-- the processes with one of them changed
abbrev pub at_pid : ℕ → (Process → Process) → List Process → List Process
at_pid pid f [] = []
at_pid pid f (p ∷ procs) = (if p.pid == pid then f p else p) ∷ at_pid pid f procs

-- the process with this pid
abbrev pub process : List Process → ℕ → Option Process
process [] pid = None
process (p ∷ procs) pid = if p.pid == pid then Some p else process procs pid

abbrev pub is_live : State → Bool
is_live Live = true
is_live (Zombie status) = false

-- whether a process with this pid lives
abbrev pub lives : ℕ → List Process → Bool
lives pid [] = false
lives pid (p ∷ procs) = p.pid == pid && is_live p.state || lives pid procs

-- ---- descriptors

abbrev pub no_descriptors : List (Option FdEntry)
no_descriptors = replicate DESCRIPTORS None

-- the descriptors of a process, none where it isn't there
abbrev pub fds_of : Option Process → List (Option FdEntry)
fds_of None = []
fds_of (Some p) = p.fds

-- whether some descriptor of some process refers to a description
abbrev pub is_referred : ℕ → List Process → Bool
is_referred desc [] = false
is_referred desc (p ∷ procs) = holds_some (λ e. e.desc == desc) p.fds || is_referred desc procs

-- whether an object is a file
abbrev pub is_file_object : ℕ → Object → Bool
is_file_object file (Regular number) = number.0 == file
is_file_object file other = false

-- whether some description has a file
abbrev pub has_file : ℕ → List (Option Description) → Bool
has_file file descs = holds_some (λ d. is_file_object file d.object) descs

abbrev pub is_reading_end : ℕ → Object → Bool
is_reading_end pipe (PipeRead slot) = slot == pipe
is_reading_end pipe other = false

abbrev pub is_writing_end : ℕ → Object → Bool
is_writing_end pipe (PipeWrite slot) = slot == pipe
is_writing_end pipe other = false

-- whether a pipe has a reader, and whether it has a writer
abbrev pub has_reader : ℕ → List (Option Description) → Bool
has_reader pipe descs = holds_some (λ d. is_reading_end pipe d.object) descs

abbrev pub has_writer : ℕ → List (Option Description) → Bool
has_writer pipe descs = holds_some (λ d. is_writing_end pipe d.object) descs

-- ---- life and death

-- a new process without a parent, and one that fork(2) makes of a process
abbrev pub first_process : ℕ → Cpu → Brk → Process
first_process pid cpu brk = record { pid = pid; cpu = cpu; parent = 0; state = Live; brk = brk; waiting = None; fds = no_descriptors }

abbrev pub child_of : Process → ℕ → Cpu → Process
child_of p child cpu = record { pid = child; cpu = cpu; parent = p.pid; state = Live; brk = p.brk; waiting = None; fds = p.fds }

abbrev pub exit : ℕ → ℕ → Exit
exit pid status = record { pid = record { 0 = pid }; status = status }

-- who becomes the parent of a dead process's children: process 1 where it lives and isn't the dead one
abbrev pub heir : ℕ → List Process → ℕ
heir dead procs = if not (dead == 1) && lives 1 procs then 1 else 0

-- a process once another is dead
abbrev pub orphaned : ℕ → ℕ → Process → Process
orphaned dead heir p = if p.parent == dead then record p { parent = heir } else p

-- a zombie whose parent is 0 is removed
abbrev pub stays : Process → Bool
stays p = not (p.parent == 0) || is_live p.state

-- the processes once one of them is dead: it is a zombie, its children have another parent, and a zombie
-- without a parent is gone
abbrev pub after_death : ℕ → ℕ → List Process → List Process
after_death dead status procs =
    filter stays (map (orphaned dead (heir dead procs)) (at_pid dead (λ p. record p { state = Zombie status; waiting = None }) procs))

-- the processes without one whose parent has taken its status
abbrev pub without_process : ℕ → List Process → List Process
without_process pid procs = filter (λ p. not (p.pid == pid)) procs

-- ---- children

-- wait4(2): whether a process is a child that the parent waits for, one of this pid or any
abbrev pub is_wanted : ℕ → ℕ → Process → Bool
is_wanted parent want p = p.parent == parent && (want == ANY || p.pid == want)

abbrev pub has_child : ℕ → ℕ → List Process → Bool
has_child parent want [] = false
has_child parent want (p ∷ procs) = is_wanted parent want p || has_child parent want procs

-- a child that is dead, with its wait status
pub record Dead : Type 0 where
  pub pid : ℕ
  pub status : ℕ

abbrev pub dead_of : ℕ → State → Option Dead
dead_of pid Live = None
dead_of pid (Zombie status) = Some (record { pid = pid; status = status })

abbrev pub or_else : {X : Type 0} → Option X → Option X → Option X
or_else None other = other
or_else (Some x) other = Some x

-- the zombie of least pid among the children that the parent waits for
abbrev pub dead_child : ℕ → ℕ → List Process → Option Dead
dead_child parent want [] = None
dead_child parent want (p ∷ procs) = or_else (if is_wanted parent want p then dead_of p.pid p.state else None) (dead_child parent want procs)
