-- Descriptors, and the calls that make, share and close them.
use Rattle.std.specs.Prelude.{ℕ, ◌+◌, ◌-◌, ◌==◌, not, Bool, true, false, if◌then◌else◌, nat_lt, nat_le, List, [], ◌∷◌, ◌++◌, length, Option, Some, None, option_and_then}
use Rattle.lego_base.specs.Space.{bytes_of}
use Rattle.rv64_step.specs.Meaning.{reg}
use Rattle.kernel_objects.specs.declared.descriptor.Description.{Description}
use Rattle.kernel_objects.specs.declared.descriptor.FdEntry.{FdEntry}
use Rattle.kernel_objects.specs.declared.descriptor.Object.{Object}
use Rattle.kernel_objects.specs.declared.descriptor.Object.TheVariants.{Regular, PipeRead, PipeWrite}
use Rattle.kernel_objects.specs.Slots.{slot, held, picks, lowest_free, next_slot}
use Rattle.linux_model.specs.Limits.{EBADF, EINVAL, EMFILE, ENFILE, O_CLOEXEC, O_WRONLY, DESCRIPTORS, DESCRIPTIONS, is_cloexec_alone, mode_of}
use Rattle.linux_model.specs.State.{Kernel, Process}
use Rattle.linux_model.specs.Processes.{process, has_file}
use Rattle.linux_model.specs.Effects.{Effect, Writes, FreesFile, Opens, Shares, Closes, MakesPipe, CopyOut, apply, applies}
use Rattle.linux_model.specs.Called.{Called, Gives, first, given}
use Rattle.linux_model.specs.Buffers.{to_write, one_piece, where_good}

-- argument n of a call, from 0, as in syscall(2)
abbrev pub arg : Process → ℕ → ℕ
arg p n = reg p.cpu (10 + n)

-- ---- what a descriptor is open on

abbrev pub entry : Process → ℕ → Option FdEntry
entry p fd = slot p.fds fd

-- a description with its slot
pub record Open : Type 0 where
  pub desc : ℕ
  pub is : Description

abbrev pub open_on : ℕ → Option Description → Option Open
open_on desc None = None
open_on desc (Some d) = Some (record { desc = desc; is = d })

-- what a descriptor of a process is open on
abbrev pub opened : Process → ℕ → Kernel → Option Open
opened p fd k = option_and_then (λ e. open_on e.desc (slot k.descs e.desc)) (entry p fd)

abbrev pub is_readable : Open → Bool
is_readable o = not (mode_of o.is.flags == O_WRONLY)

abbrev pub is_writable : Open → Bool
is_writable o = not (mode_of o.is.flags == 0)

-- a thing, where a test picks it
abbrev pub that : {X : Type 0} → (X → Bool) → Option X → Option X
that test None = None
that test (Some x) = if test x then Some x else None

-- the number of the file that an object is
abbrev pub file_of : Object → Option ℕ
file_of (Regular file) = Some file.0
file_of other = None

abbrev pub descriptions_left : Kernel → ℕ
descriptions_left k = DESCRIPTIONS - length (held k.descs)

-- ---- closing

abbrev pub file_open_on : Option Open → Option ℕ
file_open_on None = None
file_open_on (Some o) = file_of o.is.object

-- a file without a description may go
abbrev pub freeing : Option ℕ → Kernel → List Effect
freeing None k = []
freeing (Some file) k = if has_file file k.descs then [] else FreesFile file ∷ []

abbrev pub file_behind : Option Process → ℕ → Kernel → Option ℕ
file_behind None fd k = None
file_behind (Some p) fd k = file_open_on (opened p fd k)

-- a descriptor is closed; where that ends the last description of a file, the file may go
abbrev pub closing : ℕ → ℕ → Kernel → List Effect
closing pid fd k = Closes pid fd ∷ freeing (file_behind (process k.procs pid) fd k) (apply (Closes pid fd) k)

abbrev pub closing_if : Bool → ℕ → ℕ → Kernel → List Effect
closing_if false pid fd k = []
closing_if true pid fd k = closing pid fd k

-- the descriptors that a test picks are closed, in rising order; the list holds those starting at `fd`
abbrev pub closings : (FdEntry → Bool) → ℕ → ℕ → List (Option FdEntry) → Kernel → List Effect
closings test pid fd [] k = []
closings test pid fd (x ∷ fds) k =
    closing_if (picks test x) pid fd k ++ closings test pid (fd + 1) fds (applies (closing_if (picks test x) pid fd k) k)

-- ---- the rows

-- close(2)
abbrev pub close_row : Process → Kernel → ℕ → Called
close_row p k fd = given (entry p fd) EBADF (λ e. Gives (closing p.pid fd k) 0)

-- dup(2): the lowest free descriptor, without the flag that execve closes it
abbrev pub dup_row : Process → Kernel → ℕ → Called
dup_row p k fd =
    given (entry p fd) EBADF (λ e.
    given (lowest_free p.fds 0) EMFILE (λ to.
    Gives (Shares p.pid to e.desc false ∷ []) to))

abbrev pub closing_entry : ℕ → ℕ → Option FdEntry → Kernel → List Effect
closing_entry pid fd entry k = closing_if (picks (λ e. true) entry) pid fd k

-- dup3(2): the descriptor `to`, which is closed first where it is open
abbrev pub dup3_row : Process → Kernel → ℕ → ℕ → ℕ → Called
dup3_row p k from to flags =
    first ((not (is_cloexec_alone flags), EINVAL)
    ∷ (from == to, EINVAL) ∷ [])
    (given (entry p from) EBADF (λ e.
    first ((nat_le DESCRIPTORS to, EBADF) ∷ [])
    (Gives (closing_entry p.pid to (entry p to) k ++ Shares p.pid to e.desc (flags == O_CLOEXEC) ∷ []) to)))

-- pipe2(2): the two lowest free descriptors, the reading one first; their numbers are written as one copy
abbrev pub pipe2_row : Process → Kernel → ℕ → ℕ → Called
pipe2_row p k address flags =
    first ((not (is_cloexec_alone flags), EINVAL) ∷ [])
    (where_good p k to_write (one_piece address 8)
    (given (lowest_free p.fds 0) EMFILE (λ reading.
    given (lowest_free p.fds (reading + 1)) EMFILE (λ writing.
    first ((nat_lt (descriptions_left k) 2, ENFILE) ∷ [])
    (Gives (MakesPipe
    ∷ Opens p.pid reading (PipeRead (next_slot k.pipes)) 0 (flags == O_CLOEXEC)
    ∷ Opens p.pid writing (PipeWrite (next_slot k.pipes)) O_WRONLY (flags == O_CLOEXEC)
    ∷ Writes CopyOut p.pid address (bytes_of 4 reading ++ bytes_of 4 writing) ∷ []) 0)))))
