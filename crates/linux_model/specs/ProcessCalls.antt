-- The calls on processes: clone, execve, wait4, and death.
use Rattle.std.specs.Prelude.{ℕ, zero, suc, ◌+◌, ◌-◌, ◌*◌, ◌%◌, ◌==◌, ◌&&◌, ◌||◌, not, Bool, true, false, if◌then◌else◌, nat_lt, nat_le, List, [], ◌∷◌, ◌++◌, length, Option, Some, None, is_some}
use Rattle.lego_base.specs.Files.{file_bytes}
use Rattle.lego_base.specs.Space.{Space, permits, bytes_at, number_of, bytes_of}
use Rattle.elf_image.specs.Image.{Program, program_of, first_fault}
use Rattle.space_rules.specs.declared.TheConstants.{MOST_STRINGS, MOST_STRING_BYTES}
use Rattle.rv64_step.specs.Meaning.{with_reg, next_pc}
use Rattle.kernel_objects.specs.declared.piece.Piece.{Piece}
use Rattle.linux_model.specs.Limits.{ENOENT, E2BIG, ENOEXEC, ECHILD, EAGAIN, EACCES, EFAULT, EINVAL, SIGCHLD, AT_FDCWD, ANY, PROCESSES, is_negative}
use Rattle.linux_model.specs.State.{Kernel, Process}
use Rattle.linux_model.specs.Processes.{Dead, process, fds_of, has_child, dead_child}
use Rattle.linux_model.specs.Effects.{Effect, Reads, Writes, Refused, Copies, Drops, AsksSize, ReadsFile, Breaks, Forks, Dies, Reaps, CopyIn, CopyOut}
use Rattle.linux_model.specs.Called.{Called, Gives, Becomes, Waits, Death, says, following, first}
use Rattle.linux_model.specs.Buffers.{one_piece, where_good, to_read, to_write}
use Rattle.linux_model.specs.Paths.{Found, Root, Named, Text, TextEnd, AtZero, Denied, Long, text_at, at_path}
use Rattle.linux_model.specs.Descriptors.{closings}
use Rattle.linux_model.specs.Loading.{start_of, loads_program}

-- ---- death

-- descriptors are closed in rising order, then the exit is recorded and the space goes
abbrev pub dying : ℕ → ℕ → Kernel → List Effect
dying pid status k = closings (λ e. true) pid 0 (fds_of (process k.procs pid)) k ++ Dies pid status ∷ Drops pid ∷ []

-- exit(2), exit_group(2): the status has the low byte of the code, as wait(2) gives it
abbrev pub exit_row : ℕ → Called
exit_row code = Death [] (code % 256 * 256)

-- ---- clone

-- clone(2) as fork(2): the child has a copy of the space, shares the descriptions, and goes on with 0 as its answer
abbrev pub clone_row : Process → Kernel → ℕ → ℕ → Called
clone_row p k flags stack =
    first ((not (flags == SIGCHLD && stack == 0), EINVAL)
    ∷ (nat_le PROCESSES (length k.procs), EAGAIN) ∷ [])
    (Gives (Copies p.pid (k.last + 1) ∷ Forks p.pid (k.last + 1) (with_reg p.cpu 10 0 (next_pc p.cpu)) ∷ []) (k.last + 1))

-- ---- execve

-- what was read of the lists of strings: the reads, the strings, how many more addresses and bytes there may be, and
-- the error that it ended with
pub record Strings : Type 0 where
  pub reads : List Effect
  pub strings : List (List ℕ)
  pub left : ℕ
  pub room : ℕ
  pub fault : Option ℕ

abbrev pub no_strings : List Effect → ℕ → ℕ → Option ℕ → Strings
no_strings reads left room fault = record { reads = reads; strings = []; left = left; room = room; fault = fault }

abbrev pub reads_first : List Effect → Strings → Strings
reads_first reads s = record s { reads = reads ++ s.reads }

abbrev pub string_first : List ℕ → Strings → Strings
string_first string s = record s { strings = string ∷ s.strings }

-- a string, then the rest of the list; its closing 0 counts among its bytes
abbrev pub string_on : TextEnd → Text → ℕ → ℕ → (ℕ → Strings) → Strings
string_on AtZero text left room more = reads_first text.reads (string_first text.bytes (more (room - (length text.bytes + 1))))
string_on Denied text left room more = no_strings text.reads left room (Some EFAULT)
string_on Long text left room more = no_strings text.reads left room (Some E2BIG)

abbrev pub with_string : Text → ℕ → ℕ → (ℕ → Strings) → Strings
with_string text left room more = string_on text.end text left room more

-- an address of the list: whether it may be read, whether it is 0, and what comes of it
abbrev pub address_on : Bool → Bool → ℕ → Space → ℕ → ℕ → ℕ → (ℕ → Strings) → Strings
address_on false is_end pid space address left room more = no_strings (Refused CopyIn pid address 8 ∷ []) left room (Some EFAULT)
address_on true true pid space address left room more = no_strings (Reads CopyIn pid address (bytes_at space address 8) ∷ []) left room None
address_on true false pid space address left room more =
    reads_first (Reads CopyIn pid address (bytes_at space address 8) ∷ []) (more (number_of (bytes_at space address 8)))

-- the strings of a list of addresses that ends with 0, each read directly after its address
abbrev pub strings_at : ℕ → Space → ℕ → ℕ → ℕ → Strings
strings_at pid space zero address room =
    address_on (permits space to_read address 8) (number_of (bytes_at space address 8) == 0) pid space address 0 room
    (λ string. no_strings [] 0 room (Some E2BIG))
strings_at pid space (suc left) address room =
    address_on (permits space to_read address 8) (number_of (bytes_at space address 8) == 0) pid space address (suc left) room
    (λ string. with_string (text_at pid space room string) left room (λ room'. strings_at pid space left (address + 8) room'))

-- address 0 is an empty list
abbrev pub list_at : ℕ → Space → ℕ → ℕ → ℕ → Strings
list_at pid space left address room = if address == 0 then no_strings [] left room None else strings_at pid space left address room

abbrev pub if_no_fault : Option ℕ → Called → Called
if_no_fault None next = next
if_no_fault (Some errno) next = says errno

abbrev pub with_strings : Strings → (Strings → Called) → Called
with_strings s f = following s.reads (if_no_fault s.fault (f s))

-- the process goes on with another program: descriptors with the flag are closed, the space becomes the program's
abbrev pub executes : Process → Kernel → Program → List (List ℕ) → List (List ℕ) → Called
executes p k program args env =
    Becomes (closings (λ e. e.cloexec) p.pid 0 p.fds k
    ++ Drops p.pid
    ∷ loads_program p.pid program args env
    ++ Breaks p.pid program.brk program.brk ∷ []) (start_of program args env)

abbrev pub executes_bytes : Process → Kernel → List ℕ → List (List ℕ) → List (List ℕ) → Called
executes_bytes p k bytes args env =
    first ((is_some (first_fault bytes), ENOEXEC) ∷ [])
    (executes p k (program_of bytes) args env)

abbrev pub executes_found : Process → Kernel → List (List ℕ) → List (List ℕ) → Found → Called
executes_found p k args env Root = says EACCES
executes_found p k args env (Named name None) = says ENOENT
executes_found p k args env (Named name (Some file)) =
    following (AsksSize file.0 ∷ ReadsFile file.0 0 (length (file_bytes k.files file.0)) ∷ [])
    (executes_bytes p k (file_bytes k.files file.0) args env)

-- execve(2): 512 strings and 65536 bytes over both lists
abbrev pub execve_row : Process → Kernel → ℕ → ℕ → ℕ → Called
execve_row p k path args env =
    at_path p k AT_FDCWD path (λ found.
    with_strings (list_at p.pid (k.space p.pid) MOST_STRINGS args MOST_STRING_BYTES) (λ a.
    with_strings (list_at p.pid (k.space p.pid) a.left env a.room) (λ e.
    executes_found p k a.strings e.strings found)))

-- ---- wait4

-- the address for the status, where there is one
abbrev pub status_buffer : ℕ → List Piece
status_buffer address = if address == 0 then [] else one_piece address 4

abbrev pub reaps : Process → ℕ → ℕ → Option Dead → Called
reaps p address options None = if options == 1 then says 0 else Waits [] 0 0
reaps p address options (Some dead) =
    Gives (Reaps dead.pid ∷ (if address == 0 then [] else Writes CopyOut p.pid address (bytes_of 4 dead.status) ∷ [])) dead.pid

-- wait4(2): the zombie of least pid; WNOHANG (1) doesn't wait
abbrev pub wait4_row : Process → Kernel → ℕ → ℕ → ℕ → ℕ → Called
wait4_row p k want address options usage =
    first ((nat_lt 1 options || not (usage == 0) || want == 0 || is_negative want && not (want == ANY), EINVAL)
    ∷ (not (has_child p.pid want k.procs), ECHILD) ∷ [])
    (where_good p k to_write (status_buffer address)
    (reaps p address options (dead_child p.pid want k.procs)))
