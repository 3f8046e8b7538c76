-- What can happen to the kernel, as data: an instruction, a call, a turn and a run are lists of effects.
use Rattle.std.specs.Prelude.{ℕ, ◌+◌, ◌*◌, ◌&&◌, ◌||◌, Bool, if◌then◌else◌, nat_le, nat_lt, List, [], ◌∷◌, ◌++◌, drop, length, Option, Some, None, slice_set, is_some}
use Rattle.lego_base.specs.declared.records.Area.{Area}
use Rattle.lego_base.specs.Files.{file_bytes, with_file_bytes, without_file, named, has_name, with_name, without_name}
use Rattle.lego_base.specs.Pieces.{of_size, written_at}
use Rattle.lego_base.specs.Space.{Space, no_space, with_bytes, with_space}
use Rattle.area_list.specs.Runs.{cut_runs}
use Rattle.rv64_step.specs.declared.cpu.Cpu.{Cpu}
use Rattle.kernel_objects.specs.declared.descriptor.Description.{Description}
use Rattle.kernel_objects.specs.declared.descriptor.FdEntry.{FdEntry}
use Rattle.kernel_objects.specs.declared.descriptor.Object.{Object}
use Rattle.kernel_objects.specs.declared.descriptor.Object.TheVariants.{PipeRead, PipeWrite}
use Rattle.kernel_objects.specs.declared.descriptor.Stream.{Stream}
use Rattle.kernel_objects.specs.declared.process.Brk.{Brk}
use Rattle.kernel_objects.specs.Slots.{slot, freed, next_slot, with_next}
use Rattle.linux_model.specs.Limits.{FILES}
use Rattle.linux_model.specs.State.{Kernel, Process, on, joined}
use Rattle.linux_model.specs.Processes.{at_pid, process, fds_of, is_referred, has_reader, has_writer, first_process, child_of, after_death, without_process, exit}

-- for what an access to a space was made: an instruction's own bytes, a load, a store, or a call's copy
-- from the space or to it
pub data Kind : Type 0 where
  Fetch : Kind
  Load : Kind
  Store : Kind
  CopyIn : Kind
  CopyOut : Kind

-- Where an effect speaks of a process, its pid comes first; of an access, the kind comes before it.
pub data Effect : Type 0 where
  -- a turn of this number begins, of this process; turn 0, of no process, is booting
  Begins : ℕ → ℕ → Effect
  -- SPACES
  -- bytes that a process read at an address
  Reads : Kind → ℕ → ℕ → List ℕ → Effect
  -- bytes that a process wrote at an address
  Writes : Kind → ℕ → ℕ → List ℕ → Effect
  -- an access of n bytes that isn't permitted
  Refused : Kind → ℕ → ℕ → ℕ → Effect
  -- the areas of n bytes at an address are asked for, and those of the whole space
  AsksSpan : ℕ → ℕ → ℕ → Effect
  AsksSpace : ℕ → Effect
  -- the areas become these, with more pages mapped
  Maps : ℕ → List Area → Effect
  -- the areas become these, once the permissions of n pages starting at one have changed
  Protects : ℕ → ℕ → ℕ → List Area → Effect
  -- n pages, starting at one, aren't mapped any more; where they are mapped again they read 0
  Unmaps : ℕ → ℕ → ℕ → Effect
  -- bytes of an image or a start stack that the loader writes
  Fills : ℕ → ℕ → List ℕ → Effect
  -- the space of a child becomes its parent's
  Copies : ℕ → ℕ → Effect
  -- the space of a process goes
  Drops : ℕ → Effect
  -- FILES
  LooksUp : List ℕ → Effect
  -- a new file under a name that none has, unless there are too many files
  MakesFile : List ℕ → Effect
  Unlinks : List ℕ → Effect
  -- a file goes, unless it has a name
  FreesFile : ℕ → Effect
  AsksSize : ℕ → Effect
  -- n bytes of a file, starting at an offset, are read
  ReadsFile : ℕ → ℕ → ℕ → Effect
  WritesFile : ℕ → ℕ → List ℕ → Effect
  CutsFile : ℕ → ℕ → Effect
  -- DESCRIPTORS AND PIPES
  -- a new description, at offset 0, of an object with flags, for a free descriptor; it may be closed by execve(2)
  Opens : ℕ → ℕ → Object → ℕ → Bool → Effect
  -- a free descriptor gets a description that is there
  Shares : ℕ → ℕ → ℕ → Bool → Effect
  Closes : ℕ → ℕ → Effect
  -- the offset of a description
  Seeks : ℕ → ℕ → Effect
  MakesPipe : Effect
  PutsPipe : ℕ → List ℕ → Effect
  TakesPipe : ℕ → ℕ → Effect
  -- n bytes of standard input are taken
  Takes : ℕ → Effect
  -- bytes for standard output or standard error
  Puts : Stream → List ℕ → Effect
  -- PROCESSES
  -- the registers after an instruction, and those after a call
  Goes : ℕ → Cpu → Effect
  Returns : ℕ → Cpu → Effect
  -- a call is kept waiting: bytes that it has moved, and is to move in all
  Keeps : ℕ → ℕ → ℕ → Effect
  -- the lowest break, and the break
  Breaks : ℕ → ℕ → ℕ → Effect
  -- a new process without a parent
  Starts : ℕ → Cpu → Brk → Effect
  -- a process gets a child, with these registers
  Forks : ℕ → ℕ → Cpu → Effect
  -- a process dies with a wait status
  Dies : ℕ → ℕ → Effect
  -- the wait status of a zombie was taken
  Reaps : ℕ → Effect

-- ---- spaces

abbrev pub with_areas : ℕ → List Area → Kernel → Kernel
with_areas pid areas k = record k { space = with_space k.space pid (record (k.space pid) { areas = areas }) }

abbrev pub write_at : ℕ → ℕ → List ℕ → Kernel → Kernel
write_at pid address bytes k = record k { space = with_space k.space pid (with_bytes (k.space pid) address bytes) }

-- a space in which n pages, starting at one, aren't mapped and read 0
abbrev pub unmapped : ℕ → ℕ → Space → Space
unmapped first pages space = record {
  areas = cut_runs first pages space.areas;
  byte = λ a. if nat_le (first * 4096) a && nat_lt a ((first + pages) * 4096) then 0 else space.byte a;
}

-- ---- files

-- a new file under a name: none where the name is taken or there are too many files
abbrev pub with_new_file : List ℕ → Kernel → Kernel
with_new_file name k =
    if is_some (named k.names name) || nat_le FILES (length k.files) then k
    else record k {
      files = k.files ++ record { file = k.next; bytes = [] } ∷ [];
      names = with_name (record { name = name; file = record { 0 = k.next } }) k.names;
      next = k.next + 1;
    }

-- ---- descriptors

abbrev pub at_fd : ℕ → Option FdEntry → Process → Process
at_fd fd entry p = record p { fds = slice_set p.fds fd entry }

-- the description that a descriptor refers to
abbrev pub desc_at : Option FdEntry → Option ℕ
desc_at None = None
desc_at (Some e) = Some e.desc

-- a pipe goes with its last end
abbrev pub pipe_ends : ℕ → Kernel → Kernel
pipe_ends pipe k = if has_reader pipe k.descs || has_writer pipe k.descs then k else record k { pipes = freed k.pipes pipe }

abbrev pub object_ends : Object → Kernel → Kernel
object_ends (PipeRead pipe) k = pipe_ends pipe k
object_ends (PipeWrite pipe) k = pipe_ends pipe k
object_ends other k = k

abbrev pub description_ends : Option Description → Kernel → Kernel
description_ends None k = k
description_ends (Some d) k = object_ends d.object k

-- a description goes with the last descriptor that refers to it
abbrev pub let_go : Option ℕ → Kernel → Kernel
let_go None k = k
let_go (Some desc) k =
    if is_referred desc k.procs then k
    else description_ends (slot k.descs desc) (record k { descs = freed k.descs desc })

abbrev pub closed : ℕ → ℕ → Kernel → Kernel
closed pid fd k = let_go (desc_at (slot (fds_of (process k.procs pid)) fd)) (record k { procs = at_pid pid (at_fd fd None) k.procs })

-- the descriptions with the offset of one of them changed
abbrev pub sought : ℕ → Option Description → Option Description
sought offset None = None
sought offset (Some d) = Some (record d { offset = offset })

-- the bytes of a pipe, none where it isn't there
abbrev pub bytes_in_pipe : Option (List ℕ) → List ℕ
bytes_in_pipe None = []
bytes_in_pipe (Some bytes) = bytes

abbrev pub pipe_bytes : ℕ → Kernel → List ℕ
pipe_bytes pipe k = bytes_in_pipe (slot k.pipes pipe)

abbrev pub with_pipe : ℕ → List ℕ → Kernel → Kernel
with_pipe pipe bytes k = record k { pipes = slice_set k.pipes pipe (Some bytes) }

-- ---- processes

abbrev pub forked : Option Process → ℕ → Cpu → Kernel → Kernel
forked None child cpu k = k
forked (Some p) child cpu k = record k { procs = k.procs ++ child_of p child cpu ∷ []; last = child }

-- what an effect makes of the kernel
abbrev pub apply : Effect → Kernel → Kernel
apply (Begins number pid) k = k
apply (Reads kind pid address bytes) k = k
apply (Writes kind pid address bytes) k = write_at pid address bytes k
apply (Refused kind pid address n) k = k
apply (AsksSpan pid address n) k = k
apply (AsksSpace pid) k = k
apply (Maps pid areas) k = with_areas pid areas k
apply (Protects pid first pages areas) k = with_areas pid areas k
apply (Unmaps pid first pages) k = record k { space = with_space k.space pid (unmapped first pages (k.space pid)) }
apply (Fills pid address bytes) k = write_at pid address bytes k
apply (Copies parent child) k = record k { space = with_space k.space child (k.space parent) }
apply (Drops pid) k = record k { space = with_space k.space pid no_space }
apply (LooksUp name) k = k
apply (MakesFile name) k = with_new_file name k
apply (Unlinks name) k = record k { names = without_name name k.names }
apply (FreesFile file) k = if has_name k.names file then k else record k { files = without_file file k.files }
apply (AsksSize file) k = k
apply (ReadsFile file off n) k = k
apply (WritesFile file off bytes) k = record k { files = with_file_bytes k.files file (written_at (file_bytes k.files file) off bytes) }
apply (CutsFile file size) k = record k { files = with_file_bytes k.files file (of_size size (file_bytes k.files file)) }
apply (Opens pid fd object flags cloexec) k = record k {
  procs = at_pid pid (at_fd fd (Some (record { desc = next_slot k.descs; cloexec = cloexec }))) k.procs;
  descs = with_next (record { object = object; offset = 0; flags = flags }) k.descs;
}
apply (Shares pid fd desc cloexec) k = record k { procs = at_pid pid (at_fd fd (Some (record { desc = desc; cloexec = cloexec }))) k.procs }
apply (Closes pid fd) k = closed pid fd k
apply (Seeks desc offset) k = record k { descs = slice_set k.descs desc (sought offset (slot k.descs desc)) }
apply MakesPipe k = record k { pipes = with_next [] k.pipes }
apply (PutsPipe pipe bytes) k = with_pipe pipe (pipe_bytes pipe k ++ bytes) k
apply (TakesPipe pipe n) k = with_pipe pipe (drop n (pipe_bytes pipe k)) k
apply (Takes n) k = record k { input = drop n k.input }
apply (Puts stream bytes) k = record k { written = joined k.written (on stream bytes) }
apply (Goes pid cpu) k = record k { procs = at_pid pid (λ p. record p { cpu = cpu }) k.procs }
apply (Returns pid cpu) k = record k { procs = at_pid pid (λ p. record p { cpu = cpu; waiting = None }) k.procs }
apply (Keeps pid moved len) k = record k { procs = at_pid pid (λ p. record p { waiting = Some (record { moved = moved; len = len }) }) k.procs }
apply (Breaks pid base now) k = record k { procs = at_pid pid (λ p. record p { brk = record { base = base; now = now } }) k.procs }
apply (Starts pid cpu brk) k = record k { procs = k.procs ++ first_process pid cpu brk ∷ []; last = pid }
apply (Forks parent child cpu) k = forked (process k.procs parent) child cpu k
apply (Dies pid status) k = record k { procs = after_death pid status k.procs; exits = k.exits ++ exit pid status ∷ [] }
apply (Reaps pid) k = record k { procs = without_process pid k.procs }

-- what a list of effects makes of it, one after the other
abbrev pub applies : List Effect → Kernel → Kernel
applies [] k = k
applies (e ∷ es) k = applies es (apply e k)
