-- What holds of every kernel that a run reaches, and what an effect asks of the kernel so that it stays so.
use Rattle.std.specs.Prelude.{◌≡◌, ◌<◌, ◌≤◌, ◌==◌, ℕ, true, false, List, [], ◌∷◌, length, Option, Some, None, is_some}
use Rattle.lego_base.specs.declared.records.NameEntry.{NameEntry}
use Rattle.lego_base.specs.Files.{File, is_file}
use Rattle.kernel_objects.specs.declared.descriptor.Description.{Description}
use Rattle.kernel_objects.specs.declared.descriptor.FdEntry.{FdEntry}
use Rattle.kernel_objects.specs.declared.descriptor.Object.{Object}
use Rattle.kernel_objects.specs.declared.descriptor.Object.TheVariants.{Regular, PipeRead, PipeWrite}
use Rattle.kernel_objects.specs.Slots.{slot, holds_some}
use Rattle.linux_model.specs.Limits.{DESCRIPTORS}
use Rattle.linux_model.specs.State.{Kernel, Process}
use Rattle.linux_model.specs.Processes.{has_file, is_live}
use Rattle.linux_model.specs.Effects.{Effect, FreesFile, Opens, Shares, Starts, Forks, Dies, apply}

-- ---- processes

-- pids rise, each above a number, and none is above the last one that was given
abbrev pub PidsRise : ℕ → ℕ → List Process → Type 0
PidsRise low last [] = Unit {0}
PidsRise low last (p ∷ procs) = (low < p.pid) × (p.pid ≤ last) × PidsRise p.pid last procs

-- each descriptor names a description that is there
abbrev pub EntriesFit : List (Option Description) → List (Option FdEntry) → Type 0
EntriesFit descs [] = Unit {0}
EntriesFit descs (None ∷ fds) = EntriesFit descs fds
EntriesFit descs (Some e ∷ fds) = (is_some (slot descs e.desc) ≡ true) × EntriesFit descs fds

-- there are 64 descriptors, and those of a zombie are all closed
pub record ProcessFits (descs : List (Option Description)) (p : Process) : Type 0 where
  pub slots : length p.fds ≡ DESCRIPTORS
  pub entries : EntriesFit descs p.fds
  pub zombie : is_live p.state ≡ false → holds_some (λ e. true) p.fds ≡ false

abbrev pub ProcsFit : List (Option Description) → List Process → Type 0
ProcsFit descs [] = Unit {0}
ProcsFit descs (p ∷ procs) = ProcessFits descs p × ProcsFit descs procs

-- ---- descriptions

-- the file that an object is, or its pipe, is there
abbrev pub ObjectFits : List File → List (Option (List ℕ)) → Object → Type 0
ObjectFits files pipes (Regular file) = is_file files file.0 ≡ true
ObjectFits files pipes (PipeRead pipe) = is_some (slot pipes pipe) ≡ true
ObjectFits files pipes (PipeWrite pipe) = is_some (slot pipes pipe) ≡ true
ObjectFits files pipes other = Unit {0}

abbrev pub DescsFit : List File → List (Option (List ℕ)) → List (Option Description) → Type 0
DescsFit files pipes [] = Unit {0}
DescsFit files pipes (None ∷ descs) = DescsFit files pipes descs
DescsFit files pipes (Some d ∷ descs) = ObjectFits files pipes d.object × DescsFit files pipes descs

-- ---- files

-- each name is that of a file that is there
abbrev pub NamesFit : List File → List NameEntry → Type 0
NamesFit files [] = Unit {0}
NamesFit files (e ∷ names) = (is_file files e.file.0 ≡ true) × NamesFit files names

-- numbers of files are below the next one
abbrev pub NumbersBelow : ℕ → List File → Type 0
NumbersBelow next [] = Unit {0}
NumbersBelow next (f ∷ files) = (f.file < next) × NumbersBelow next files

-- ---- all of it

pub record PartsFit (procs : List Process) (last : ℕ) (descs : List (Option Description)) (pipes : List (Option (List ℕ))) (files : List File) (names : List NameEntry) (next : ℕ) : Type 0 where
  pub pids : PidsRise 0 last procs
  pub procs_fit : ProcsFit descs procs
  pub descs_fit : DescsFit files pipes descs
  pub names_fit : NamesFit files names
  pub numbers : NumbersBelow next files

abbrev pub Fits : Kernel → Type 0
Fits k = PartsFit k.procs k.last k.descs k.pipes k.files k.names k.next

-- ---- what effects ask for

-- each process with a pid lives; and has no descriptor open
abbrev pub LivesAt : ℕ → List Process → Type 0
LivesAt pid [] = Unit {0}
LivesAt pid (p ∷ procs) = ((p.pid == pid) ≡ true → is_live p.state ≡ true) × LivesAt pid procs

abbrev pub NoneOpen : ℕ → List Process → Type 0
NoneOpen pid [] = Unit {0}
NoneOpen pid (p ∷ procs) = ((p.pid == pid) ≡ true → holds_some (λ e. true) p.fds ≡ false) × NoneOpen pid procs

-- What is opened is there, and so is the description that is shared; only who lives opens; a file goes once no description
-- has it; a new process has a new pid; and who dies has closed all.
abbrev pub Allowed : Effect → Kernel → Type 0
Allowed (Opens pid fd object flags cloexec) k = ObjectFits k.files k.pipes object × LivesAt pid k.procs
Allowed (Shares pid fd desc cloexec) k = (is_some (slot k.descs desc) ≡ true) × LivesAt pid k.procs
Allowed (FreesFile file) k = has_file file k.descs ≡ false
Allowed (Starts pid cpu brk) k = k.last < pid
Allowed (Forks parent child cpu) k = k.last < child
Allowed (Dies pid status) k = NoneOpen pid k.procs
Allowed other k = Unit {0}

abbrev pub AllAllowed : List Effect → Kernel → Type 0
AllAllowed [] k = Unit {0}
AllAllowed (e ∷ es) k = Allowed e k × AllAllowed es (apply e k)
