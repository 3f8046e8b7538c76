-- What holds of every kernel that a run reaches, beside what linux_model says of it.
use Rattle.std.specs.Prelude.{◌≡◌, ◌≢◌, ◌<◌, ◌≤◌, ◌+◌, ℕ, suc, true, List, length, All, AllPairs, Option, Some, None}
use Rattle.lego_base.specs.declared.report.FileOut.{FileOut}
use Rattle.lego_base.specs.declared.sizes.TheConstants.{USER_END}
use Rattle.lego_base.specs.Space.{Space, no_space, with_space}
use Rattle.elf_image.specs.Image.{Program, program_of, first_fault}
use Rattle.kernel_objects.specs.declared.process.Waiting.{Waiting}
use Rattle.linux_model.specs.Limits.{FILES, NAME_BYTES}
use Rattle.linux_model.specs.State.{Kernel, Process}
use Rattle.linux_model.specs.Processes.{at_pid, process, is_live}
use Rattle.linux_model.specs.Effects.{applies}
use Rattle.linux_model.specs.Instructions.{Ran, many}
use Rattle.linux_model.specs.Loading.{break_of}
use Rattle.linux_model.specs.Boot.{boot_of}
use Rattle.linux_model.specs.Turns.{Schedule, flat, run_of, whose, ready}
use Rattle.linux_model.specs.Named.{named_files}
use Rattle.linux_model.specs.Fits.{Fits, PidsRise}

-- ---- after every turn

-- pids above the last one that was given have no space
abbrev pub NoneAbove : ℕ → (ℕ → Space) → Type 0
NoneAbove last space = (pid : ℕ) → last < pid → space pid ≡ no_space

abbrev pub UnbornHaveNoSpace : Type 0
UnbornHaveNoSpace =
    (schedule : Schedule) (program : Program) (args env : List (List ℕ)) (files : List FileOut) (input : List ℕ) (n : ℕ)
    → NoneAbove (flat schedule (boot_of program args env files input) n).last (flat schedule (boot_of program args env files input) n).space

-- Booting gives the first pid, and a turn forks at most one child.
abbrev pub PidsAreFew : Type 0
PidsAreFew =
    (schedule : Schedule) (program : Program) (args env : List (List ℕ)) (files : List FileOut) (input : List ℕ) (n : ℕ)
    → (flat schedule (boot_of program args env files input) n).last ≤ n + 1

-- each process's break is at most where user space ends
abbrev pub BreaksInUserSpace : List Process → Type 0
BreaksInUserSpace procs = All (λ p. p.brk.now ≤ USER_END) procs

-- for a program whose own break is there
abbrev pub BreaksStayInUserSpace : Type 0
BreaksStayInUserSpace =
    (schedule : Schedule) (program : Program) (args env : List (List ℕ)) (files : List FileOut) (input : List ℕ) (n : ℕ)
    → (break_of program).now ≤ USER_END
    → BreaksInUserSpace (flat schedule (boot_of program args env files input) n).procs

-- which is so for the program of each image without fault
abbrev pub GoodImagesBreakInUserSpace : Type 0
GoodImagesBreakInUserSpace = (image : List ℕ) → first_fault image ≡ None → (break_of (program_of image)).now ≤ USER_END

-- ---- within a turn

-- the kernel in which a process has the registers and the space that instructions left
abbrev pub with_ran : ℕ → Ran → Kernel → Kernel
with_ran pid r k = record k {
  procs = at_pid pid (λ p. record p { cpu = r.cpu }) k.procs;
  space = with_space k.space pid r.space;
}

-- The effects of a process's instructions, however many ran and however they ended, change its registers and its space
-- and nothing else. Pids rise, so no other process has its pid.
abbrev pub InstructionsChangeRegistersAndSpaceAlone : Type 0
InstructionsChangeRegistersAndSpaceAlone =
    (n : ℕ) (p : Process) (k : Kernel) → PidsRise 0 k.last k.procs → process k.procs p.pid ≡ Some p
    → applies (many n p.pid p.cpu (k.space p.pid)).effects k ≡ with_ran p.pid (many n p.pid p.cpu (k.space p.pid)) k

-- what ran before a process's turn comes to its call: its instructions, or none where the call is kept
abbrev pub ran_before : Schedule → Process → Option Waiting → Kernel → Ran
ran_before schedule p None k = run_of schedule p k
ran_before schedule p (Some w) k = many 0 p.pid p.cpu (k.space p.pid)

-- a kernel after n turns and some instructions of a process, in which a call of it may come
pub record MayCall (n : ℕ) (p : Process) (k : Kernel) : Type 0 where
  pub fits : Fits k
  pub none_above : NoneAbove k.last k.space
  pub few : k.last ≤ n + 1
  pub breaks : BreaksInUserSpace k.procs
  pub there : process k.procs p.pid ≡ Some p
  pub lives : is_live p.state ≡ true

-- What holds after n turns holds in the next one too, where the instructions of its process are over and a call comes: the
-- process is there, alive, with the registers that the instructions left, and else as it was.
abbrev pub CallsMayComeWithinTurns : Type 0
CallsMayComeWithinTurns =
    (schedule : Schedule) (program : Program) (args env : List (List ℕ)) (files : List FileOut) (input : List ℕ) (n : ℕ) (p : Process)
    → (break_of program).now ≤ USER_END
    → let k = flat schedule (boot_of program args env files input) n in
    whose schedule (suc n) k.procs (ready k) ≡ Some p
    → MayCall n (record p { cpu = (ran_before schedule p p.waiting k).cpu }) (applies (ran_before schedule p p.waiting k).effects k)

-- ---- what a run leaves

-- files that an archive can hold: no two have the same name, and their names and their number are small
pub record CanBeArchived (files : List FileOut) : Type 0 where
  pub apart : AllPairs (λ file other. file.name ≢ other.name) files
  pub short : All (λ file. length file.name ≤ NAME_BYTES) files
  pub few : length files ≤ FILES

-- The files with a name are such, if those of the start have short names: a name is given only where no file has it, and a
-- file is made only where there is room for one.
abbrev pub NamedFilesCanBeArchived : Type 0
NamedFilesCanBeArchived =
    (schedule : Schedule) (program : Program) (args env : List (List ℕ)) (files : List FileOut) (input : List ℕ) (n : ℕ)
    → All (λ file. length file.name ≤ NAME_BYTES) files
    → CanBeArchived (named_files (flat schedule (boot_of program args env files input) n))
