-- The state of the one plain kernel.
use Rattle.std.specs.Prelude.{ℕ, List, [], ◌++◌, Option}
use Rattle.lego_base.specs.declared.report.Exit.{Exit}
use Rattle.lego_base.specs.declared.records.NameEntry.{NameEntry}
use Rattle.lego_base.specs.Files.{File}
use Rattle.lego_base.specs.Space.{Space, no_space}
use Rattle.rv64_step.specs.declared.cpu.Cpu.{Cpu}
use Rattle.kernel_objects.specs.declared.descriptor.Description.{Description}
use Rattle.kernel_objects.specs.declared.descriptor.FdEntry.{FdEntry}
use Rattle.kernel_objects.specs.declared.descriptor.Stream.{Stream}
use Rattle.kernel_objects.specs.declared.descriptor.Stream.TheVariants.{Out, Err}
use Rattle.kernel_objects.specs.declared.process.Brk.{Brk}
use Rattle.kernel_objects.specs.declared.process.Waiting.{Waiting}

-- a process lives, or is dead with a wait status that its parent hasn't taken
pub data State : Type 0 where
  Live : State
  Zombie : ℕ → State

pub record Process : Type 0 where
  pub pid : ℕ
  pub cpu : Cpu
  -- 0 where it has none
  pub parent : ℕ
  pub state : State
  pub brk : Brk
  -- what is kept of a call that waits
  pub waiting : Option Waiting
  -- its descriptors, by number
  pub fds : List (Option FdEntry)

-- what was written to standard output and to standard error
pub record Written : Type 0 where
  pub out : List ℕ
  pub err : List ℕ

abbrev pub nothing : Written
nothing = record { out = []; err = [] }

-- bytes for one of them
abbrev pub on : Stream → List ℕ → Written
on Out bytes = record { out = bytes; err = [] }
on Err bytes = record { out = []; err = bytes }

-- on each stream the one after the other
abbrev pub joined : Written → Written → Written
joined first second = record { out = first.out ++ second.out; err = first.err ++ second.err }

pub record Kernel : Type 0 where
  -- the living and the zombies, in the order of their pids
  pub procs : List Process
  -- the pid that was given last, 0 before the first
  pub last : ℕ
  -- by pid
  pub space : ℕ → Space
  -- open file descriptions, by slot
  pub descs : List (Option Description)
  -- the bytes in each pipe that has an end, by slot
  pub pipes : List (Option (List ℕ))
  -- all files, those without a name included
  pub files : List File
  -- in the order of their bytes
  pub names : List NameEntry
  -- the number of the next file
  pub next : ℕ
  -- what is left of standard input
  pub input : List ℕ
  pub written : Written
  -- the exits in order
  pub exits : List Exit

-- before anything was loaded: there is standard input alone
abbrev pub unbooted : List ℕ → Kernel
unbooted input = record { procs = []; last = 0; space = λ pid. no_space; descs = []; pipes = []; files = []; names = []; next = 0; input = input; written = nothing; exits = [] }
