-- How each stage of a command ends.
use Rattle.std.specs.Prelude.{◌≡◌, ℕ, ◌<◌, ◌≤◌, ◌⊎◌, List, length, Some, None, Result, Ok, Err}
use Rattle.lego_base.specs.Counts.{Rose}
use Rattle.lego_base.specs.declared.report.EndWord.{EndWord}
use Rattle.lego_base.specs.declared.report.FileOut.{FileOut}
use Rattle.lego_base.specs.declared.sizes.TheConstants.{LONGEST_FILE}
use Rattle.host_io.specs.Depots.{DepotState, Has}
use Rattle.desc_read.specs.declared.plan.FileFrom.{FileFrom}
use Rattle.desc_read.specs.declared.plan.Plan.{Plan}
use Rattle.elf_image.specs.Image.{first_fault}
use Rattle.kernel_objects.specs.declared.descriptor.Stream.TheVariants as streams
use Rattle.linux_model.specs.State.{Kernel}
use Rattle.plain_kernel.specs.declared.left.PlainEnd.{PlainEnd}
use Rattle.lego_top.specs.declared.ending.Ending.{Ending}
use Rattle.lego_top.specs.declared.depot_file.FetchFault.{FetchFault}
use Rattle.lego_top.specs.declared.depot_file.FetchFault.TheVariants as fetch
use Rattle.lego_top.specs.declared.leaving.LeaveFault.{LeaveFault}
use Rattle.lego_top.specs.declared.leaving.LeaveFault.TheVariants as leave
use Rattle.lego_top.specs.declared.program_run.RunFault.{RunFault}
use Rattle.lego_top.specs.declared.program_run.RunFault.TheVariants as run
use Rattle.lego_top.specs.Outside.{Outside, outlets, Quiet}
use Rattle.lego_top.specs.Inputs.{Planned, AreThere, ComesNext, booted}
use Rattle.lego_top.specs.Causes.{Caused, Ended, EndedUnput, Cut, Stopped}
use Rattle.lego_top.specs.Report.{PutBoth, PutPart, report_from, archive_from}

-- why a name gives no file
abbrev pub Unfetched : DepotState → DepotState → List ℕ → FetchFault → Type 0
Unfetched before after name (fetch.Missing missing) = (missing ≡ name) × Has before.files name None
Unfetched before after name (fetch.Long long) = (bytes : List ℕ) × (long ≡ name) × Has before.files name (Some bytes) × (LONGEST_FILE < length bytes)
Unfetched before after name fetch.Depot = Rose before.faults after.faults
Unfetched before after name fetch.NoMemory = Unit {0}

-- a file under a name
abbrev pub Fetched : DepotState → DepotState → List ℕ → Result (List ℕ) FetchFault → Type 0
Fetched before after name (Ok bytes) = Has before.files name (Some bytes) × (length bytes ≤ LONGEST_FILE)
Fetched before after name (Err fault) = Unfetched before after name fault

-- the files that a plan's come from, or why one of them isn't there
abbrev pub FetchedAll : DepotState → DepotState → List FileFrom → Result (List FileOut) FetchFault → Type 0
FetchedAll before after sources (Ok files) = AreThere before.files sources files
FetchedAll before after sources (Err (fetch.Missing missing)) = ComesNext before.files missing sources × Has before.files missing None
FetchedAll before after sources (Err (fetch.Long long)) =
    (bytes : List ℕ) × ComesNext before.files long sources × Has before.files long (Some bytes) × (LONGEST_FILE < length bytes)
FetchedAll before after sources (Err fetch.Depot) = Rose before.faults after.faults
FetchedAll before after sources (Err fetch.NoMemory) = Unit {0}

-- the plan of the description under a name, or the cause of another ending
abbrev pub Described : List ℕ → Outside → Outside → Result Plan Ending → Type 0
Described name before after (Ok plan) = (p : Planned (Some name) before) × (p.plan ≡ plan)
Described name before after (Err ending) = Caused (Some name) before after ending

-- the report and the archive of a run in the depot
abbrev pub Left : Plan → PlainEnd → DepotState → DepotState → Result (Unit {0}) LeaveFault → Type 0
Left plan end before after (Ok done) = PutBoth plan (report_from end) (archive_from end) before.files after.files
Left plan end before after (Err leave.Depot) = Rose before.faults after.faults × PutPart plan (report_from end) before.files after.files
Left plan end before after (Err leave.NoMemory) = after.files ≡ before.files

-- the program is an image, and this was done with the kernel that is booted with it
abbrev pub Began : Plan → List ℕ → List FileOut → List ℕ → (Plan → Kernel → Type 0) → Type 0
Began plan program files input Did = (first_fault program ≡ None) × Did plan (booted plan program files input)

-- the run of the program in a file
abbrev pub RanProgram : Plan → List ℕ → List FileOut → List ℕ → Outside → Outside → Result EndWord RunFault → Type 0
RanProgram plan program files input before after (Ok word) = Began plan program files input (Ended (outlets before) (outlets after) word)
RanProgram plan program files input before after (Err (run.Image fault)) = (first_fault program ≡ Some fault) × Quiet before after
RanProgram plan program files input before after (Err run.Out) =
    Rose before.out.faults after.out.faults × Began plan program files input (Cut (outlets before) (outlets after) streams.Out)
RanProgram plan program files input before after (Err run.Err) =
    Rose before.err.faults after.err.faults × Began plan program files input (Cut (outlets before) (outlets after) streams.Err)
RanProgram plan program files input before after (Err run.Depot) =
    Rose before.depot.faults after.depot.faults × Began plan program files input (EndedUnput (outlets before) (outlets after))
RanProgram plan program files input before after (Err run.NoMemory) =
    Quiet before after ⊎ Began plan program files input (Stopped (outlets before) (outlets after))
