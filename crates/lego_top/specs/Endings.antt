-- The statuses of endings, and the endings that the stages of a command lead to.
use Rattle.std.specs.Prelude.{ℕ, Result, Ok, Err}
use Rattle.lego_base.specs.declared.report.EndWord.{EndWord}
use Rattle.lego_base.specs.declared.report.EndWord.TheVariants as words
use Rattle.plain_kernel.specs.declared.kernel.RunStop.{RunStop}
use Rattle.plain_kernel.specs.declared.kernel.RunStop.TheVariants as stop
use Rattle.host_io.specs.declared.reading.InputStop.{InputStop}
use Rattle.host_io.specs.declared.reading.InputStop.TheVariants as input
use Rattle.desc_read.specs.declared.fault.DescFault.{DescFault}
use Rattle.desc_read.specs.declared.fault.DescFault.TheVariants as desc
use Rattle.lego_top.specs.declared.ending.Ending.{Ending}
use Rattle.lego_top.specs.declared.ending.Ending.TheVariants.{Done, Spent, Stuck, Usage, Missing, FileLong, BadDesc, BadImage, InputFault, InputLong, DepotFault, OutFault, ErrFault, NoMemory}
use Rattle.lego_top.specs.declared.depot_file.FetchFault.{FetchFault}
use Rattle.lego_top.specs.declared.depot_file.FetchFault.TheVariants as fetch
use Rattle.lego_top.specs.declared.leaving.LeaveFault.{LeaveFault}
use Rattle.lego_top.specs.declared.leaving.LeaveFault.TheVariants as leave
use Rattle.lego_top.specs.declared.program_run.RunFault.{RunFault}
use Rattle.lego_top.specs.declared.program_run.RunFault.TheVariants as run

abbrev pub status_of : Ending → ℕ
status_of Done = 0
status_of Usage = 2
status_of (Missing name) = 3
status_of (BadDesc flaw place) = 4
status_of (BadImage fault) = 5
status_of Spent = 6
status_of Stuck = 7
status_of InputFault = 9
status_of InputLong = 10
status_of DepotFault = 11
status_of OutFault = 12
status_of ErrFault = 13
status_of NoMemory = 15
status_of (FileLong name) = 16

-- the ending of a run that came to its end
abbrev pub ending_of : EndWord → Ending
ending_of words.Done = Done
ending_of words.Stuck = Stuck
ending_of words.Spent = Spent

-- the endings of stages that failed
abbrev pub of_fetch : FetchFault → Ending
of_fetch (fetch.Missing name) = Missing name
of_fetch (fetch.Long name) = FileLong name
of_fetch fetch.Depot = DepotFault
of_fetch fetch.NoMemory = NoMemory

abbrev pub of_description : DescFault → Ending
of_description (desc.Bad flaw place) = BadDesc flaw place
of_description desc.NoMemory = NoMemory

abbrev pub of_input : InputStop → Ending
of_input input.Failed = InputFault
of_input input.Long = InputLong
of_input input.NoMemory = NoMemory

abbrev pub of_run : RunFault → Ending
of_run (run.Image fault) = BadImage fault
of_run run.Out = OutFault
of_run run.Err = ErrFault
of_run run.Depot = DepotFault
of_run run.NoMemory = NoMemory

-- the ending of a command
abbrev pub ending_from : Result EndWord Ending → Ending
ending_from (Ok word) = ending_of word
ending_from (Err ending) = ending

-- why the run of a program failed, by what stopped it or by what was left of it
abbrev pub of_stop : RunStop → RunFault
of_stop stop.OutFault = run.Out
of_stop stop.ErrFault = run.Err
of_stop stop.NoMemory = run.NoMemory

abbrev pub of_leave : LeaveFault → RunFault
of_leave leave.Depot = run.Depot
of_leave leave.NoMemory = run.NoMemory
