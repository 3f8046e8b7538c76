-- The causes of endings, and what each leaves. The command line, what the depot and standard input tell, and the flat run
-- decide; only running out of memory has no cause.
use Rattle.std.specs.Prelude.{◌≡◌, ℕ, ◌<◌, ◌⊎◌, List, length, Option, Some, None}
use Rattle.lego_base.specs.declared.report.EndWord.{EndWord}
use Rattle.lego_base.specs.declared.report.EndWord.TheVariants as words
use Rattle.lego_base.specs.Counts.{Rose}
use Rattle.lego_base.specs.declared.sizes.TheConstants.{LONGEST_FILE}
use Rattle.host_io.specs.Depots.{Has}
use Rattle.host_io.specs.Sources.{IsLonger}
use Rattle.desc_read.specs.declared.plan.Plan.{Plan}
use Rattle.desc_read.specs.Faults.{refused}
use Rattle.desc_read.specs.Plans.{described}
use Rattle.elf_image.specs.Image.{first_fault}
use Rattle.kernel_objects.specs.declared.descriptor.Stream.{Stream}
use Rattle.kernel_objects.specs.declared.descriptor.Stream.TheVariants as streams
use Rattle.linux_model.specs.State.{Kernel}
use Rattle.linux_model.specs.Turns.{flat}
use Rattle.plain_kernel.specs.Outcomes.{Took}
use Rattle.plain_kernel.specs.Runs.{EndsAfter, Stops, Cuts}
use Rattle.plain_kernel.specs.Turns.{schedule_of}
use Rattle.lego_top.specs.declared.ending.Ending.{Ending}
use Rattle.lego_top.specs.declared.ending.Ending.TheVariants.{Done, Spent, Stuck, Usage, Missing, FileLong, BadDesc, BadImage, InputFault, InputLong, DepotFault, OutFault, ErrFault, NoMemory}
use Rattle.lego_top.specs.Outside.{Outside, Outlets, outlets, Quiet, Unread}
use Rattle.lego_top.specs.Inputs.{Found, Names, Filed, Fed, Ran}
use Rattle.lego_top.specs.Report.{report_in, archive_in, PutBoth, PutPart}

-- The flat run ended so, the streams took what it wrote, and its report and archive were put.
pub record Ended (before after : Outlets) (word : EndWord) (plan : Plan) (boot : Kernel) : Type 0 where
  pub turns : ℕ
  pub ends : EndsAfter (schedule_of plan) boot turns word
  pub took : Took before.streams after.streams (flat (schedule_of plan) boot turns).written
  pub put : PutBoth plan (report_in word turns (flat (schedule_of plan) boot turns)) (archive_in (flat (schedule_of plan) boot turns)) before.files after.files

-- It ended, and the depot failed at the report or at the archive.
pub record EndedUnput (before after : Outlets) (plan : Plan) (boot : Kernel) : Type 0 where
  pub word : EndWord
  pub turns : ℕ
  pub ends : EndsAfter (schedule_of plan) boot turns word
  pub took : Took before.streams after.streams (flat (schedule_of plan) boot turns).written
  pub put : PutPart plan (report_in word turns (flat (schedule_of plan) boot turns)) before.files after.files

-- one stream failed within a turn
abbrev pub Cut : Outlets → Outlets → Stream → Plan → Kernel → Type 0
Cut before after stream plan boot = Cuts (schedule_of plan) boot stream before.streams after.streams × (after.files ≡ before.files)

abbrev pub Stopped : Outlets → Outlets → Plan → Kernel → Type 0
Stopped before after plan boot = Stops (schedule_of plan) boot before.streams after.streams × (after.files ≡ before.files)

-- the command line names a description, and nothing was written or put
abbrev pub Unbegun : Option (List ℕ) → Outside → Outside → Type 0
Unbegun asked before after = (name : List ℕ) × (asked ≡ Some name) × Quiet before after

abbrev pub Caused : Option (List ℕ) → Outside → Outside → Ending → Type 0
Caused asked before after Done = Ran asked before after (Ended (outlets before) (outlets after) words.Done)
Caused asked before after Spent = Ran asked before after (Ended (outlets before) (outlets after) words.Spent)
Caused asked before after Stuck = Ran asked before after (Ended (outlets before) (outlets after) words.Stuck)
Caused asked before after Usage = (asked ≡ None) × Quiet before after × Unread before after
Caused asked before after (Missing name) = Names asked before name × Has before.depot.files name None × Quiet before after × Unread before after
Caused asked before after (FileLong name) =
    (bytes : List ℕ) × Names asked before name × Has before.depot.files name (Some bytes) × (LONGEST_FILE < length bytes)
    × Quiet before after × Unread before after
Caused asked before after (BadDesc flaw place) =
    (f : Found asked before) × (described f.bytes ≡ refused flaw place) × Quiet before after × Unread before after
Caused asked before after InputFault = Filed asked before × Rose before.input.faults after.input.faults × Quiet before after
Caused asked before after InputLong = Filed asked before × IsLonger LONGEST_FILE before.input.left × Quiet before after
Caused asked before after (BadImage fault) = (fed : Fed asked before after) × (first_fault fed.filed.loaded.image ≡ Some fault) × Quiet before after
Caused asked before after OutFault = Rose before.out.faults after.out.faults × Ran asked before after (Cut (outlets before) (outlets after) streams.Out)
Caused asked before after ErrFault = Rose before.err.faults after.err.faults × Ran asked before after (Cut (outlets before) (outlets after) streams.Err)
Caused asked before after DepotFault =
    Rose before.depot.faults after.depot.faults × (Unbegun asked before after ⊎ Ran asked before after (EndedUnput (outlets before) (outlets after)))
Caused asked before after NoMemory = Unbegun asked before after ⊎ Ran asked before after (Stopped (outlets before) (outlets after))
