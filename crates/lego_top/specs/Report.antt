-- The two files that a run leaves in the depot: the report, then the archive.
use Rattle.std.specs.Prelude.{ℕ, ◌⊎◌, List, [], Option}
use Rattle.lego_base.specs.declared.report.EndWord.{EndWord}
use Rattle.host_io.specs.Depots.{Files, Set, OthersStay}
use Rattle.desc_read.specs.declared.plan.Plan.{Plan}
use Rattle.linux_model.specs.State.{Kernel}
use Rattle.linux_model.specs.Named.{named_files}
use Rattle.plain_kernel.specs.declared.left.PlainEnd.{PlainEnd}
use Rattle.report_text.specs.Report.{report_of}
use Rattle.report_text.specs.Archive.{archive_of}

-- the report of a run of the plain kernel, which has no caches
abbrev pub report_in : EndWord → ℕ → Kernel → List ℕ
report_in word turns k = report_of (record { word = word; turns = turns }) k.exits []

abbrev pub archive_in : Kernel → List ℕ
archive_in k = archive_of (named_files k)

-- the depot has the report, and then the archive, under their names; all other entries stayed
pub record PutBoth (plan : Plan) (report archive : List ℕ) (before after : Option Files) : Type 0 where
  pub between : Option Files
  pub report_put : Set before between plan.report report
  pub archive_put : Set between after plan.archive archive

-- the depot failed at the report, whose entry alone may have changed, or after it at the archive
abbrev pub PutPart : Plan → List ℕ → Option Files → Option Files → Type 0
PutPart plan report before after =
    OthersStay before after plan.report ⊎ ((between : Option Files) × Set before between plan.report report × OthersStay between after plan.archive)

-- the report and the archive of a run that came to its end
abbrev pub report_from : PlainEnd → List ℕ
report_from end = report_of end.ended end.exits []

abbrev pub archive_from : PlainEnd → List ℕ
archive_from end = archive_of end.files
