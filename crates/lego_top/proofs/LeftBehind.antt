-- What is left after a run that came to its end.
use Rattle.std.proofs.Common.{◌≡◌, ℕ, ◌≤◌, List, length, [], None, Result, Ok, Err, IsErrAnd, sym, ap, subst, inr}
use Rattle.std.specs.Prelude.{All}
use Rattle.lego_base.specs.declared.report.EndWord.{EndWord}
use Rattle.lego_base.specs.declared.report.FileOut.{FileOut}
use Rattle.desc_read.specs.declared.plan.Plan.{Plan}
use Rattle.elf_image.specs.Image.{Program, first_fault}
use Rattle.kernel_laws.specs.Laws.{CanBeArchived}
use Rattle.kernel_laws.proofs.Runs.{can_be_archived}
use Rattle.linux_model.specs.Boot.{boot_of}
use Rattle.linux_model.specs.Limits.{NAME_BYTES}
use Rattle.linux_model.specs.State.{Kernel}
use Rattle.linux_model.specs.Turns.{flat}
use Rattle.plain_kernel.specs.declared.left.PlainEnd.{PlainEnd}
use Rattle.plain_kernel.specs.Outcomes.{Told}
use Rattle.plain_kernel.specs.Runs.{Ends}
use Rattle.plain_kernel.specs.Turns.{schedule_of}
use Rattle.report_text.specs.Report.{report_of}
use Rattle.report_text.specs.Archive.{archive_of}
use Rattle.lego_top.specs.declared.leaving.LeaveFault.{LeaveFault}
use Rattle.lego_top.specs.declared.leaving.LeaveFault.TheVariants as leave
use Rattle.lego_top.specs.declared.program_run.RunFault.{RunFault}
use Rattle.lego_top.specs.Outside.{Outside, outlets}
use Rattle.lego_top.specs.Inputs.{booted}
use Rattle.lego_top.specs.Causes.{EndedUnput}
use Rattle.lego_top.specs.Endings.{of_leave}
use Rattle.lego_top.specs.Report.{report_in, archive_in, PutBoth, PutPart, report_from, archive_from}
use Rattle.lego_top.specs.Stages.{Left, RanProgram}

module _ (plan : Plan) (program : List ℕ) (files : List FileOut) (input : List ℕ) (good : first_fault program ≡ None) (end : PlainEnd) (before after : Outside) (ran : Ends (schedule_of plan) (booted plan program files input) (outlets before).streams (outlets after).streams end) where
  abbrev last : Kernel
  last = flat (schedule_of plan) (booted plan program files input) end.ended.turns

  report_is : report_from end ≡ report_in end.ended.word end.ended.turns last
  report_is = λ i. report_of end.ended (ran.exits i) []

  archive_is : archive_from end ≡ archive_in last
  archive_is = ap archive_of ran.files

  pub left_both : PutBoth plan (report_from end) (archive_from end) before.depot.files after.depot.files → RanProgram plan program files input before after (Ok end.ended.word)
  left_both put = (
    good,
    record {
      turns = end.ended.turns;
      ends = ran.ends;
      took = ran.took;
      put = subst (λ (report : List ℕ). PutBoth plan report (archive_in last) before.depot.files after.depot.files) report_is
          (subst (λ (archive : List ℕ). PutBoth plan (report_from end) archive before.depot.files after.depot.files) archive_is put);
    },
  )

  pub left_part : (fault : LeaveFault) → Left plan end before.depot after.depot (Err fault) → RanProgram plan program files input before after (Err (of_leave fault))
  left_part leave.Depot left =
      let did : EndedUnput (outlets before) (outlets after) plan (booted plan program files input) = record {
        word = end.ended.word;
        turns = end.ended.turns;
        ends = ran.ends;
        took = ran.took;
        put = subst (λ (report : List ℕ). PutPart plan report before.depot.files after.depot.files) report_is left.1;
      } in
      (left.0, (good, did))
  left_part leave.NoMemory left = inr (good, (record { turns = end.ended.turns; through = ran.ends.through; took = ran.took }, left))

pub ran_with : (plan : Plan) (program : List ℕ) (files : List FileOut) (input : List ℕ) (before after : Outside) (result : Result EndWord RunFault) (fault : RunFault) → IsErrAnd result (λ e. e ≡ fault) → RanProgram plan program files input before after (Err fault) → RanProgram plan program files input before after result
ran_with plan program files input before after (Ok word) fault is ran = absurd is
ran_with plan program files input before after (Err e) fault is ran = subst (λ (e : RunFault). RanProgram plan program files input before after (Err e)) (sym is) ran

-- an archive can hold the files of a run that came to its end, if those of its start have short names
pub end_archivable : (plan : Plan) (image : Program) (files : List FileOut) (input : List ℕ) (before after : Told) (end : PlainEnd) → All (λ (file : FileOut). length file.name ≤ NAME_BYTES) files → Ends (schedule_of plan) (boot_of image plan.args plan.env files input) before after end → CanBeArchived end.files
end_archivable plan image files input before after end short ends =
    subst CanBeArchived (sym ends.files) (can_be_archived (schedule_of plan) image plan.args plan.env files input end.ended.turns short)
