use Rattle.std.proofs.Common.{List}
use Rattle.serde_json.specs.Data.{Data}
use Rattle.desc_read.specs.declared.place.EntryList.TheVariants.{Files}
use Rattle.desc_read.specs.declared.plan.FileFrom.{FileFrom}
use Rattle.desc_read.specs.Objects.{entry_after}
use Rattle.desc_read.specs.Plans.{files_of, file_of}
use Rattle.desc_read.proofs.Fields.{leaves}
use Rattle.desc_read.proofs.Entries.{entry_fails, no_entry}
use Rattle.desc_read.proofs.program_fields.read_files.Goals as goal

pub returns-in_err-values : goal.returns-in_err-values
unfolding files_of
returns-in_err-values c = leaves c.from_residual.result _ _ _ c.from_residual.ensures.1 c.in_err-values.ensures

pub returns-in_err-file : goal.returns-in_err-file
unfolding files_of
returns-in_err-file c =
    let check = λ (before : List FileFrom) (e : Data). file_of (entry_after Files before) e before in
    let refused = rw (← c.loop-index.invariant.1, c.as_slice.ensures.value) at c.in_err-file.ensures in
    rw c.in_ok-values.ensures
    (entry_fails check c.in_ok-values.values.now c.loop-index.index c.loop-index.files.items _ c.loop-index.invariant.0 c.from_residual-in_err-file.result _ c.index-values-index.result c.loop-index-test.true c.index-values-index.is c.from_residual-in_err-file.ensures.1 refused)

pub returns : goal.returns
unfolding files_of
returns c =
    let check = λ (before : List FileFrom) (e : Data). file_of (entry_after Files before) e before in
    rw (c.in_ok-values.ensures, c.from_vec.ensures) (no_entry check c.in_ok-values.values.now c.loop-index.index c.loop-index.files.items _ c.loop-index.invariant.0 c.loop-index-test.false)
