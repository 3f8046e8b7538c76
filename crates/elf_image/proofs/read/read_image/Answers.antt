use Rattle.std.proofs.Common.{◌≡◌, None, inr, sym, ◌∙◌, subst}
use Rattle.elf_image.specs.Image.{Program, IsBounded, program_of, first_fault}
use Rattle.elf_image.proofs.Faults.{whole}
use Rattle.elf_image.proofs.Bounds.{bounded}
use Rattle.elf_image.proofs.Reading.{is_read, early_fault, late_fault, no_fault, ends_within, program_is}
use Rattle.elf_image.proofs.read.read_image.Goals as goal
use Rattle.elf_image.proofs.read.read_image.Goals.{After-break_of-brk}

pub returns-in-Some-clause-fault : goal.returns-in-Some-clause-fault
returns-in-Some-clause-fault c = inr (early_fault c.args.bytes.now c.in-Some.fault (sym c.file_fault.ensures ∙ c.in-Some.is))

pub read_headers-requires-clause-table : goal.read_headers-requires-clause-table
read_headers-requires-clause-table c = (whole c.args.bytes.now (sym c.file_fault.ensures ∙ c.in_default.is)).table

pub returns-in-Some-load_fault-clause-fault : goal.returns-in-Some-load_fault-clause-fault
returns-in-Some-load_fault-clause-fault c =
    let read = is_read c.args.bytes.now c.read_u64-entry.result c.in_ok-table.table.items c.as_slice.result.now c.as_slice-2.result.now c.in_ok-loads.loads.items c.as_slice-3.result.now c.read_u64-entry.ensures c.in_ok-table.ensures c.as_slice.ensures.value c.as_slice-2.ensures.value c.in_ok-loads.ensures c.as_slice-3.ensures.value in
    inr (late_fault c.args.bytes.now c.read_u64-entry.result c.as_slice-2.result.now c.as_slice-3.result.now c.in-Some-load_fault.fault read (sym c.file_fault.ensures ∙ c.in_default.is) (sym c.load_fault.ensures ∙ c.in-Some-load_fault.is))

pub break_of-brk-requires : goal.break_of-brk-requires
break_of-brk-requires c =
    ends_within c.args.bytes.now c.read_u64-entry.result c.as_slice-2.result.now c.as_slice-3.result.now c.as_slice-5.result.now c.in_ok-loads.loads.items (sym c.load_fault.ensures ∙ c.in_default-load_fault.is) c.as_slice-3.ensures.value c.as_slice-5.ensures.value

-- there is no fault, and the parts are the program
made : (c : After-break_of-brk) → (first_fault c.args.bytes.now ≡ None) × (◌≡◌ {A = Program} (record { entry = c.read_u64-entry.result; segments = c.in_ok-segments.segments.items; brk = c.break_of-brk.result }) (program_of c.args.bytes.now))
made c =
    let read = is_read c.args.bytes.now c.read_u64-entry.result c.in_ok-table.table.items c.as_slice.result.now c.as_slice-2.result.now c.in_ok-loads.loads.items c.as_slice-3.result.now c.read_u64-entry.ensures c.in_ok-table.ensures c.as_slice.ensures.value c.as_slice-2.ensures.value c.in_ok-loads.ensures c.as_slice-3.ensures.value in (
      no_fault c.args.bytes.now c.read_u64-entry.result c.as_slice-2.result.now c.as_slice-3.result.now read (sym c.file_fault.ensures ∙ c.in_default.is) (sym c.load_fault.ensures ∙ c.in_default-load_fault.is),
      program_is c.args.bytes.now c.read_u64-entry.result c.break_of-brk.result c.as_slice-2.result.now c.as_slice-3.result.now c.as_slice-4.result.now c.as_slice-5.result.now c.in_ok-loads.loads.items c.in_ok-segments.segments.items read c.as_slice-3.ensures.value c.as_slice-4.ensures.value c.as_slice-5.ensures.value c.in_ok-segments.ensures c.break_of-brk.ensures,
    )

pub new-requires : goal.new-requires
new-requires c = let is = made c in subst IsBounded (sym is.1) (bounded c.args.bytes.now is.0)

pub returns-clause-image : goal.returns-clause-image
returns-clause-image c =
    let is = made (goal.at.returns-clause-image c).After-break_of-brk in
    (is.0, c.new.ensures ∙ is.1)
