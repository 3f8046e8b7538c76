use Rattle.std.proofs.Common.{refl}
use Rattle.desc_read.specs.Plans.{program_of}
use Rattle.desc_read.proofs.Fields.{leaves}
use Rattle.desc_read.proofs.program_fields.read_program.Goals as goal

pub returns-in_err-init : goal.returns-in_err-init
unfolding program_of
returns-in_err-init c = leaves c.from_residual.result _ _ _ c.from_residual.ensures.1 c.in_err-init.ensures

pub returns-in_err-args : goal.returns-in_err-args
unfolding program_of
returns-in_err-args c = rw (c.in_ok-init.ensures) (leaves c.from_residual-in_err-args.result _ _ _ c.from_residual-in_err-args.ensures.1 (rw (c.as_str.ensures) at c.in_err-args.ensures))

pub returns-in_err-in_range : goal.returns-in_err-in_range
unfolding program_of
returns-in_err-in_range c = rw (c.in_ok-init.ensures, (rw (c.as_str.ensures) at c.in_ok-args.ensures)) (leaves c.from_residual-in_err-in_range.result _ _ _ c.from_residual-in_err-in_range.ensures.1 (rw (c.fit.ensures, c.as_slice.ensures) at c.in_err-in_range.ensures))

pub returns-in_err-env : goal.returns-in_err-env
unfolding program_of
returns-in_err-env c = rw (c.in_ok-init.ensures, (rw (c.as_str.ensures) at c.in_ok-args.ensures), (rw (c.fit.ensures, c.as_slice.ensures) at c.in_ok-in_range.ensures)) (leaves c.from_residual-in_err-env.result _ _ _ c.from_residual-in_err-env.ensures.1 (rw (c.saturating_sub-most.ensures, c.len.ensures) at c.in_err-env.ensures))

pub returns-in_err-in_range-2 : goal.returns-in_err-in_range-2
unfolding program_of
returns-in_err-in_range-2 c = rw (c.in_ok-init.ensures, (rw (c.as_str.ensures) at c.in_ok-args.ensures), (rw (c.fit.ensures, c.as_slice.ensures) at c.in_ok-in_range.ensures), (rw (c.saturating_sub-most.ensures, c.len.ensures) at c.in_ok-env.ensures)) (leaves c.from_residual-in_err-in_range-2.result _ _ _ c.from_residual-in_err-in_range-2.ensures.1 (rw (c.fit-2.ensures, c.as_slice-2.ensures, c.as_slice-3.ensures) at c.in_err-in_range-2.ensures))

pub returns-in_err-files : goal.returns-in_err-files
unfolding program_of
returns-in_err-files c = rw (c.in_ok-init.ensures, (rw (c.as_str.ensures) at c.in_ok-args.ensures), (rw (c.fit.ensures, c.as_slice.ensures) at c.in_ok-in_range.ensures), (rw (c.saturating_sub-most.ensures, c.len.ensures) at c.in_ok-env.ensures), (rw (c.fit-2.ensures, c.as_slice-2.ensures, c.as_slice-3.ensures) at c.in_ok-in_range-2.ensures)) (leaves c.from_residual-in_err-files.result _ _ _ c.from_residual-in_err-files.ensures.1 c.in_err-files.ensures)

pub returns-in_err-report : goal.returns-in_err-report
unfolding program_of
returns-in_err-report c = rw (c.in_ok-init.ensures, (rw (c.as_str.ensures) at c.in_ok-args.ensures), (rw (c.fit.ensures, c.as_slice.ensures) at c.in_ok-in_range.ensures), (rw (c.saturating_sub-most.ensures, c.len.ensures) at c.in_ok-env.ensures), (rw (c.fit-2.ensures, c.as_slice-2.ensures, c.as_slice-3.ensures) at c.in_ok-in_range-2.ensures), c.in_ok-files.ensures) (leaves c.from_residual-in_err-report.result _ _ _ c.from_residual-in_err-report.ensures.1 c.in_err-report.ensures)

pub returns-in_err-archive : goal.returns-in_err-archive
unfolding program_of
returns-in_err-archive c = rw (c.in_ok-init.ensures, (rw (c.as_str.ensures) at c.in_ok-args.ensures), (rw (c.fit.ensures, c.as_slice.ensures) at c.in_ok-in_range.ensures), (rw (c.saturating_sub-most.ensures, c.len.ensures) at c.in_ok-env.ensures), (rw (c.fit-2.ensures, c.as_slice-2.ensures, c.as_slice-3.ensures) at c.in_ok-in_range-2.ensures), c.in_ok-files.ensures, c.in_ok-report.ensures) (leaves c.from_residual-in_err-archive.result _ _ _ c.from_residual-in_err-archive.ensures.1 c.in_err-archive.ensures)

pub returns-in_err-in_range-3 : goal.returns-in_err-in_range-3
unfolding program_of
returns-in_err-in_range-3 c = rw (c.in_ok-init.ensures, (rw (c.as_str.ensures) at c.in_ok-args.ensures), (rw (c.fit.ensures, c.as_slice.ensures) at c.in_ok-in_range.ensures), (rw (c.saturating_sub-most.ensures, c.len.ensures) at c.in_ok-env.ensures), (rw (c.fit-2.ensures, c.as_slice-2.ensures, c.as_slice-3.ensures) at c.in_ok-in_range-2.ensures), c.in_ok-files.ensures, c.in_ok-report.ensures, c.in_ok-archive.ensures) (leaves c.from_residual-in_err-in_range-3.result _ _ _ c.from_residual-in_err-in_range-3.ensures.1 (rw (c.ne.ensures, c.as_str-2.ensures, c.as_str-3.ensures) at c.in_err-in_range-3.ensures))

pub returns : goal.returns
unfolding program_of
returns c = rw (c.in_ok-init.ensures, (rw (c.as_str.ensures) at c.in_ok-args.ensures), (rw (c.fit.ensures, c.as_slice.ensures) at c.in_ok-in_range.ensures), (rw (c.saturating_sub-most.ensures, c.len.ensures) at c.in_ok-env.ensures), (rw (c.fit-2.ensures, c.as_slice-2.ensures, c.as_slice-3.ensures) at c.in_ok-in_range-2.ensures), c.in_ok-files.ensures, c.in_ok-report.ensures, c.in_ok-archive.ensures, (rw (c.ne.ensures, c.as_str-2.ensures, c.as_str-3.ensures) at c.in_ok-in_range-3.ensures)) refl
