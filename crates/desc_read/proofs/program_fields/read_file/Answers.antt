use Rattle.std.proofs.Common.{refl}
use Rattle.desc_read.specs.Plans.{file_of}
use Rattle.desc_read.proofs.Fields.{leaves}
use Rattle.desc_read.proofs.program_fields.read_file.Goals as goal

pub returns-in_err-only : goal.returns-in_err-only
unfolding file_of
returns-in_err-only c = leaves c.from_residual.result _ _ _ c.from_residual.ensures.1 c.in_err-only.ensures

pub returns-in_err-path : goal.returns-in_err-path
unfolding file_of
returns-in_err-path c = rw (c.in_ok-only.ensures) (leaves c.from_residual-in_err-path.result _ _ _ c.from_residual-in_err-path.ensures.1 c.in_err-path.ensures)

pub returns-in_err-in_range : goal.returns-in_err-in_range
unfolding file_of
returns-in_err-in_range c = rw (c.in_ok-only.ensures, c.in_ok-path.ensures) (leaves c.from_residual-in_err-in_range.result _ _ _ c.from_residual-in_err-in_range.ensures.1 (rw (c.is_taken.ensures, c.as_slice.ensures) at c.in_err-in_range.ensures))

pub returns-in_err-from : goal.returns-in_err-from
unfolding file_of
returns-in_err-from c = rw (c.in_ok-only.ensures, c.in_ok-path.ensures, (rw (c.is_taken.ensures, c.as_slice.ensures) at c.in_ok-in_range.ensures)) (leaves c.from_residual-in_err-from.result _ _ _ c.from_residual-in_err-from.ensures.1 c.in_err-from.ensures)

pub returns : goal.returns
unfolding file_of
returns c = rw (c.in_ok-only.ensures, c.in_ok-path.ensures, (rw (c.is_taken.ensures, c.as_slice.ensures) at c.in_ok-in_range.ensures), c.in_ok-from.ensures) refl
