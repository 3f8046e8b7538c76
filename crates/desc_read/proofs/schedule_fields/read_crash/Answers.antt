use Rattle.std.proofs.Common.{refl}
use Rattle.desc_read.specs.Plans.{crash_of}
use Rattle.desc_read.proofs.Fields.{leaves}
use Rattle.desc_read.proofs.schedule_fields.read_crash.Goals as goal

pub returns-in_err-only-clause-gives : goal.returns-in_err-only-clause-gives
unfolding crash_of
returns-in_err-only-clause-gives c = leaves c.from_residual.result _ _ _ c.from_residual.ensures.1 c.in_err-only.ensures

pub returns-in_err-turn-clause-gives : goal.returns-in_err-turn-clause-gives
unfolding crash_of
returns-in_err-turn-clause-gives c = rw (c.in_ok-only.ensures) (leaves c.from_residual-in_err-turn.result _ _ _ c.from_residual-in_err-turn.ensures.1 c.in_err-turn.ensures)

pub returns-in_err-after-clause-gives : goal.returns-in_err-after-clause-gives
unfolding crash_of
returns-in_err-after-clause-gives c = rw (c.in_ok-only.ensures, c.in_ok-turn.ensures) (leaves c.from_residual-in_err-after.result _ _ _ c.from_residual-in_err-after.ensures.1 c.in_err-after.ensures)

pub returns-in_err-memory-clause-gives : goal.returns-in_err-memory-clause-gives
unfolding crash_of
returns-in_err-memory-clause-gives c = rw (c.in_ok-only.ensures, c.in_ok-turn.ensures, c.in_ok-after.ensures) (leaves c.from_residual-in_err-memory.result _ _ _ c.from_residual-in_err-memory.ensures.1 c.in_err-memory.ensures)

pub returns-clause-gives : goal.returns-clause-gives
unfolding crash_of
returns-clause-gives c = rw (c.in_ok-only.ensures, c.in_ok-turn.ensures, c.in_ok-after.ensures, c.in_ok-memory.ensures, c.from.ensures) refl
