use Rattle.std.proofs.Common.{refl}
use Rattle.desc_read.specs.Plans.{plan_of}
use Rattle.desc_read.proofs.Fields.{leaves}
use Rattle.desc_read.proofs.plan_reader.plan_of_value.Goals as goal

pub returns-in_err-only : goal.returns-in_err-only
unfolding plan_of
returns-in_err-only c = leaves c.from_residual.result _ _ _ c.from_residual.ensures.1 c.in_err-only.ensures

pub returns-in_err-machine : goal.returns-in_err-machine
unfolding plan_of
returns-in_err-machine c = rw (c.in_ok-only.ensures) (leaves c.from_residual-in_err-machine.result _ _ _ c.from_residual-in_err-machine.ensures.1 c.in_err-machine.ensures.gives)

pub returns-in_err-schedule : goal.returns-in_err-schedule
unfolding plan_of
returns-in_err-schedule c = rw (c.in_ok-only.ensures, c.in_ok-machine.ensures.gives) (leaves c.from_residual-in_err-schedule.result _ _ _ c.from_residual-in_err-schedule.ensures.1 (rw (c.saturating_sub-last_memory.ensures, c.len.ensures) at c.in_err-schedule.ensures))

pub returns-in_err-program : goal.returns-in_err-program
unfolding plan_of
returns-in_err-program c = rw (c.in_ok-only.ensures, c.in_ok-machine.ensures.gives, (rw (c.saturating_sub-last_memory.ensures, c.len.ensures) at c.in_ok-schedule.ensures)) (leaves c.from_residual-in_err-program.result _ _ _ c.from_residual-in_err-program.ensures.1 c.in_err-program.ensures)

pub returns : goal.returns
unfolding plan_of
returns c = rw (c.in_ok-only.ensures, c.in_ok-machine.ensures.gives, (rw (c.saturating_sub-last_memory.ensures, c.len.ensures) at c.in_ok-schedule.ensures), c.in_ok-program.ensures, c.join.ensures) refl
