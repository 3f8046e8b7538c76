use Rattle.std.proofs.Common.{refl}
use Rattle.desc_read.specs.Plans.{schedule_of}
use Rattle.desc_read.proofs.Fields.{leaves}
use Rattle.desc_read.proofs.schedule_fields.read_schedule.Goals as goal

pub returns-in_err-turns : goal.returns-in_err-turns
unfolding schedule_of
returns-in_err-turns c = leaves c.from_residual.result _ _ _ c.from_residual.ensures.1 c.in_err-turns.ensures

pub returns-in_err-quantum : goal.returns-in_err-quantum
unfolding schedule_of
returns-in_err-quantum c = rw (c.in_ok-turns.ensures) (leaves c.from_residual-in_err-quantum.result _ _ _ c.from_residual-in_err-quantum.ensures.1 c.in_err-quantum.ensures)

pub returns-in_err-max_turns : goal.returns-in_err-max_turns
unfolding schedule_of
returns-in_err-max_turns c = rw (c.in_ok-turns.ensures, c.in_ok-quantum.ensures) (leaves c.from_residual-in_err-max_turns.result _ _ _ c.from_residual-in_err-max_turns.ensures.1 c.in_err-max_turns.ensures)

pub returns-in_err-deliveries : goal.returns-in_err-deliveries
unfolding schedule_of
returns-in_err-deliveries c = rw (c.in_ok-turns.ensures, c.in_ok-quantum.ensures, c.in_ok-max_turns.ensures) (leaves c.from_residual-in_err-deliveries.result _ _ _ c.from_residual-in_err-deliveries.ensures.1 c.in_err-deliveries.ensures)

pub returns-in_err-crashes : goal.returns-in_err-crashes
unfolding schedule_of
returns-in_err-crashes c = rw (c.in_ok-turns.ensures, c.in_ok-quantum.ensures, c.in_ok-max_turns.ensures, c.in_ok-deliveries.ensures) (leaves c.from_residual-in_err-crashes.result _ _ _ c.from_residual-in_err-crashes.ensures.1 c.in_err-crashes.ensures)

pub returns : goal.returns
unfolding schedule_of
returns c = rw (c.in_ok-turns.ensures, c.in_ok-quantum.ensures, c.in_ok-max_turns.ensures, c.in_ok-deliveries.ensures, c.in_ok-crashes.ensures, c.from.ensures) refl
