use Rattle.std.proofs.Common.{◌-◌, length}
use Rattle.space_loading.proofs.Stacking.{Stacking}
use Rattle.space_loading.proofs.stack.fill_stack.Given as goal

abbrev pub invariant-loop-done : goal.invariant-loop-done
invariant-loop-done g l = Stacking g.M.Machine.held g.M.Machine.does l.fn.machine l.machine l.pid.0 l.sp l.bytes l.done

abbrev pub decreases-loop-done : goal.decreases-loop-done
decreases-loop-done g l = length l.bytes - l.done
