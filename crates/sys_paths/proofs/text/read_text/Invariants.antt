use Rattle.sys_paths.proofs.Reading.{Reading}
use Rattle.sys_paths.proofs.text.read_text.Given as goal

abbrev pub invariant-loop-left : goal.invariant-loop-left
invariant-loop-left g l = Reading g.M.Machine.held g.M.Machine.does l.fn.machine l.machine l.pid.0 l.address l.most l.at l.left l.bytes

abbrev pub decreases-loop-left : goal.decreases-loop-left
decreases-loop-left g l = l.left
