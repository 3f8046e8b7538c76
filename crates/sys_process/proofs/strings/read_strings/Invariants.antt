use Rattle.sys_process.proofs.Listing.{Listing}
use Rattle.sys_process.proofs.strings.read_strings.Given as goal

abbrev pub invariant-loop-strings : goal.invariant-loop-strings
invariant-loop-strings g l = Listing g.M.Machine.held g.M.Machine.does l.fn.machine l.machine l.pid.0 l.fn.left l.address l.fn.room l.strings l.left l.at l.room

abbrev pub decreases-loop-strings : goal.decreases-loop-strings
decreases-loop-strings g l = l.left
