use Rattle.std.proofs.Common.{◌-◌}
use Rattle.sys_process.proofs.Closings.{Closing}
use Rattle.sys_process.proofs.death.close_all.Given as goal

abbrev pub invariant-loop-fd : goal.invariant-loop-fd
invariant-loop-fd g l = Closing g.M.Machine.does l.fn.machine l.machine l.fn.manager l.manager l.all l.pid.0 l.fd

abbrev pub decreases-loop-fd : goal.decreases-loop-fd
decreases-loop-fd g l = 64 - l.fd
