use Rattle.std.proofs.Common.{length, ◌+◌, ◌-◌, ◌≤◌}
use Rattle.sys_paths.proofs.Splitting.{Leads}
use Rattle.sys_paths.proofs.parts.first_name.Given as goal

abbrev pub invariant-loop-start : goal.invariant-loop-start
invariant-loop-start l = (l.start ≤ length l.path + 1) × Leads l.start l.path

abbrev pub decreases-loop-start : goal.decreases-loop-start
decreases-loop-start l = length l.path + 1 - l.start
