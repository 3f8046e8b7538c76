use Rattle.std.proofs.Common.{◌≡◌, ◌+◌, drop}
use Rattle.mem_monitor.specs.Counted.{counts}
use Rattle.mem_monitor.proofs.copies.count_all.Given as goal

abbrev pub invariant-loop-region : goal.invariant-loop-region
invariant-loop-region l = l.total + counts l.pid.0 (drop l.region-index l.regions) l.pages.pages ≡ counts l.pid.0 l.regions l.pages.pages
