use Rattle.std.proofs.Common.{◌≡◌, ◌-◌, ◌≤◌, ◌++◌, max}
use Rattle.cluster.specs.Mapping.{end_met, first_met, numbers_from}
use Rattle.cluster.proofs.runs.add_regions.Given as goal

-- what is there with the regions that are left is the whole
abbrev pub invariant-loop-region : goal.invariant-loop-region
invariant-loop-region l = (first_met l.fn.next l.fn.run ≤ l.region) × (l.region ≤ max (first_met l.fn.next l.fn.run) (end_met l.fn.run))
    × (l.regions ++ numbers_from (l.end - l.region) l.region ≡ l.fn.regions ++ numbers_from (end_met l.fn.run - first_met l.fn.next l.fn.run) (first_met l.fn.next l.fn.run))

abbrev pub decreases-loop-region : goal.decreases-loop-region
decreases-loop-region l = l.end - l.region
