use Rattle.std.proofs.Common.{◌≡◌, ◌++◌, drop}
use Rattle.area_list.specs.Runs.{IsCanonical}
use Rattle.cluster.specs.Mapping.{regions_from}
use Rattle.cluster.proofs.runs.regions_of.Given as goal

abbrev pub invariant-loop-run : goal.invariant-loop-run
invariant-loop-run l = IsCanonical (drop l.run-index l.runs) × (l.regions ++ regions_from l.next (drop l.run-index l.runs) ≡ regions_from 0 l.runs)
