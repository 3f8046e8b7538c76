use Rattle.std.proofs.Common.{◌≡◌, ◌++◌, drop}
use Rattle.area_list.specs.Runs.{IsCanonical}
use Rattle.cluster.specs.Mapping.{part_in}
use Rattle.cluster.proofs.runs.part_in.Given as goal

abbrev pub invariant-loop-run : goal.invariant-loop-run
invariant-loop-run l = IsCanonical (drop l.run-index l.runs) × (l.part ++ part_in l.region.0 (drop l.run-index l.runs) ≡ part_in l.region.0 l.runs)
