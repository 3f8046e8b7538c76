use Rattle.std.proofs.Common.{◌≡◌, drop}
use Rattle.area_list.specs.Runs.{IsCanonical}
use Rattle.cluster.specs.Unmapping.{has_mapped}
use Rattle.cluster.proofs.cuts.has_mapped.Given as goal

abbrev pub invariant-loop-run : goal.invariant-loop-run
invariant-loop-run l = IsCanonical (drop l.run-index l.runs) × (has_mapped l.low l.high (drop l.run-index l.runs) ≡ has_mapped l.low l.high l.runs)
