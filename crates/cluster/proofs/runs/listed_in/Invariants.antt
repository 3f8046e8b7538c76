use Rattle.std.proofs.Common.{◌≡◌, ◌++◌, drop}
use Rattle.cluster.specs.Mapping.{listed_in}
use Rattle.cluster.proofs.runs.listed_in.Given as goal

abbrev pub invariant-loop-run : goal.invariant-loop-run
invariant-loop-run l = l.listed ++ listed_in l.region.0 (drop l.run-index l.runs) ≡ listed_in l.region.0 l.runs
