use Rattle.std.proofs.Common.{◌≡◌, ◌++◌, drop}
use Rattle.area_list.specs.Runs.{IsCanonical, below}
use Rattle.cluster.proofs.cuts.add_below.Given as goal

abbrev pub invariant-loop-run : goal.invariant-loop-run
invariant-loop-run l = IsCanonical (drop l.run-index l.runs) × (l.left ++ below l.page (drop l.run-index l.runs) ≡ l.fn.left ++ below l.page l.runs)
