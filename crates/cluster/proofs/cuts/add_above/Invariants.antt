use Rattle.std.proofs.Common.{◌≡◌, ◌++◌, drop}
use Rattle.area_list.specs.Runs.{IsCanonical, above}
use Rattle.cluster.proofs.cuts.add_above.Given as goal

abbrev pub invariant-loop-run : goal.invariant-loop-run
invariant-loop-run l = IsCanonical (drop l.run-index l.runs) × (l.left ++ above l.page (drop l.run-index l.runs) ≡ l.fn.left ++ above l.page l.runs)
