use Rattle.std.proofs.Common.{◌≡◌, ◌++◌, drop}
use Rattle.cluster.specs.Mapping.{sets_areas}
use Rattle.cluster.proofs.changes.add_sets.Given as goal

abbrev pub invariant-loop-entry : goal.invariant-loop-entry
invariant-loop-entry l = l.operations.items ++ sets_areas l.old l.want (drop l.entry-index l.entries) ≡ l.fn.operations.items ++ sets_areas l.old l.want l.entries
