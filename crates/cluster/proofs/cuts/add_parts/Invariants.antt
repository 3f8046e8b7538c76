use Rattle.std.proofs.Common.{◌≡◌, ◌++◌, drop}
use Rattle.cluster.specs.Unmapping.{AreParts, listed_for, unmaps_parts}
use Rattle.cluster.proofs.cuts.add_parts.Given as goal

abbrev pub invariant-loop-entry : goal.invariant-loop-entry
invariant-loop-entry l = AreParts l.old l.first l.pages (drop l.entry-index l.entries)
    × (l.operations.items ++ unmaps_parts l.memories (listed_for l.old) l.first l.pages (drop l.entry-index l.entries) ≡ l.fn.operations.items ++ unmaps_parts l.memories (listed_for l.old) l.first l.pages l.entries)
