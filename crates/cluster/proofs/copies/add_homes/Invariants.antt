use Rattle.std.proofs.Common.{◌≡◌, ◌++◌, drop, map}
use Rattle.cluster.specs.Mapping.{homes_of}
use Rattle.placement.specs.Owners.{for_child}
use Rattle.cluster.proofs.copies.add_homes.Given as goal

abbrev pub invariant-loop-entry : goal.invariant-loop-entry
invariant-loop-entry l = l.operations.items ++ homes_of (map (for_child l.child) (drop l.entry-index l.entries)) ≡ l.fn.operations.items ++ homes_of (map (for_child l.child) l.entries)
