use Rattle.std.proofs.Common.{◌≡◌, ◌++◌, drop}
use Rattle.cluster.specs.Mapping.{homes_of}
use Rattle.cluster.proofs.changes.homes_of.Given as goal

abbrev pub invariant-loop-entry : goal.invariant-loop-entry
invariant-loop-entry l = l.homes.items ++ homes_of (drop l.entry-index l.entries) ≡ homes_of l.entries
