use Rattle.std.proofs.Common.{◌≡◌, ◌++◌, drop}
use Rattle.cluster.specs.Askings.{asks_of}
use Rattle.cluster.proofs.askings.asks_of.Given as goal

abbrev pub invariant-loop-entry : goal.invariant-loop-entry
invariant-loop-entry l = l.asks.items ++ asks_of (drop l.entry-index l.entries) ≡ asks_of l.entries
