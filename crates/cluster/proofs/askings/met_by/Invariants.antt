use Rattle.std.proofs.Common.{◌≡◌, ◌++◌, drop}
use Rattle.cluster.specs.Askings.{met_by}
use Rattle.cluster.proofs.askings.met_by.Given as goal

abbrev pub invariant-loop-entry : goal.invariant-loop-entry
invariant-loop-entry l = l.met ++ met_by l.start l.len (drop l.entry-index l.entries) ≡ met_by l.start l.len l.entries
