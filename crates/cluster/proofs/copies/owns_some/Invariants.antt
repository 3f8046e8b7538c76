use Rattle.std.proofs.Common.{◌≡◌, drop}
use Rattle.cluster.specs.Copying.{owns_some}
use Rattle.cluster.proofs.copies.owns_some.Given as goal

abbrev pub invariant-loop-entry : goal.invariant-loop-entry
invariant-loop-entry l = owns_some l.number (drop l.entry-index l.entries) ≡ owns_some l.number l.entries
