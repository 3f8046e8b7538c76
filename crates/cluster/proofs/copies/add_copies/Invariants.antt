use Rattle.std.proofs.Common.{◌≡◌, ◌++◌, drop}
use Rattle.cluster.specs.Copying.{copies_for}
use Rattle.cluster.proofs.copies.add_copies.Given as goal

abbrev pub invariant-loop-owner : goal.invariant-loop-owner
invariant-loop-owner l = l.operations.items ++ copies_for l.parent l.child l.entries (drop l.owner-index l.owners) ≡ l.fn.operations.items ++ copies_for l.parent l.child l.entries l.owners
