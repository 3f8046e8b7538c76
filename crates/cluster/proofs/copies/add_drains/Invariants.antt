use Rattle.std.proofs.Common.{◌≡◌, ◌++◌, drop}
use Rattle.cluster.specs.Copying.{drains_for}
use Rattle.cluster.proofs.copies.add_drains.Given as goal

abbrev pub invariant-loop-owner : goal.invariant-loop-owner
invariant-loop-owner l = l.operations.items ++ drains_for l.memories (drop l.owner-index l.owners) ≡ l.fn.operations.items ++ drains_for l.memories l.owners
