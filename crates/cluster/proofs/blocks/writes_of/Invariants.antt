use Rattle.std.proofs.Common.{◌≡◌, ◌+◌, ◌++◌, length}
use Rattle.cluster.specs.Blocks.{writes_of}
use Rattle.cluster.proofs.blocks.writes_of.Given as goal

abbrev pub invariant-loop-rest : goal.invariant-loop-rest
invariant-loop-rest l = (l.at + length l.rest ≡ l.off + length l.bytes) × (l.writes.items ++ writes_of l.file l.at l.rest ≡ writes_of l.file l.off l.bytes)

abbrev pub decreases-loop-rest : goal.decreases-loop-rest
decreases-loop-rest l = length l.rest
