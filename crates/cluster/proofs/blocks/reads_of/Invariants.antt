use Rattle.std.proofs.Common.{◌≡◌, ◌+◌, ◌++◌}
use Rattle.cluster.specs.Blocks.{reads_of}
use Rattle.cluster.proofs.blocks.reads_of.Given as goal

abbrev pub invariant-loop-left : goal.invariant-loop-left
invariant-loop-left l = (l.at + l.left ≡ l.off + l.len) × (l.reads.items ++ reads_of l.file l.at l.left ≡ reads_of l.file l.off l.len)

abbrev pub decreases-loop-left : goal.decreases-loop-left
decreases-loop-left l = l.left
