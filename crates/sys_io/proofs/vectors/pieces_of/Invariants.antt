use Rattle.std.proofs.Common.{length}
use Rattle.sys_io.proofs.Entries.{Left}
use Rattle.sys_io.proofs.vectors.pieces_of.Given as goal

abbrev pub invariant-loop-rest : goal.invariant-loop-rest
invariant-loop-rest l = Left l.bytes l.pieces.items l.rest

abbrev pub decreases-loop-rest : goal.decreases-loop-rest
decreases-loop-rest l = length l.rest
