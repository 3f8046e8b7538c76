use Rattle.std.proofs.Common.{drop}
use Rattle.call_parts.proofs.Writing.{Writing}
use Rattle.call_parts.proofs.buffers.write_pieces.Given as goal

abbrev pub invariant-loop-piece : goal.invariant-loop-piece
invariant-loop-piece g l = Writing g.M.Machine.held g.M.Machine.does l.fn.machine l.machine l.pid.0 l.pieces l.bytes (drop l.piece-index l.pieces) l.rest
