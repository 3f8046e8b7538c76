use Rattle.std.proofs.Common.{drop}
use Rattle.call_parts.proofs.Checking.{Checking}
use Rattle.call_parts.proofs.buffers.check_pieces.Given as goal

abbrev pub invariant-loop-piece : goal.invariant-loop-piece
invariant-loop-piece g l = Checking g.M.Machine.held g.M.Machine.does l.fn.machine l.machine l.pid.0 l.need l.pieces (drop l.piece-index l.pieces)
