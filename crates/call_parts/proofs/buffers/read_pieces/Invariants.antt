use Rattle.std.proofs.Common.{drop}
use Rattle.call_parts.proofs.Reading.{Reading}
use Rattle.call_parts.proofs.buffers.read_pieces.Given as goal

abbrev pub invariant-loop-piece : goal.invariant-loop-piece
invariant-loop-piece g l = Reading g.M.Machine.held g.M.Machine.does l.fn.machine l.machine l.pid.0 l.pieces (drop l.piece-index l.pieces) l.joined.items
