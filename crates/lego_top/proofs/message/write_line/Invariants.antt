use Rattle.lego_top.proofs.Lines.{PiecesSoFar}
use Rattle.lego_top.proofs.message.write_line.Given as goal

abbrev pub invariant-loop-piece : goal.invariant-loop-piece
invariant-loop-piece g l = PiecesSoFar (g.E.Sink.state l.fn.err) (g.E.Sink.state l.err) l.pieces l.piece-index
