use Rattle.std.proofs.Common.{rules}
use Rattle.lego_top.proofs.Lines.{one_piece_more, cut_in_piece}
use Rattle.lego_top.proofs.message.write_line.Goals as goal

pub returns-in_err-write_all-clause-front : goal.returns-in_err-write_all-clause-front
returns-in_err-write_all-clause-front g c =
    let front = cut_in_piece _ _ _ _ _ c.loop-piece.invariant _ c.loop-piece-test.true c.in_err-write_all.ensures.cause.later c.in_err-write_all.ensures.front in
    search rules

pub loop-piece-preserved : goal.loop-piece-preserved
loop-piece-preserved g c =
    one_piece_more _ _ _ _ _ c.loop-piece.invariant _ c.loop-piece-test.true c.in_ok-write_all.ensures.cause.later c.in_ok-write_all.ensures.all
