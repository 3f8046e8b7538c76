use Rattle.std.proofs.Common.{rules}
use Rattle.host_io.proofs.ReadLaws.{read_stopped, read_some}
use Rattle.host_io.proofs.reading.read_front.Goals as goal

pub returns-in_err-take_piece-clause-stops : goal.returns-in_err-take_piece-clause-stops
returns-in_err-take_piece-clause-stops g c =
    let stops = read_stopped _ _ _ _ _ _ _ c.in_err-take_piece.field-0.0 c.loop-piece.invariant.so c.in_err-take_piece.ensures.read in
    search rules

pub returns-in_err-take_piece-clause-taken : goal.returns-in_err-take_piece-clause-taken
returns-in_err-take_piece-clause-taken g c =
    read_some _ _ _ _ _ _ _ _ c.loop-piece.invariant.so c.in_err-take_piece.ensures.read
