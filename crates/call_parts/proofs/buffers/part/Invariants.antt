use Rattle.std.proofs.Common.{◌≡◌, ◌++◌, drop}
use Rattle.linux_model.specs.Buffers.{part}
use Rattle.call_parts.specs.Pieces.{Each, PastFits}
use Rattle.call_parts.proofs.buffers.part.Given as goal

abbrev pub invariant-loop-piece : goal.invariant-loop-piece
invariant-loop-piece l =
    (l.parts.items ++ part l.skip l.len (drop l.piece-index l.pieces) ≡ part l.fn.skip l.fn.len l.pieces)
    × Each (PastFits l.skip) (drop l.piece-index l.pieces)
