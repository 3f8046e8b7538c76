use Rattle.std.proofs.Common.{◌≡◌, ◌+◌, ◌-◌, ◌<◌, ◌^◌, min, drop}
use Rattle.linux_model.specs.Buffers.{total}
use Rattle.sys_io.proofs.vectors.total_of.Given as goal

abbrev pub invariant-loop-piece : goal.invariant-loop-piece
invariant-loop-piece l = (l.total < 2 ^ 64) × (min (l.total + total (drop l.piece-index l.pieces)) (2 ^ 64 - 1) ≡ min (total l.pieces) (2 ^ 64 - 1))
