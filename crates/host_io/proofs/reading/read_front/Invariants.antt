use Rattle.std.proofs.Common.{◌≡◌, ◌+◌, ◌-◌, length, vec_len}
use Rattle.host_io.proofs.ReadLaws.{ReadSoFar}
use Rattle.host_io.proofs.reading.read_front.Given as goal

abbrev pub invariant-loop-piece : goal.invariant-loop-piece
invariant-loop-piece g l = record {
  size : length l.piece ≡ 4096;
  so : ReadSoFar (g.S.Source.state l.fn.source) (g.S.Source.state l.source) l.most l.taken.items;
}

abbrev pub decreases-loop-piece : goal.decreases-loop-piece
decreases-loop-piece g l = l.most + 1 - vec_len l.taken
