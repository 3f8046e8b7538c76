use Rattle.std.proofs.Common.{◌≡◌, ◌+◌, ◌<◌}
use Rattle.lego_base.specs.Space.{permits}
use Rattle.flat_memory.specs.Spaces.{space_of}
use Rattle.flat_memory.proofs.space.FlatSpace.permits.Given as goal

abbrev pub invariant-loop-left : goal.invariant-loop-left
invariant-loop-left l = record {
  same : permits (space_of l.self) l.need l.at l.left ≡ permits (space_of l.self) l.need l.addr l.len;
  end : l.at + l.left ≡ l.addr + l.len;
  some : 0 < l.len → 0 < l.left;
}

abbrev pub decreases-loop-left : goal.decreases-loop-left
decreases-loop-left l = l.left
