use Rattle.std.proofs.Common.{◌≡◌, ◌+◌}
use Rattle.lego_base.specs.Space.{permits}
use Rattle.cluster.specs.Permitted.{bare}
use Rattle.cluster.proofs.spans.permits.Given as goal

abbrev pub invariant-loop-left : goal.invariant-loop-left
invariant-loop-left l = record {
  same : permits (bare l.areas) l.need.0 l.at l.left ≡ permits (bare l.areas) l.need.0 l.start l.len;
  end : l.at + l.left ≡ l.start + l.len;
}

abbrev pub decreases-loop-left : goal.decreases-loop-left
decreases-loop-left l = l.left
