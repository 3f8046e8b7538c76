use Rattle.std.proofs.Common.{◌≡◌, ◌+◌, drop}
use Rattle.backup_images.specs.Segments.{weights}
use Rattle.backup_images.proofs.weight.weights.Given as goal

abbrev pub invariant-loop-segment : goal.invariant-loop-segment
invariant-loop-segment l = l.weight + weights (drop l.segment-index l.segments) ≡ l.before + weights l.segments
