use Rattle.std.proofs.Common.{◌≡◌, [], take}
use Rattle.space_rules.specs.Mapped.{areas_of}
use Rattle.space_rules.proofs.image.load_areas.Given as goal

-- the areas are those of the loads so far
abbrev pub invariant-loop-segment : goal.invariant-loop-segment
invariant-loop-segment l = l.areas ≡ areas_of (take l.segment-index l.segments) []
