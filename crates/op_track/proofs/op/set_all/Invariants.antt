use Rattle.std.proofs.Common.{◌≡◌, ◌++◌, drop, map, take}
use Rattle.op_track.specs.Targets.{set_to}
use Rattle.op_track.proofs.op.set_all.Given as goal

abbrev pub invariant-loop-target : goal.invariant-loop-target
invariant-loop-target l = l.targets ≡ map (set_to l.answered l.place) (take l.target-index l.initial.targets) ++ drop l.target-index l.initial.targets
