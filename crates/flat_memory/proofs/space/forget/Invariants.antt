use Rattle.std.proofs.Common.{◌≡◌, ◌++◌, drop, map, take}
use Rattle.flat_memory.specs.FastPath.{no_slot}
use Rattle.flat_memory.proofs.space.forget.Given as goal

abbrev pub invariant-loop-slot : goal.invariant-loop-slot
invariant-loop-slot l = l.slots ≡ map (λ slot. no_slot) (take l.slot-index l.initial.slots) ++ drop l.slot-index l.initial.slots
