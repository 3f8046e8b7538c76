use Rattle.std.proofs.Common.{◌≡◌, drop}
use Rattle.kernel_objects.specs.Slots.{free_from}
use Rattle.manager.proofs.slots.next_slot.Given as goal

abbrev pub invariant-loop-slot : goal.invariant-loop-slot
invariant-loop-slot g l = free_from 0 l.slot (drop l.slot l.slots) ≡ free_from 0 0 l.slots
