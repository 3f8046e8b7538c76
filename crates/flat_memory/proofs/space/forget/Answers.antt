use Rattle.flat_memory.specs.FastPath.{no_slot}
use Rattle.flat_memory.proofs.Clearing.{one_more}
use Rattle.flat_memory.proofs.space.forget.Goals as goal

pub loop-slot-preserved : goal.loop-slot-preserved
loop-slot-preserved c = one_more c.args.slots.now c.loop-slot.slots c.loop-slot.slot-index no_slot c.loop-slot-test.true c.loop-slot.auto.slots c.loop-slot.invariant
