use Rattle.flat_memory.proofs.FastPath.{kept-slot}
use Rattle.flat_memory.proofs.turn.TurnSpaceGuestMem.store.Goals as goal

pub invariant_of-self : goal.invariant_of-self
invariant_of-self c = record { holds = kept-slot _ _ _ _ _ c.store_fast.ensures.stays.0 c.store_fast.ensures.stays.1 c.args.self.now.holds }
