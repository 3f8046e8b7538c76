-- While a memory is healed: what is delivered beside the moves of its healing keeps the relation.
use Rattle.std.specs.Prelude.{Option}
use Rattle.std.specs.Prelude.{ℕ}
use Rattle.lego_msg.specs.Deliveries.{MayDeliver, comes, taken}
use Rattle.lego_msg.specs.Track.{Track, healing_move}
use Rattle.lego_msg.specs.declared.message.Message.{Message}
use Rattle.lego_rest.specs.Pending.{IsNot}
use Rattle.lego_rest.specs.Rest.{Middle}

-- a delivery, to whomever, of a message that isn't of the move on its way: of the open operation, of a batch or its receipt,
-- or an old answer
abbrev pub DeliveriesBeside : Type 0
DeliveriesBeside = (lost : Option ℕ) (t : Track) (m : Message) → MayDeliver t m → IsNot (healing_move t.healing) m.op.0 →
    Middle lost t → Middle lost (comes (taken t) m m.to)
