-- Messages in events, and what may be delivered.
use Rattle.std.specs.Prelude.{◌≡◌, None, Option, Some, drop, slice_get}
use Rattle.lego_base.specs.declared.shape.Shape.{Shape}
use Rattle.lego_base.specs.declared.stops.Halt.{Halt}
use Rattle.lego_msg.specs.Sends.{IsFirst}
use Rattle.lego_msg.specs.Went.{Refuses}
use Rattle.lego_msg.specs.declared.event.Event.{Event}
use Rattle.lego_msg.specs.declared.event.Event.TheVariants.{Deliver, Send}
use Rattle.lego_msg.specs.declared.message.Message.{Message}
use Rattle.lego_msg.specs.declared.operation.Open.{Open}
use Rattle.lego_msg.specs.declared.place.Place.{Place}
use Rattle.lego_msg.specs.declared.place.Place.TheVariants.{Memory}
use Rattle.lego_base.specs.declared.stops.Halt.TheVariants as halt

-- the message of a send or of a delivery
abbrev pub message_in : Event → Option Message
message_in (Send m) = Some m
message_in (Deliver m) = Some m
message_in other = None

-- the first unsent message is taken
abbrev pub Takes : Message → Option Open → Option Open → Type 0
Takes m None new = ⊥
Takes m (Some o) new = IsFirst m o.unsent × (new ≡ Some (record o { unsent = drop 1 o.unsent }))

-- a halt at the delivery of a message has its cause in that message; lack of memory needs none
abbrev pub IsCause : Shape → Halt → Message → Type 0
IsCause shape halt.NoMemory m = Unit {0}
IsCause shape (halt.Full number frames) m = Refuses shape (halt.Full number frames) m
IsCause shape (halt.StoreFull blocks) m = Refuses shape (halt.StoreFull blocks) m

abbrev pub IsFullAt : Shape → Place → Halt → Type 0
IsFullAt shape from (halt.Full number frames) = (from ≡ Memory number) × (slice_get shape.frames number.0 ≡ Some frames)
IsFullAt shape from other = ⊥
