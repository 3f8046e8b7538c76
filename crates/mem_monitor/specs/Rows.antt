-- What a row of the message table makes of a memory and of what is sent.
use Rattle.std.specs.Prelude.{◌≡◌, ◌++◌, List, map}
use Rattle.lego_msg.specs.State.{Mem, Waiter}
use Rattle.lego_msg.specs.declared.body.Body.TheVariants.{Drain}
use Rattle.lego_msg.specs.declared.message.Message.{Message}
use Rattle.mem_monitor.specs.declared.asker.Asker.{Asker}

-- the memory became what the row says, and its messages were sent
abbrev pub Row : Mem → Mem → List Message → List Message → Mem × List Message → Type 0
Row old new sent sent' row = (new ≡ row.0) × (sent' ≡ sent ++ row.1)

-- a message of an asker: what a row reads of one besides what it says
abbrev pub asking : Asker → Message
asking asker = record { from = asker.place; to = asker.place; op = asker.op; body = Drain }

-- those whose drains wait
abbrev pub waiter : Asker → Waiter
waiter asker = record { place = asker.place; op = asker.op.0 }

abbrev pub waiters : List Asker → List Waiter
waiters askers = map waiter askers
