-- Where nothing is lost, each message on its way to a memory or to storage is in form for its receiver.
use Rattle.std.specs.List.{AllByRecursion}
use Rattle.std.specs.Prelude.{◌≡◌, None, false}
use Rattle.lego_msg.specs.Form.{HasFile, InForm}
use Rattle.lego_msg.specs.Places.{is_issuer}
use Rattle.lego_msg.specs.State.{Disk}
use Rattle.lego_msg.specs.Track.{Track}
use Rattle.lego_msg.specs.declared.message.Message.{Message}
use Rattle.lego_rest.specs.Rest.{Middle}

-- what the code of a memory or of storage asks of a message that it gets
abbrev pub IsFormed : Disk → Message → Type 0
IsFormed d m = is_issuer m.to ≡ false → InForm m.body × HasFile d m.body

abbrev pub MessagesAreInForm : Type 0
MessagesAreInForm = (t : Track) → t.healing ≡ None → Middle None t → AllByRecursion (IsFormed t.disk) t.net
