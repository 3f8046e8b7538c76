-- Sends keep the relation: of what is owed, whatever is open or healing, and of the open operation's first messages.
use Rattle.std.specs.Prelude.{◌≡◌, [], ◌∷◌, ◌++◌, ℕ, List, None, Option, Some}
use Rattle.lego_msg.specs.Track.{Track}
use Rattle.lego_msg.specs.declared.message.Message.{Message}
use Rattle.lego_msg.specs.declared.operation.Open.{Open}
use Rattle.lego_rest.specs.Rest.{Middle}

-- what is owed counts as pending already, so that its send changes nothing
abbrev pub OwedIsSent : Type 0
OwedIsSent = (lost : Option ℕ) (t : Track) (m : Message) (more : List Message) → t.owed ≡ m ∷ more →
    Middle lost t → Middle lost (record t { net = t.net ++ m ∷ []; owed = more })

-- the next first message of the open operation, where nothing heals
abbrev pub FirstIsSent : Type 0
FirstIsSent = (t : Track) (o : Open) (m : Message) (more : List Message) → t.current ≡ Some o → t.healing ≡ None → t.owed ≡ [] →
    o.unsent ≡ m ∷ more →
    Middle None t → Middle None (record t { net = t.net ++ m ∷ []; current = Some (record o { unsent = more }) })
