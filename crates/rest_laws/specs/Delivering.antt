-- Deliveries to issuers keep the relation: of what is of no open operation any more, and of what is of the
-- open one.
use Rattle.std.specs.Prelude.{◌≡◌, [], ◌∷◌, ℕ, None, Option, Some, false, true}
use Rattle.lego_msg.specs.Deliveries.{MayDeliver, answered, reaction_of, stops, taken}
use Rattle.lego_msg.specs.Operations.{patch_of}
use Rattle.lego_msg.specs.Places.{is_issuer}
use Rattle.lego_msg.specs.Track.{Track, healing_move}
use Rattle.lego_msg.specs.declared.body.Body.{Body}
use Rattle.lego_msg.specs.declared.message.Message.{Message}
use Rattle.lego_msg.specs.declared.operation.Open.{Open}
use Rattle.lego_rest.specs.Pending.{IsNot}
use Rattle.lego_rest.specs.Rest.{Middle}

-- an issuer gets a message of neither the open operation nor the move: nothing follows
abbrev pub OldIsDropped : Type 0
OldIsDropped = (lost : Option ℕ) (t : Track) (m : Message) → MayDeliver t m → is_issuer m.to ≡ true →
    IsNot t.current m.op.0 → IsNot (healing_move t.healing) m.op.0 → Middle lost t → Middle lost (taken t)

-- an issuer notes an answer to its open operation, which doesn't stop the run
abbrev pub AnswerIsNoted : Type 0
AnswerIsNoted = (lost : Option ℕ) (t : Track) (o : Open) (m : Message) → t.current ≡ Some o → MayDeliver t m → is_issuer m.to ≡ true →
    m.op.0 ≡ o.number.0 → IsNot (healing_move t.healing) m.op.0 → stops m.body ≡ false → reaction_of (patch_of o.operation) m.body ≡ None →
    Middle lost t → Middle lost (record (taken t) { current = Some (answered o m) })

-- an issuer reacts to a full log or a drained one: it owes a message to the secondary
abbrev pub ReactionIsOwed : Type 0
ReactionIsOwed = (lost : Option ℕ) (t : Track) (o : Open) (m : Message) (what : Body) → t.current ≡ Some o → MayDeliver t m → is_issuer m.to ≡ true →
    m.op.0 ≡ o.number.0 → IsNot (healing_move t.healing) m.op.0 → reaction_of (patch_of o.operation) m.body ≡ Some what →
    Middle lost t → Middle lost (record (taken t) { owed = record { from = m.to; to = m.from; op = m.op; body = what } ∷ [] })
