-- Deliveries. The delivery list picks a pending message while an operation, or a move of healing, is open and all its
-- first messages are sent. A memory or storage follows the message table; an issuer notes an answer.
use Rattle.std.specs.Prelude.{◌≡◌, ◌+◌, ◌==◌, if◌then◌else◌, [], ◌∷◌, ℕ, Bool, None, Option, Some, false, length, slice_get, slice_set, true}
use Rattle.lego_base.specs.declared.records.Patch.{Patch}
use Rattle.lego_msg.specs.Operations.{patch_of}
use Rattle.lego_msg.specs.State.{Mem}
use Rattle.lego_msg.specs.Table.{handled, stored}
use Rattle.lego_msg.specs.Track.{Track, is_calm, picked, taken_out}
use Rattle.lego_msg.specs.declared.body.Body.{Body}
use Rattle.lego_msg.specs.declared.body.Body.TheVariants.{Drain, Drained, LogFull, LogWrite, Refused}
use Rattle.lego_msg.specs.declared.healing.Healing.{Healing}
use Rattle.lego_msg.specs.declared.message.Message.{Message}
use Rattle.lego_msg.specs.declared.operation.Open.{Open}
use Rattle.lego_msg.specs.declared.place.Place.{Place}
use Rattle.lego_msg.specs.declared.place.Place.TheVariants.{Manager, Memory, Processor, Storage}
use Rattle.lego_msg.specs.declared.place.Why.{Why}
use Rattle.lego_msg.specs.declared.place.Why.TheVariants as why

abbrev pub is_sent : Option Open → Bool
is_sent None = false
is_sent (Some o) = length o.unsent == 0

abbrev pub is_waiting : Option Healing → Option Open → Bool
is_waiting None current = is_sent current
is_waiting (Some h) current = is_sent h.current

pub record MayDeliver (t : Track) (m : Message) : Type 0 where
  pub owed : t.owed ≡ []
  pub waiting : is_waiting t.healing t.current ≡ true
  pub calm : is_calm t ≡ true
  pub chosen : picked t.shape.deliveries t.delivered t.net ≡ Some m

-- the message is pending no more
abbrev pub taken : Track → Track
taken t = record t {
  net = taken_out t.shape.deliveries t.delivered t.net;
  delivered = t.delivered + 1;
  clock = record t.clock { since = t.clock.since + 1 };
}

abbrev pub memory_handles : Track → ℕ → Message → Option Mem → Track
memory_handles t number m None = t
memory_handles t number m (Some s) = record t { mems = slice_set t.mems number (handled s m).0; owed = (handled s m).1 }

-- whether a refusal stops the run
abbrev pub stops_for : Why → Bool
stops_for why.NoArea = false
stops_for why.Full = true
stops_for why.StoreFull = true
stops_for why.NoRoom = false

abbrev pub stops : Body → Bool
stops (Refused reason) = stops_for reason
stops other = false

-- In a write, a full log isn't an answer: a drain is asked for there, and the patch is sent again once the log
-- is drained. This is what the issuer has to send.
abbrev pub reaction : Patch → Body → Option Body
reaction patch LogFull = Some Drain
reaction patch Drained = Some (LogWrite patch)
reaction patch other = None

abbrev pub reaction_of : Option Patch → Body → Option Body
reaction_of None body = None
reaction_of (Some patch) body = reaction patch body

abbrev pub answered : Open → Message → Open
answered o m = record o { answers = record { place = m.from; body = m.body } ∷ o.answers }

abbrev pub reacts : Track → Open → Message → Option Body → Track
reacts t o m None = record t { current = Some (answered o m) }
reacts t o m (Some body) = record t { owed = record { from = m.to; to = m.from; op = m.op; body = body } ∷ [] }

-- the open operation gets what has its number; anything else is old, and nothing follows
abbrev pub noted : Track → Message → Option Open → Track
noted t m None = t
noted t m (Some o) = if m.op.0 == o.number.0 then reacts t o m (reaction_of (patch_of o.operation) m.body) else t

abbrev pub noted_by_move : Track → Message → Healing → Option Open → Track
noted_by_move t m h None = noted t m t.current
noted_by_move t m h (Some o) = if m.op.0 == o.number.0 then record t { healing = Some (record h { current = Some (answered o m) }) } else noted t m t.current

abbrev pub noted_with : Track → Message → Option Healing → Track
noted_with t m None = noted t m t.current
noted_with t m (Some h) = noted_by_move t m h h.current

-- an issuer gets a message
abbrev pub issuer_gets : Track → Message → Track
issuer_gets t m = if stops m.body then record t { stopped = true } else noted_with t m t.healing

-- a component gets a message
abbrev pub comes : Track → Message → Place → Track
comes t m (Processor cpu) = issuer_gets t m
comes t m (Memory number) = memory_handles t number.0 m (slice_get t.mems number.0)
comes t m Storage = record t { disk = (stored t.disk m).0; owed = (stored t.disk m).1 }
comes t m Manager = issuer_gets t m
