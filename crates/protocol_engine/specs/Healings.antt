-- A healing as its moves go: one begins, it is answered, and it ends.
use Rattle.std.specs.Prelude.{◌≡◌, ◌<◌, ◌==◌, [], ◌∷◌, ℕ, Bool, List, None, Option, Some, false, length, true}
use Rattle.lego_base.specs.declared.ids.MemId.{MemId}
use Rattle.lego_base.specs.declared.ids.OpNo.{OpNo}
use Rattle.lego_msg.specs.Completions.{first_answer}
use Rattle.lego_msg.specs.Deliveries.{noted}
use Rattle.lego_msg.specs.Healing.{ask_of, moves_of}
use Rattle.lego_msg.specs.Sends.{IsFirst}
use Rattle.lego_msg.specs.Track.{Track}
use Rattle.lego_msg.specs.declared.body.Body.{Body}
use Rattle.lego_msg.specs.declared.healing.Healing.{Healing}
use Rattle.lego_msg.specs.declared.healing.Move.{Move}
use Rattle.lego_msg.specs.declared.message.Message.{Message}
use Rattle.lego_msg.specs.declared.operation.Open.{Open}
use Rattle.lego_msg.specs.declared.operation.Operation.TheVariants.{Heals}
use Rattle.lego_msg.specs.declared.place.Place.{Place}
use Rattle.lego_msg.specs.declared.place.Place.TheVariants.{Manager}
use Rattle.placement.specs.Owners.{Owned}
use Rattle.protocol_engine.specs.Opening.{opened_by}

-- once a move has begun, another one is on its way or there is an answer for the next
abbrev pub CanGoOn : Bool → Option Open → Option Body → Type 0
CanGoOn waits current got = waits ≡ true → current ≡ None → got ≡ None → ⊥

-- whether a message has the number of what is open
abbrev pub is_for : Option Open → Message → Bool
is_for None m = false
is_for (Some o) m = m.op.0 == o.number.0

abbrev pub HasNumber : Option Open → OpNo → Type 0
HasNumber None number = ⊥
HasNumber (Some o) number = o.number ≡ number

abbrev pub HasAnswer : Option Open → Type 0
HasAnswer None = ⊥
HasAnswer (Some o) = 0 < length o.answers

-- an answer is noted
abbrev pub answered_in : Option Open → Place → Body → Option Open
answered_in None place body = None
answered_in (Some o) place body = Some (record o { answers = record { place = place; body = body } ∷ o.answers })

abbrev pub noted_in : Healing → Option Open → Place → Body → Healing
noted_in h current place body = record h { current = answered_in current place body }

-- a move of healing as an open operation, of n memories
abbrev pub opened_move : ℕ → OpNo → Move → Option Body → Open
opened_move n number move got = opened_by n number Manager (Heals (ask_of move got).to (ask_of move got).body)

abbrev pub IsMoveMessage : ℕ → OpNo → Message → Option Body → List Move → Type 0
IsMoveMessage n number m got [] = ⊥
IsMoveMessage n number m got (move ∷ moves) = IsFirst m (opened_move n number move got).unsent

abbrev pub with_move : ℕ → OpNo → Healing → List Move → Healing
with_move n number h [] = h
with_move n number h (move ∷ moves) = record h { moves = moves; current = Some (record (opened_move n number move h.got) { unsent = [] }); got = None }

abbrev pub ended : Healing → Option Open → Healing
ended h None = h
ended h (Some o) = record h { current = None; got = first_answer o.answers }

abbrev pub note_moved : Option Healing → Place → Body → Option Healing
note_moved None place body = None
note_moved (Some h) place body = Some (noted_in h h.current place body)

-- of whatever heals: the next move's message, and the healing with that move on its way
abbrev pub IsNextMessage : ℕ → OpNo → Message → Option Healing → Type 0
IsNextMessage n number m None = ⊥
IsNextMessage n number m (Some h) = IsMoveMessage n number m h.got h.moves

abbrev pub next_moved : ℕ → OpNo → Option Healing → Option Healing
next_moved n number None = None
next_moved n number (Some h) = Some (with_move n number h h.moves)

-- a move ends, and the healing with the last one
abbrev pub is_last_move : Option Healing → Bool
is_last_move None = false
is_last_move (Some h) = length h.moves == 0

abbrev pub left_after : Healing → List Move → Option Healing
left_after h [] = None
left_after h (move ∷ moves) = Some (ended h h.current)

abbrev pub move_ended : Option Healing → Option Healing
move_ended None = None
move_ended (Some h) = left_after h h.moves

-- what the open operation makes of a message, and what is owed then
abbrev pub Notes : Message → Option Open → Option Open → List Message → Type 0
Notes m old new owed = (t : Track) → t.current ≡ old → t.owed ≡ [] → noted t m old ≡ record t { current = new; owed = owed }

-- a healing that begins
abbrev pub healing_of : MemId → Owned → Healing
healing_of memory table = record { memory = memory; moves = moves_of table.memories memory.0 table.owners; current = None; got = None }
