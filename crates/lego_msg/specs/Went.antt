-- What a call shows: the form of the clauses of all that makes events happen. `told` and `faults` are a watch's.
use Rattle.std.specs.Prelude.{◌≡◌, [], ◌∷◌, ℕ, List, Option, Some, slice_get}
use Rattle.lego_base.specs.declared.shape.Shape.{Shape}
use Rattle.lego_base.specs.declared.stops.Halt.{Halt}
use Rattle.lego_msg.specs.Legal.{Legal, May}
use Rattle.lego_msg.specs.Run.{after, run}
use Rattle.lego_msg.specs.Track.{Track}
use Rattle.lego_msg.specs.Watching.{ShownTo}
use Rattle.lego_msg.specs.declared.body.Body.TheVariants.{Refused}
use Rattle.lego_msg.specs.declared.event.Event.{Event}
use Rattle.lego_msg.specs.declared.event.Event.TheVariants.{Deliver}
use Rattle.lego_msg.specs.declared.message.Message.{Message}
use Rattle.lego_msg.specs.declared.place.Place.TheVariants.{Memory, Storage}
use Rattle.lego_base.specs.declared.stops.Halt.TheVariants as halt
use Rattle.lego_msg.specs.declared.place.Why.TheVariants as why

-- One event happened, which might come where it did. It was shown, and led from this track to that one.
pub record Came {W : Type 0} (told : W → Option (List Event)) (faults : W → ℕ) (old new : W) (t t' : Track) : Type 0 where
  pub event : Event
  pub shown : ShownTo told faults old new (event ∷ [])
  pub may : May t event
  pub ends : after t event ≡ t'

-- Events happened, each of which might come where it did, starting at a track. All of them were shown.
pub record Stopped {W : Type 0} (told : W → Option (List Event)) (faults : W → ℕ) (old new : W) (t : Track) : Type 0 where
  pub events : List Event
  pub shown : ShownTo told faults old new events
  pub legal : Legal t events

-- The same, and they led from this track to that one.
pub record Went {W : Type 0} (told : W → Option (List Event)) (faults : W → ℕ) (old new : W) (t t' : Track) : Type 0 where
  pub events : List Event
  pub shown : ShownTo told faults old new events
  pub legal : Legal t events
  pub ends : run t events ≡ t'

-- HALTS

-- the refusal that a halt is about
abbrev pub Refuses : Shape → Halt → Message → Type 0
Refuses shape (halt.Full number frames) m = (m.from ≡ Memory number) × (m.body ≡ Refused why.Full) × (slice_get shape.frames number.0 ≡ Some frames)
Refuses shape (halt.StoreFull blocks) m = (m.from ≡ Storage) × (m.body ≡ Refused why.StoreFull) × (blocks ≡ shape.blocks)
Refuses shape halt.NoMemory m = ⊥

-- the event is the delivery of that refusal
abbrev pub Delivers : Shape → Halt → Event → Type 0
Delivers shape h (Deliver m) = Refuses shape h m
Delivers shape h other = ⊥

abbrev pub EndsIn : (Event → Type 0) → List Event → Type 0
EndsIn P [] = ⊥
EndsIn P (e ∷ []) = P e
EndsIn P (e ∷ f ∷ events) = EndsIn P (f ∷ events)

-- a full memory and full storage have the delivery of their refusal as the last event; lack of memory may come anywhere
abbrev pub HasCause : Shape → Halt → List Event → Type 0
HasCause shape (halt.Full number frames) events = EndsIn (Delivers shape (halt.Full number frames)) events
HasCause shape (halt.StoreFull blocks) events = EndsIn (Delivers shape (halt.StoreFull blocks)) events
HasCause shape halt.NoMemory events = Unit {0}

-- Events happened and were shown, and the last of them is the cause of the halt.
pub record Halted {W : Type 0} (told : W → Option (List Event)) (faults : W → ℕ) (old new : W) (h : Halt) (t : Track) : Type 0 where
  pub events : List Event
  pub shown : ShownTo told faults old new events
  pub legal : Legal t events
  pub cause : HasCause t.shape h events

-- HOW THEY COMPOSE

pub record StepsCompose {W : Type 0} (told : W → Option (List Event)) (faults : W → ℕ) : Type 0 where
  -- nothing happened; one event is a way
  pub none : (w : W) (t : Track) → Went told faults w w t t
  pub one : (w w' : W) (t t' : Track) → Came told faults w w' t t' → Went told faults w w' t t'
  -- a way and another; a way, and then what stopped or halted
  pub way : (w w' w'' : W) (t t' t'' : Track) → Went told faults w w' t t' → Went told faults w' w'' t' t'' → Went told faults w w'' t t''
  pub stop : (w w' w'' : W) (t t' : Track) → Went told faults w w' t t' → Stopped told faults w' w'' t' → Stopped told faults w w'' t
  pub halting : (w w' w'' : W) (h : Halt) (t t' : Track) → Went told faults w w' t t' → Halted told faults w' w'' h t' → Halted told faults w w'' h t
  -- what halted stopped; what stopped for lack of memory halted
  pub halts : (w w' : W) (h : Halt) (t : Track) → Halted told faults w w' h t → Stopped told faults w w' t
  pub lacks : (w w' : W) (t : Track) → Stopped told faults w w' t → Halted told faults w w' halt.NoMemory t
