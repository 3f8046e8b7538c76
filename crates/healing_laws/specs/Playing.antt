-- What one who plays a legal list, one event at a time, finds of each track on its way: that what comes next can be done,
-- and that something comes as long as anything is open or healing.
use Rattle.std.specs.List.{AllByRecursion}
use Rattle.std.specs.Prelude.{◌≡◌, ◌<◌, ◌==◌, [], ◌∷◌, List, None, Option, Some, false, length, true}
use Rattle.lego_base.specs.declared.shape.CrashAt.{CrashAt}
use Rattle.lego_base.specs.declared.shape.Shape.{Shape}
use Rattle.lego_msg.specs.Deliveries.{is_waiting}
use Rattle.lego_msg.specs.Legal.{Legal}
use Rattle.lego_msg.specs.Marks.{Call, Mark, Order, Show}
use Rattle.lego_msg.specs.Run.{run}
use Rattle.lego_msg.specs.State.{Disk, Mem}
use Rattle.lego_msg.specs.Track.{Track, healing_move, is_calm, memory_count, next_crash}
use Rattle.lego_msg.specs.declared.body.Body.{Body}
use Rattle.lego_msg.specs.declared.body.Body.TheVariants.{Refused}
use Rattle.lego_msg.specs.declared.event.Event.{Event}
use Rattle.lego_msg.specs.declared.healing.Healing.{Healing}
use Rattle.lego_msg.specs.declared.healing.Move.{Move}
use Rattle.lego_msg.specs.declared.message.Message.{Message}
use Rattle.lego_msg.specs.declared.operation.Open.{Open}
use Rattle.lego_msg.specs.declared.place.Place.{Place}
use Rattle.lego_msg.specs.declared.place.Place.TheVariants.{Memory, Storage}
use Rattle.lego_msg.specs.declared.place.Why.{Why}
use Rattle.lego_rest.specs.Rest.{AtRest}
use Rattle.lego_waits.specs.Laws.{AreInPlace}
use Rattle.rest_laws.specs.Forms.{IsFormed}
use Rattle.rest_laws.specs.GoingOn.{IsDue}
use Rattle.healing_laws.specs.Running.{GrantedAll}
use Rattle.lego_msg.specs.declared.place.Why.TheVariants as why

-- SOMETHING COMES: an operation, or a move of a healing, is open, and nothing of it is to be sent, none is complete, and no
-- crash is due
pub record IsAwaited (now : Track) : Type 0 where
  pub owed : now.owed ≡ []
  pub calm : is_calm now ≡ true
  pub waiting : is_waiting now.healing now.current ≡ true

abbrev pub SomethingIsPending : Type 0
SomethingIsPending = (t : Track) (events : List Event) → AtRest t → Legal t events → GrantedAll t events →
    IsAwaited (run t events) → 0 < length (run t events).net

-- A PLAYER'S NEEDS

-- the next entry of the crash list is of a memory that is there
abbrev pub EntryFits : List Mem → Option CrashAt → Type 0
EntryFits mems None = Unit {0}
EntryFits mems (Some e) = e.memory.0 < length mems

-- a move of a healing has another number than the open operation
abbrev pub OtherNumber : Option Open → Option Open → Type 0
OtherNumber None move = Unit {0}
OtherNumber (Some o) None = Unit {0}
OtherNumber (Some o) (Some move) = (move.number.0 == o.number.0) ≡ false

-- a healing goes on: a move on its way has no message unsent and asks somebody; where none is, one is left
abbrev pub MoveGoesOn : Option Open → List Move → Type 0
MoveGoesOn None moves = 0 < length moves
MoveGoesOn (Some o) moves = (o.unsent ≡ []) × (0 < length o.targets)

abbrev pub HealingGoesOn : Option Healing → Type 0
HealingGoesOn None = Unit {0}
HealingGoesOn (Some h) = MoveGoesOn h.current h.moves

-- who refuses so that the run stops: a memory of the machine that is full, or storage
abbrev pub RefusesFull : Shape → Place → Type 0
RefusesFull shape (Memory number) = number.0 < length shape.frames
RefusesFull shape other = ⊥

abbrev pub RefusesFor : Shape → Place → Why → Type 0
RefusesFor shape from why.Full = RefusesFull shape from
RefusesFor shape from why.StoreFull = from ≡ Storage
RefusesFor shape from other = Unit {0}

abbrev pub FitsRefusal : Shape → Place → Body → Type 0
FitsRefusal shape from (Refused reason) = RefusesFor shape from reason
FitsRefusal shape from other = Unit {0}

-- a message that may be delivered: it is in form for its component, and a refusal is from one that may refuse
pub record IsFit (shape : Shape) (d : Disk) (m : Message) : Type 0 where
  pub form : IsFormed d m
  pub refusal : FitsRefusal shape m.from m.body

pub record IsPlayable (t : Track) : Type 0 where
  -- there are memories, each in its place, and a delivery list; the next crash is of a memory that is there
  pub some : 0 < memory_count t.shape
  pub places : AreInPlace 0 t.mems
  pub list : 0 < length t.shape.deliveries
  pub entry : EntryFits t.mems (next_crash t.shape t.clock)
  -- what is pending may be delivered
  pub fit : AllByRecursion (IsFit t.shape t.disk) t.net
  -- a move of a healing has a number of its own, and goes on
  pub numbers : OtherNumber t.current (healing_move t.healing)
  pub moves : HealingGoesOn t.healing
  -- where something is awaited something is pending
  pub awaits : IsAwaited t → 0 < length t.net

-- So it is wherever a legal list of granted operations leads, whatever crashed, and also where a refusal stopped it.
abbrev pub EveryTrackIsPlayable : Type 0
EveryTrackIsPlayable = (t : Track) (events : List Event) → AtRest t → Legal t events → GrantedAll t events → IsPlayable (run t events)

-- CALLS. From rest, with one granted operation due and no other one after it, every legal list is one of granted operations:
-- also where memories crash and are healed before it begins.
abbrev pub CallsNone : List Mark → Type 0
CallsNone [] = Unit {0}
CallsNone (Call o ∷ due) = ⊥
CallsNone (Show e ∷ due) = CallsNone due

abbrev pub CallsArePlayable : Type 0
CallsArePlayable = (t : Track) (o : Order) (rest : List Mark) (events : List Event) →
    IsDue t o rest → CallsNone rest → Legal t events → IsPlayable (run t events)

-- and with none due
abbrev pub MarksArePlayable : Type 0
MarksArePlayable = (t : Track) (events : List Event) → AtRest t → CallsNone t.due → Legal t events → IsPlayable (run t events)
