-- Where nothing is lost: every event keeps the relation, and an operation leads from rest back to rest.
use Rattle.std.specs.List.{AllByRecursion}
use Rattle.std.specs.Prelude.{◌≡◌, [], ◌∷◌, ◌++◌, List, None, Option, Some, false}
use Rattle.lego_base.specs.Keys.{put_all}
use Rattle.lego_base.specs.declared.ids.OpNo.{OpNo}
use Rattle.lego_base.specs.declared.records.HomeEntry.{HomeEntry}
use Rattle.lego_msg.specs.Completions.{owners_after}
use Rattle.lego_msg.specs.Granted.{Granted}
use Rattle.lego_msg.specs.Legal.{Legal, May}
use Rattle.lego_msg.specs.Maps.{home_key}
use Rattle.lego_msg.specs.Marks.{Call, Mark, Order}
use Rattle.lego_msg.specs.Plain.{effect}
use Rattle.lego_msg.specs.Replies.{IsReply}
use Rattle.lego_msg.specs.Run.{after, run}
use Rattle.lego_msg.specs.Track.{Track}
use Rattle.lego_msg.specs.declared.event.Event.{Event}
use Rattle.lego_msg.specs.declared.event.Event.TheVariants.{Complete, Crash, Deliver, Send}
use Rattle.lego_msg.specs.declared.message.Message.{Message}
use Rattle.lego_msg.specs.declared.operation.Answer.{Answer}
use Rattle.lego_msg.specs.declared.operation.Open.{Open}
use Rattle.lego_rest.specs.Rest.{AtRest, Middle}

abbrev pub IsNoCrash : Event → Type 0
IsNoCrash (Crash number inc) = ⊥
IsNoCrash other = Unit {0}

-- the table of owners with those that come with an operation
abbrev pub owners_with : Order → List HomeEntry → List HomeEntry
owners_with o owners = put_all home_key o.owners owners

-- Where the event is the first message of an operation that is called for, the operation is granted.
abbrev pub BeginsGranted : Track → List Message → Option Open → List Mark → Type 0
BeginsGranted t [] None (Call o ∷ due) = Granted t o.by o.operation (owners_with o t.owners)
BeginsGranted t owed current due = Unit {0}

abbrev pub IsGranted : Track → Event → Type 0
IsGranted t (Send m) = BeginsGranted t t.owed t.current t.due
IsGranted t other = Unit {0}

-- EVERY EVENT but a crash keeps the relation, whichever operation is open.
abbrev pub EventsKeep : Type 0
EventsKeep = (t : Track) (e : Event) → May t e → IsNoCrash e → IsGranted t e → t.healing ≡ None → Middle None t →
    Middle None (after t e) × ((after t e).healing ≡ None)

-- and so does every legal list without a crash, of which each operation is granted where it begins
abbrev pub GrantedAlong : Track → List Event → Type 0
GrantedAlong t [] = Unit {0}
GrantedAlong t (e ∷ events) = IsNoCrash e × IsGranted t e × GrantedAlong (after t e) events

abbrev pub ListsKeep : Type 0
ListsKeep = (t : Track) (events : List Event) → AtRest t → Legal t events → GrantedAlong t events →
    Middle None (run t events) × ((run t events).healing ≡ None)

-- Where nothing is open at its end and nothing was refused, all is at rest again.
abbrev pub ListsEndAtRest : Type 0
ListsEndAtRest = (t : Track) (events : List Event) → AtRest t → Legal t events → GrantedAlong t events →
    (run t events).current ≡ None → (run t events).stopped ≡ false → AtRest (run t events)

-- AN OPERATION: it is due at rest, and granted; then come sends and deliveries from its first message on, and its completion
pub record IsDue (t : Track) (o : Order) (rest : List Mark) : Type 0 where
  pub rests : AtRest t
  pub due : t.due ≡ Call o ∷ rest
  pub granted : Granted t o.by o.operation (owners_with o t.owners)

abbrev pub IsOfMessages : Event → Type 0
IsOfMessages (Send m) = Unit {0}
IsOfMessages (Deliver m) = Unit {0}
IsOfMessages other = ⊥

-- what holds while it is open: every answer that was noted says what is so of the plain map before it
pub record StandsOpen (t : Track) (o : Order) (rest : List Mark) (now : Track) : Type 0 where
  pub one : Open
  pub current : now.current ≡ Some one
  pub operation : one.operation ≡ o.operation
  pub by : one.by ≡ o.by
  pub plain : now.plain ≡ t.plain
  pub owners : now.owners ≡ owners_with o t.owners
  pub due : now.due ≡ rest
  pub answers : AllByRecursion (λ (a : Answer). IsReply t.plain o.operation a.body) one.answers

abbrev pub AnswersAreTrue : Type 0
AnswersAreTrue = (t : Track) (o : Order) (rest : List Mark) (m : Message) (events : List Event) →
    IsDue t o rest → Legal t (Send m ∷ events) → AllByRecursion IsOfMessages events → StandsOpen t o rest (run t (Send m ∷ events))

-- and once it is complete: all is at rest again, and its effect on the plain map is all that is new
pub record LedBack (t : Track) (o : Order) (rest : List Mark) (now : Track) : Type 0 where
  pub rests : AtRest now
  pub plain : now.plain ≡ effect o.operation t.plain
  pub owners : now.owners ≡ owners_after o.operation (owners_with o t.owners)
  pub due : now.due ≡ rest

abbrev pub LeadsBack : Type 0
LeadsBack = (t : Track) (o : Order) (rest : List Mark) (events : List Event) (op : OpNo) →
    IsDue t o rest → Legal t (events ++ Complete op ∷ []) → AllByRecursion IsOfMessages events → LedBack t o rest (run t (events ++ Complete op ∷ []))
