-- Every event keeps the relation between the components and the plain map, crashes and healing included; and so does every
-- legal list.
use Rattle.std.specs.Prelude.{◌≡◌, [], ◌∷◌, ℕ, List, None, Option, Some, false}
use Rattle.lego_msg.specs.Legal.{Legal, May}
use Rattle.lego_msg.specs.Marks.{Mark}
use Rattle.lego_msg.specs.Run.{after, run}
use Rattle.lego_msg.specs.Track.{Track}
use Rattle.lego_msg.specs.declared.event.Event.{Event}
use Rattle.lego_msg.specs.declared.event.Event.TheVariants.{Send}
use Rattle.lego_msg.specs.declared.healing.Healing.{Healing}
use Rattle.lego_msg.specs.declared.message.Message.{Message}
use Rattle.lego_msg.specs.Marks.{Mark, Order}
use Rattle.lego_rest.specs.Rest.{AtRest, Middle}
use Rattle.rest_laws.specs.GoingOn.{BeginsGranted, IsDue, LedBack}

-- the memory that is lost is the one that is being healed
abbrev pub lost_in : Option Healing → Option ℕ
lost_in None = None
lost_in (Some h) = Some h.memory.0

abbrev pub InRelation : Track → Type 0
InRelation t = Middle (lost_in t.healing) t

-- Where the event is the first message of an operation that is called for, the operation is granted. While a memory is
-- healed none begins.
abbrev pub GrantedBeside : Track → Option Healing → Type 0
GrantedBeside t None = BeginsGranted t t.owed t.current t.due
GrantedBeside t (Some h) = Unit {0}

abbrev pub IsGrantedThere : Track → Event → Type 0
IsGrantedThere t (Send m) = GrantedBeside t t.healing
IsGrantedThere t other = Unit {0}

-- EVERY EVENT keeps it
abbrev pub EveryEventKeeps : Type 0
EveryEventKeeps = (t : Track) (e : Event) → May t e → IsGrantedThere t e → InRelation t → InRelation (after t e)

-- and every legal list, of which each operation is granted where it begins
abbrev pub GrantedAll : Track → List Event → Type 0
GrantedAll t [] = Unit {0}
GrantedAll t (e ∷ events) = IsGrantedThere t e × GrantedAll (after t e) events

abbrev pub EveryListKeeps : Type 0
EveryListKeeps = (t : Track) (events : List Event) → AtRest t → Legal t events → GrantedAll t events → InRelation (run t events)

-- nothing is open, nothing heals, and nothing was refused
pub record IsOver (now : Track) : Type 0 where
  pub closed : now.current ≡ None
  pub healed : now.healing ≡ None
  pub goes_on : now.stopped ≡ false

-- There all is at rest again.
abbrev pub EveryListEndsAtRest : Type 0
EveryListEndsAtRest = (t : Track) (events : List Event) → AtRest t → Legal t events → GrantedAll t events → IsOver (run t events) → AtRest (run t events)

-- AN OPERATION that is due at rest, and granted, leads back to rest through every legal list of events, crashes and healing
-- among them, after which the marks that follow it are still due; its effect on the plain map is all that is new.
abbrev pub LeadsBackThroughCrashes : Type 0
LeadsBackThroughCrashes = (t : Track) (o : Order) (rest : List Mark) (m : Message) (events : List Event) →
    IsDue t o rest → Legal t (Send m ∷ events) → (run t (Send m ∷ events)).due ≡ rest → IsOver (run t (Send m ∷ events)) → LedBack t o rest (run t (Send m ∷ events))
