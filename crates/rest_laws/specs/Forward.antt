-- Where nothing is lost, an operation that isn't complete has something on its way.
use Rattle.std.specs.List.{AllByRecursion}
use Rattle.std.specs.Prelude.{◌≡◌, [], ◌∷◌, List, false, true}
use Rattle.lego_msg.specs.Deliveries.{is_sent}
use Rattle.lego_msg.specs.Legal.{Legal}
use Rattle.lego_msg.specs.Marks.{Mark, Order}
use Rattle.lego_msg.specs.Run.{run}
use Rattle.lego_msg.specs.Track.{Track, is_done}
use Rattle.lego_msg.specs.declared.event.Event.{Event}
use Rattle.lego_msg.specs.declared.event.Event.TheVariants.{Send}
use Rattle.lego_msg.specs.declared.message.Message.{Message}
use Rattle.rest_laws.specs.GoingOn.{IsDue, IsOfMessages}

-- all first messages are sent and nothing is owed, nothing was refused, and yet the operation isn't complete
pub record IsUnderWay (now : Track) : Type 0 where
  pub owed : now.owed ≡ []
  pub goes_on : now.stopped ≡ false
  pub sent : is_sent now.current ≡ true
  pub incomplete : is_done now.net now.current ≡ false

-- Then something is pending, and so its next event is a delivery.
abbrev pub SomethingComes : Type 0
SomethingComes = (t : Track) (o : Order) (rest : List Mark) (m : Message) (events : List Event) →
    IsDue t o rest → Legal t (Send m ∷ events) → AllByRecursion IsOfMessages events →
    IsUnderWay (run t (Send m ∷ events)) → (run t (Send m ∷ events)).net ≡ [] → ⊥
