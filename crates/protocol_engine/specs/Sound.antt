-- What the engine asks of the track that it plays on, and what it says of an operation that was open.
use Rattle.std.specs.Prelude.{◌≡◌, List, Some, true}
use Rattle.healing_laws.specs.Playing.{IsPlayable}
use Rattle.lego_msg.specs.Legal.{Legal}
use Rattle.lego_msg.specs.Run.{run}
use Rattle.lego_msg.specs.Track.{Track, is_complete}
use Rattle.lego_msg.specs.declared.event.Event.{Event}
use Rattle.lego_msg.specs.declared.operation.Open.{Open}

-- Every legal list from a sound track leads to a playable one.
abbrev pub Sound : Track → Type 0
Sound t = (es : List Event) → Legal t es → IsPlayable (run t es)

-- The operation was open and complete, with all that it was answered, and the plain map was the same then.
pub record WasOpen (t : Track) (o : Open) : Type 0 where
  pub events : List Event
  pub legal : Legal t events
  pub open_ : (run t events).current ≡ Some o
  pub complete : is_complete (run t events).net o ≡ true
  pub plain : (run t events).plain ≡ t.plain
