-- Each message on its way to a memory or to storage is in form for its receiver, also while a memory is healed.
use Rattle.std.specs.List.{AllByRecursion}
use Rattle.std.specs.Prelude.{◌≡◌, List, false}
use Rattle.lego_msg.specs.Legal.{Legal}
use Rattle.lego_msg.specs.Run.{run}
use Rattle.lego_msg.specs.Track.{Track}
use Rattle.lego_msg.specs.declared.event.Event.{Event}
use Rattle.lego_rest.specs.Rest.{AtRest}
use Rattle.rest_laws.specs.Forms.{IsFormed}
use Rattle.healing_laws.specs.Running.{GrantedAll, InRelation}

-- in the relation, until a refusal stops the run
abbrev pub MessagesStayInForm : Type 0
MessagesStayInForm = (t : Track) → t.stopped ≡ false → InRelation t → AllByRecursion (IsFormed t.disk) t.net

-- and so at every moment of a legal list
abbrev pub ListsKeepMessagesInForm : Type 0
ListsKeepMessagesInForm = (t : Track) (events : List Event) → AtRest t → Legal t events → GrantedAll t events → (run t events).stopped ≡ false → AllByRecursion (IsFormed (run t events).disk) (run t events).net
