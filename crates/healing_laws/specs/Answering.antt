-- What the open operation's answers say, crashes and healing included. The plain map is that before the operation: it changes
-- only with a completion.
use Rattle.std.specs.List.{AllByRecursion}
use Rattle.std.specs.Prelude.{◌≡◌, List, Some}
use Rattle.lego_msg.specs.Legal.{Legal}
use Rattle.lego_msg.specs.Replies.{IsReply}
use Rattle.lego_msg.specs.Run.{run}
use Rattle.lego_msg.specs.Track.{Track}
use Rattle.lego_msg.specs.declared.event.Event.{Event}
use Rattle.lego_msg.specs.declared.operation.Answer.{Answer}
use Rattle.lego_msg.specs.declared.operation.Open.{Open}
use Rattle.lego_rest.specs.Rest.{AtRest}
use Rattle.healing_laws.specs.Running.{GrantedAll}

abbrev pub AnswersAreTrueThere : Type 0
AnswersAreTrueThere = (t : Track) (events : List Event) (o : Open) → AtRest t → Legal t events → GrantedAll t events → (run t events).current ≡ Some o →
    AllByRecursion (λ (a : Answer). IsReply (run t events).plain o.operation a.body) o.answers
