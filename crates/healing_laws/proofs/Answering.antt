-- Answers say what is so of the plain map, crashes and healing included.
use Rattle.std.proofs.Common.{subst}
use Rattle.lego_msg.specs.Run.{run}
use Rattle.lego_msg.specs.Track.{memory_count}
use Rattle.lego_rest.specs.Rest.{CurrentFits}
use Rattle.rest_laws.proofs.Leads.{says_reply}
use Rattle.rest_laws.proofs.Opened.{every}
use Rattle.healing_laws.proofs.Events.{every-list-keeps}
use Rattle.healing_laws.specs.Answering.{AnswersAreTrueThere}

pub answers-are-true-there : AnswersAreTrueThere
answers-are-true-there t events o rest legal granted is =
    let middle = every-list-keeps t events rest legal granted in
    let fits = subst (CurrentFits (run t events)) is middle.current in
    every (λ a fit. says_reply (memory_count (run t events).shape) (run t events).plain o.operation a.place a.body fit.says) o.answers fits.0.answers
