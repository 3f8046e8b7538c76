use Rattle.rest_laws.proofs.Leads.{answers-are-true}
use Rattle.rest_laws.proofs.laws.answers_say_what_is_so.Goals as goal

pub returns : goal.returns
returns c = answers-are-true
