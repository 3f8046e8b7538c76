use Rattle.rest_laws.proofs.Stepping.{shift-keeps}
use Rattle.rest_laws.proofs.laws.steps_of_messages_keep_the_relation.Goals as goal

pub returns : goal.returns
returns c = shift-keeps
