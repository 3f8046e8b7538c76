use Rattle.rest_laws.proofs.Sends.{first-is-sent}
use Rattle.rest_laws.proofs.laws.first_messages_are_sent_in_the_relation.Goals as goal

pub returns : goal.returns
returns c = first-is-sent
