use Rattle.rest_laws.proofs.Sends.{owed-is-sent}
use Rattle.rest_laws.proofs.laws.what_is_owed_is_sent_in_the_relation.Goals as goal

pub returns : goal.returns
returns c = owed-is-sent
