use Rattle.rest_laws.proofs.Goes.{events-keep}
use Rattle.rest_laws.proofs.laws.every_event_keeps_the_relation.Goals as goal

pub returns : goal.returns
returns c = events-keep
