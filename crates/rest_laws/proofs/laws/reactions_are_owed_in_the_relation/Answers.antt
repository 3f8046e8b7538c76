use Rattle.rest_laws.proofs.Reacted.{reaction-is-owed}
use Rattle.rest_laws.proofs.laws.reactions_are_owed_in_the_relation.Goals as goal

pub returns : goal.returns
returns c = reaction-is-owed
