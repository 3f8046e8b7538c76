use Rattle.rest_laws.proofs.Dropped.{old-is-dropped}
use Rattle.rest_laws.proofs.laws.answers_to_nobody_are_dropped_in_the_relation.Goals as goal

pub returns : goal.returns
returns c = old-is-dropped
