use Rattle.rest_laws.proofs.Crashed.{crash-begins}
use Rattle.rest_laws.proofs.laws.crashes_begin_in_the_relation.Goals as goal

pub returns : goal.returns
returns c = crash-begins
