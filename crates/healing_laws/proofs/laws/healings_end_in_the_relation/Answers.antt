use Rattle.healing_laws.proofs.HealingEnds.{healing-ends}
use Rattle.healing_laws.proofs.laws.healings_end_in_the_relation.Goals as goal

pub returns : goal.returns
returns c = healing-ends
