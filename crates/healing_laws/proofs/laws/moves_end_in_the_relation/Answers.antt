use Rattle.healing_laws.proofs.MoveEnds.{move-ends}
use Rattle.healing_laws.proofs.laws.moves_end_in_the_relation.Goals as goal

pub returns : goal.returns
returns c = move-ends
