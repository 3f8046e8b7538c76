use Rattle.healing_laws.proofs.MoveBegins.{move-begins}
use Rattle.healing_laws.proofs.laws.moves_begin_in_the_relation.Goals as goal

pub returns : goal.returns
returns c = move-begins
