use Rattle.heal_steps.proofs.Moves.{moves-are-those-of-healing}
use Rattle.heal_steps.proofs.laws.all_moves_are_those_of_healing.Goals as goal

pub returns : goal.returns
returns c = moves-are-those-of-healing
