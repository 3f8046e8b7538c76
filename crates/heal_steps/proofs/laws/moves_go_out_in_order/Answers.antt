use Rattle.heal_steps.proofs.Moves.{moves-go-out-in-order}
use Rattle.heal_steps.proofs.laws.moves_go_out_in_order.Goals as goal

pub returns : goal.returns
returns c = moves-go-out-in-order
