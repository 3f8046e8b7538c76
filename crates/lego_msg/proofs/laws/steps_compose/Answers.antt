use Rattle.lego_msg.proofs.Going.{steps-compose}
use Rattle.lego_msg.proofs.laws.steps_compose.Goals as goal

pub returns : goal.returns
returns g c = steps-compose g.W.Watch.told g.W.Watch.faults
