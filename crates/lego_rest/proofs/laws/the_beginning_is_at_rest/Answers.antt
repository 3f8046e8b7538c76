use Rattle.lego_rest.proofs.Resting.{start-rests}
use Rattle.lego_rest.proofs.laws.the_beginning_is_at_rest.Goals as goal

pub returns : goal.returns
returns c = start-rests
