use Rattle.lego_rest.proofs.Resting.{middle-is-rest}
use Rattle.lego_rest.proofs.laws.the_middle_with_nothing_open_is_rest.Goals as goal

pub returns : goal.returns
returns c = middle-is-rest
