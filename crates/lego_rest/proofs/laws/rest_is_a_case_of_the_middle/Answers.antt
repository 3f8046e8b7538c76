use Rattle.lego_rest.proofs.Resting.{rest-is-middle}
use Rattle.lego_rest.proofs.laws.rest_is_a_case_of_the_middle.Goals as goal

pub returns : goal.returns
returns c = rest-is-middle
