use Rattle.lego_rest.proofs.Resting.{rest-is-of-components}
use Rattle.lego_rest.proofs.laws.rest_is_of_the_components.Goals as goal

pub returns : goal.returns
returns c = rest-is-of-components
