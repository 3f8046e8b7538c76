use Rattle.rest_laws.proofs.OfComponents.{plain-is-of-components}
use Rattle.rest_laws.proofs.laws.the_plain_map_is_of_the_components.Goals as goal

pub returns : goal.returns
returns c = plain-is-of-components
