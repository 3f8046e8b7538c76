use Rattle.space_rules.proofs.Mapping.{image_maps}
use Rattle.space_rules.proofs.laws.image_maps_loads_and_stack.Goals as goal

pub returns : goal.returns
returns c = image_maps
