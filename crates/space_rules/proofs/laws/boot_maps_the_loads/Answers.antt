use Rattle.space_rules.proofs.Mapping.{boot_maps}
use Rattle.space_rules.proofs.laws.boot_maps_the_loads.Goals as goal

pub returns : goal.returns
returns c = boot_maps
