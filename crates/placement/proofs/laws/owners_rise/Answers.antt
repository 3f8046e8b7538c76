use Rattle.placement.proofs.Placed.{owners-rise}
use Rattle.placement.proofs.laws.owners_rise.Goals as goal

pub returns : goal.returns
returns c = owners-rise
