use Rattle.placement.proofs.Placed.{assigned-is-found}
use Rattle.placement.proofs.laws.owners_are_found_where_assigned.Goals as goal

pub returns : goal.returns
returns c = assigned-is-found
