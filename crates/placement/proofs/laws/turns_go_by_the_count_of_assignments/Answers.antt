use Rattle.placement.proofs.Placed.{turns-go-by-the-count}
use Rattle.placement.proofs.laws.turns_go_by_the_count_of_assignments.Goals as goal

pub returns : goal.returns
returns c = turns-go-by-the-count
