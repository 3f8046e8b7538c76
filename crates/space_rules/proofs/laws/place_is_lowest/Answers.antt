use Rattle.space_rules.proofs.LowestPlace.{lowest_place}
use Rattle.space_rules.proofs.laws.place_is_lowest.Goals as goal

pub returns : goal.returns
returns c = lowest_place
