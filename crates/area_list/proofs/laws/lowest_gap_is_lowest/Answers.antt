use Rattle.area_list.proofs.Gaps.{gap-lowest}
use Rattle.area_list.proofs.laws.lowest_gap_is_lowest.Goals as goal

pub returns : goal.returns
returns c = gap-lowest
