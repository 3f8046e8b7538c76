use Rattle.area_list.proofs.Unique.{cut-clears}
use Rattle.area_list.proofs.laws.cut_clears_a_range.Goals as goal

pub returns : goal.returns
returns c = cut-clears
