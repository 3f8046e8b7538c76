use Rattle.area_list.proofs.Unique.{put-sets}
use Rattle.area_list.proofs.laws.put_sets_a_range.Goals as goal

pub returns : goal.returns
returns c = put-sets
