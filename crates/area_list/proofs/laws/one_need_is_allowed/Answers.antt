use Rattle.area_list.proofs.Covers.{has-one}
use Rattle.area_list.proofs.laws.one_need_is_allowed.Goals as goal

pub returns : goal.returns
returns c = has-one
