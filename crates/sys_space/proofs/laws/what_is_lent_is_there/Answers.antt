use Rattle.sys_space.proofs.Lent.{lent_is_there}
use Rattle.sys_space.proofs.laws.what_is_lent_is_there.Goals as goal

pub returns : goal.returns
returns c = lent_is_there
