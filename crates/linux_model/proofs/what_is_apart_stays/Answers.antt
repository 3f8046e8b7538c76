use Rattle.linux_model.proofs.Holding.{apart_stays}
use Rattle.linux_model.proofs.what_is_apart_stays.Goals as goal

pub returns : goal.returns
returns c = apart_stays
