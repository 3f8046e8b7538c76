use Rattle.linux_model.proofs.Growth.{end_stays}
use Rattle.linux_model.proofs.the_end_is_the_end.Goals as goal

pub returns : goal.returns
returns c = end_stays
