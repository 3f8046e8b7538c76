use Rattle.linux_model.proofs.Holding.{held_goes_alone}
use Rattle.linux_model.proofs.what_is_held_goes_alone.Goals as goal

pub returns : goal.returns
returns c = held_goes_alone
