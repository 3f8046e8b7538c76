use Rattle.linux_model.proofs.Flat.{flat_is}
use Rattle.linux_model.proofs.run_is_its_effects.Goals as goal

pub returns : goal.returns
returns c = flat_is
