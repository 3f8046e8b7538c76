use Rattle.linux_model.proofs.Managing.{managed_goes_alone, others_stay}
use Rattle.linux_model.proofs.what_is_managed_goes_alone.Goals as goal

pub returns : goal.returns
returns c = record { alone = managed_goes_alone; others = others_stay }
