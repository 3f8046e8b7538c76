use Rattle.linux_model.proofs.Booting.{booting}
use Rattle.linux_model.proofs.booting_starts_the_first.Goals as goal

pub returns : goal.returns
returns c = booting
