use Rattle.linux_model.proofs.Growth.{output_grows}
use Rattle.linux_model.proofs.output_only_grows.Goals as goal

pub returns : goal.returns
returns c = output_grows
