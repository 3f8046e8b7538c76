use Rattle.kernel_laws.proofs.Runs.{few}
use Rattle.kernel_laws.proofs.pids_are_few.Goals as goal

pub returns : goal.returns
returns c = few
