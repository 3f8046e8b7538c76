use Rattle.kernel_laws.proofs.Runs.{unborn}
use Rattle.kernel_laws.proofs.the_unborn_have_no_space.Goals as goal

pub returns : goal.returns
returns c = unborn
