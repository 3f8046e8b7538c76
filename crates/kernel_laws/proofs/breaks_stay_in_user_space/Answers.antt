use Rattle.kernel_laws.proofs.Runs.{breaks_stay}
use Rattle.kernel_laws.proofs.breaks_stay_in_user_space.Goals as goal

pub returns : goal.returns
returns c = breaks_stay
