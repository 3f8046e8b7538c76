use Rattle.healing_laws.proofs.Lasting.{pending-refusals-have-causes}
use Rattle.healing_laws.proofs.laws.pending_refusals_have_causes.Goals as goal

pub returns : goal.returns
returns c = pending-refusals-have-causes
