use Rattle.healing_laws.proofs.Refuses.{refusals-have-causes-there}
use Rattle.healing_laws.proofs.laws.refusals_have_causes_through_crashes.Goals as goal

pub returns : goal.returns
returns c = refusals-have-causes-there
