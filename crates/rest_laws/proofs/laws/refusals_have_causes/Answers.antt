use Rattle.rest_laws.proofs.Caused.{refusals-have-causes}
use Rattle.rest_laws.proofs.laws.refusals_have_causes.Goals as goal

pub returns : goal.returns
returns c = refusals-have-causes
