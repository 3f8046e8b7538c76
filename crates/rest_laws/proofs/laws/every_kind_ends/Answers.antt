use Rattle.rest_laws.proofs.Ends.{every-kind-ends}
use Rattle.rest_laws.proofs.laws.every_kind_ends.Goals as goal

pub returns : goal.returns
returns c = every-kind-ends
