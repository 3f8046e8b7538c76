use Rattle.rest_laws.proofs.Forward.{something-comes}
use Rattle.rest_laws.proofs.laws.something_comes.Goals as goal

pub returns : goal.returns
returns c = something-comes
