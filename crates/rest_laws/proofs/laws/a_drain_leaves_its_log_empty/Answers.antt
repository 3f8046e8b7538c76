use Rattle.rest_laws.proofs.Dried.{drains-empty}
use Rattle.rest_laws.proofs.laws.a_drain_leaves_its_log_empty.Goals as goal

pub returns : goal.returns
returns c = drains-empty
