use Rattle.healing_laws.proofs.BesideIssuer.{deliveries-beside}
use Rattle.healing_laws.proofs.laws.deliveries_beside_a_healing_keep_the_relation.Goals as goal

pub returns : goal.returns
returns c = deliveries-beside
