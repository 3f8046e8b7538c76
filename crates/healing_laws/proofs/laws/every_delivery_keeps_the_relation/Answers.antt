use Rattle.healing_laws.proofs.MoveDeliveries.{deliveries-keep}
use Rattle.healing_laws.proofs.laws.every_delivery_keeps_the_relation.Goals as goal

pub returns : goal.returns
returns c = deliveries-keep
