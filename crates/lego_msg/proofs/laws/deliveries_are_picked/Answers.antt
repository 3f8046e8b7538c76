use Rattle.lego_msg.proofs.Flow.{deliveries-are-picked}
use Rattle.lego_msg.proofs.laws.deliveries_are_picked.Goals as goal

pub returns : goal.returns
returns c = deliveries-are-picked
