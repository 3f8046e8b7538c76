use Rattle.lego_msg.proofs.Single.{one-may-come}
use Rattle.lego_msg.proofs.laws.one_event_may_come.Goals as goal

pub returns : goal.returns
returns c = one-may-come
