use Rattle.lego_msg.proofs.Coming.{next-may-come}
use Rattle.lego_msg.proofs.laws.the_next_event_may_come.Goals as goal

pub returns : goal.returns
returns c = next-may-come
