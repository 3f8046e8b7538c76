use Rattle.lego_msg.proofs.Senders.{sends-follow}
use Rattle.lego_msg.proofs.laws.sends_follow_their_delivery.Goals as goal

pub returns : goal.returns
returns c = sends-follow
