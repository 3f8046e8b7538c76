use Rattle.lego_msg.proofs.Coming.{played-is-legal}
use Rattle.lego_msg.proofs.laws.played_lists_are_legal.Goals as goal

pub returns : goal.returns
returns c = played-is-legal
