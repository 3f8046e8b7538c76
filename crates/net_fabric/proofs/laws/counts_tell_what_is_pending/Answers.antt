use Rattle.net_fabric.proofs.Choosing.{counts-tell}
use Rattle.net_fabric.proofs.laws.counts_tell_what_is_pending.Goals as goal

pub returns : goal.returns
returns c = counts-tell
