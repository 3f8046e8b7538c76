use Rattle.net_fabric.proofs.Choosing.{by-choice}
use Rattle.net_fabric.proofs.laws.choices_follow_the_list.Goals as goal

pub returns : goal.returns
returns c = by-choice
