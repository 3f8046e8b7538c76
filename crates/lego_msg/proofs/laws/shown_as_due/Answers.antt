use Rattle.lego_msg.proofs.Shows.{shown-as-due}
use Rattle.lego_msg.proofs.laws.shown_as_due.Goals as goal

pub returns : goal.returns
returns c = shown-as-due
