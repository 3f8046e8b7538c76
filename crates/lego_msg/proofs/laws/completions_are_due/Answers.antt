use Rattle.lego_msg.proofs.Moments.{completions-are-due}
use Rattle.lego_msg.proofs.laws.completions_are_due.Goals as goal

pub returns : goal.returns
returns c = completions-are-due
