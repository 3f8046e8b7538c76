use Rattle.lego_msg.proofs.Moments.{completions-are-first}
use Rattle.lego_msg.proofs.laws.completions_are_first.Goals as goal

pub returns : goal.returns
returns c = completions-are-first
