use Rattle.lego_msg.proofs.Judging.{completions-are-by-the-list}
use Rattle.lego_msg.proofs.laws.completions_are_by_the_list.Goals as goal

pub returns : goal.returns
returns c = completions-are-by-the-list
