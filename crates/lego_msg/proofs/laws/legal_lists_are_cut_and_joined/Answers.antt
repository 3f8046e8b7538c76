use Rattle.lego_msg.proofs.Lists.{cut-and-joined}
use Rattle.lego_msg.proofs.laws.legal_lists_are_cut_and_joined.Goals as goal

pub returns : goal.returns
returns c = cut-and-joined
