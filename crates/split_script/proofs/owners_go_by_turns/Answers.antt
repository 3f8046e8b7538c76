use Rattle.split_script.proofs.Owning.{own}
use Rattle.split_script.proofs.owners_go_by_turns.Goals as goal

pub returns : goal.returns
returns c = own
