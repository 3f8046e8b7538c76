use Rattle.split_script.proofs.Wholes.{wholes}
use Rattle.split_script.proofs.parts_make_the_whole.Goals as goal

pub returns : goal.returns
returns c = wholes
