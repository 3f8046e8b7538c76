use Rattle.split_script.proofs.Reading.{reading}
use Rattle.split_script.proofs.blocks_give_the_read.Goals as goal

pub returns : goal.returns
returns c = reading
