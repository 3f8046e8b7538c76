use Rattle.split_script.proofs.Blocks.{blocks}
use Rattle.split_script.proofs.blocks_make_the_file.Goals as goal

pub returns : goal.returns
returns c = blocks
