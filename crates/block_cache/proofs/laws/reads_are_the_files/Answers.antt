use Rattle.block_cache.proofs.Found.{reads-are}
use Rattle.block_cache.proofs.laws.reads_are_the_files.Goals as goal

pub returns : goal.returns
returns c = reads-are
