use Rattle.std.proofs.Common.{◌∙◌, ap}
use Rattle.block_cache.proofs.Entries.{remove_is}
use Rattle.block_cache.specs.Cache.{blocks_of}
use Rattle.block_cache.proofs.blocks.remove.Goals as goal

pub returns-clause-blocks : goal.returns-clause-blocks
returns-clause-blocks c = ap (λ m. blocks_of m.entries) c.pop-bytes.ensures.entries ∙ remove_is c.args.key c.args.map.now.entries c.len-held.ensures.valid.0
