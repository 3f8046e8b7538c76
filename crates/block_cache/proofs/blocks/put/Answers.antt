use Rattle.std.proofs.Common.{◌∙◌, ap}
use Rattle.block_cache.proofs.Entries.{put_is}
use Rattle.block_cache.specs.Cache.{blocks_of}
use Rattle.block_cache.proofs.blocks.put.Goals as goal

pub returns-clause-ok : goal.returns-clause-ok
returns-clause-ok c = ap (λ m. blocks_of m.entries) c.in_ok-put.ensures.entries ∙ put_is c.args.map.now c.args.key c.args.bytes c.len-held.ensures.valid.0 c.len-held.ensures.valid.1 c.len-held.ensures.valid.2
