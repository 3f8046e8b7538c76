use Rattle.std.proofs.Common.{◌∙◌, ap, is_some}
use Rattle.block_cache.proofs.Entries.{lookup_is, touch_is}
use Rattle.block_cache.specs.Cache.{blocks_of}
use Rattle.block_cache.proofs.blocks.touch.Goals as goal

pub returns-clause-held : goal.returns-clause-held
returns-clause-held c = c.promote.ensures.value ∙ ap is_some (lookup_is c.args.key c.args.map.now.entries)

pub returns-clause-blocks : goal.returns-clause-blocks
returns-clause-blocks c = ap (λ m. blocks_of m.entries) c.promote.ensures.entries ∙ touch_is c.args.map.now c.args.key c.len-held.ensures.valid.0 c.len-held.ensures.valid.1
