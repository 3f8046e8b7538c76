use Rattle.std.proofs.Common.{◌∙◌}
use Rattle.block_cache.proofs.Entries.{lookup_is}
use Rattle.block_cache.proofs.blocks.peek.Goals as goal

pub returns : goal.returns
returns c = c.peek.ensures ∙ lookup_is c.args.key c.args.map.now.entries
