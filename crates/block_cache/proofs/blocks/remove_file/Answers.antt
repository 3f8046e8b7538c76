use Rattle.std.proofs.Common.{◌∙◌, ap, arith, length}
use Rattle.lego_msg.specs.Table.{without_blocks}
use Rattle.block_cache.proofs.Entries.{fewer, without_both}
use Rattle.block_cache.specs.Cache.{blocks_of}
use Rattle.block_cache.proofs.blocks.remove_file.Goals as goal

pub loop-block-smaller : goal.loop-block-smaller
loop-block-smaller c =
    let less = fewer c.args.file c.in-Some.block (blocks_of c.loop-block.map.entries) c.in-Some.ensures.some in
    let is = ap length c.remove.ensures.blocks in
    omega (arith, less, is)

pub loop-block-preserved : goal.loop-block-preserved
loop-block-preserved c = (
  ap (without_blocks c.args.file) c.remove.ensures.blocks ∙ (without_both c.args.file c.in-Some.block (blocks_of c.loop-block.map.entries) ∙ c.loop-block.invariant.0),
  c.remove.ensures.cap ∙ c.loop-block.invariant.1,
)
