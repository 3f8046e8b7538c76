use Rattle.std.proofs.Common.{◌≡◌, length}
use Rattle.lego_msg.specs.Table.{without_blocks}
use Rattle.block_cache.specs.Cache.{blocks_of}
use Rattle.block_cache.proofs.blocks.remove_file.Given as goal

abbrev pub invariant-loop-block : goal.invariant-loop-block
invariant-loop-block l =
    (without_blocks l.file (blocks_of l.map.entries) ≡ without_blocks l.file (blocks_of l.initial.map.entries))
    × (l.map.cap ≡ l.initial.map.cap)

abbrev pub decreases-loop-block : goal.decreases-loop-block
decreases-loop-block l = length (blocks_of l.map.entries)
