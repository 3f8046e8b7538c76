use Rattle.std.proofs.Common.{◌≡◌, ℕ, is_some, true}
use Rattle.lego_msg.specs.Table.{block_in, without_blocks}
use Rattle.block_cache.specs.Cache.{blocks_of}
use Rattle.block_cache.proofs.blocks.block_of_file.Given as goal

abbrev pub invariant-loop-key : goal.invariant-loop-key
invariant-loop-key l =
    (goal.iterator-loop-key).can_next l.key-iterator
    × (goal.iterator-loop-key).is_finite l.key-iterator
    × ((block : ℕ) → is_some (block_in l.file block (blocks_of l.key-iterator)) ≡ true → is_some (block_in l.file block (blocks_of l.map.entries)) ≡ true)
    × (without_blocks l.file (blocks_of l.key-iterator) ≡ blocks_of l.key-iterator → without_blocks l.file (blocks_of l.map.entries) ≡ blocks_of l.map.entries)
