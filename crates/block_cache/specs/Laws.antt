-- Reads with the cache give the bytes that reads without it give.
use Rattle.std.specs.Prelude.{◌≡◌, ℕ, List, Some}
use Rattle.std.specs.List.{AllByRecursion}
use Rattle.lego_base.specs.Files.{File, file_bytes}
use Rattle.lego_msg.specs.Files.{block_of}
use Rattle.lego_msg.specs.State.{Block}
use Rattle.lego_msg.specs.Table.{block_in}
use Rattle.block_cache.specs.Cache.{Cache, dropped, dropped_file, filled, used}

-- each block is that of its file
abbrev pub AreOf : List File → Cache → Type 0
AreOf files c = AllByRecursion (λ (b : Block). b.bytes ≡ block_of (file_bytes files b.file) b.block) c.blocks

pub record ReadsAreTheFiles : Type 0 where
  -- a block that is held is what storage would give
  pub held : (files : List File) (c : Cache) (file block : ℕ) (bytes : List ℕ) → AreOf files c → block_in file block c.blocks ≡ Some bytes → bytes ≡ block_of (file_bytes files file) block
  -- this stays so where a block is used, where one comes from storage, and where blocks are dropped
  pub used : (files : List File) (c : Cache) (file block : ℕ) → AreOf files c → AreOf files (used c file block)
  pub filled : (files : List File) (c : Cache) (file block : ℕ) → AreOf files c → AreOf files (filled c file block (block_of (file_bytes files file) block))
  pub dropped : (files : List File) (c : Cache) (file block : ℕ) → AreOf files c → AreOf files (dropped c file block)
  pub dropped_file : (files : List File) (c : Cache) (file : ℕ) → AreOf files c → AreOf files (dropped_file c file)
