-- What holds of a table's own numbers.
use Rattle.std.specs.Prelude.{◌≡◌, ◌≤◌, ℕ, List}
use Rattle.lego_base.specs.Files.{File, blocks_needed}
use Rattle.file_table.specs.Numbers.{NumbersBelow}

-- the blocks that are in use are counted and are within those that there are, and no file has the next number or one above it
pub record Holds (blocks needed next : ℕ) (files : List File) : Type 0 where
  pub counted : needed ≡ blocks_needed files
  pub within : needed ≤ blocks
  pub new : NumbersBelow next files
