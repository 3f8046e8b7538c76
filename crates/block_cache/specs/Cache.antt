-- What contracts see of a block cache: its room and its blocks, newest first, as lego_msg's memory has them.
use Rattle.std.specs.Prelude.{◌∷◌, ℕ, List, None, Option, Some, map, take}
use Rattle.lego_msg.specs.State.{Block}
use Rattle.lego_msg.specs.Table.{block_in, without_block, without_blocks}

pub record Cache : Type 0 where
  pub room : ℕ
  pub blocks : List Block

-- a block stands first; where there are too many, the last ones go
abbrev pub with_first : ℕ → ℕ → ℕ → List ℕ → List Block → List Block
with_first room file block bytes blocks = take room (record { file = file; block = block; bytes = bytes } ∷ without_block file block blocks)

-- a block that is held stands first, and one that isn't changes nothing
abbrev pub first_where : Option (List ℕ) → ℕ → ℕ → ℕ → List Block → List Block
first_where None room file block blocks = blocks
first_where (Some bytes) room file block blocks = with_first room file block bytes blocks

abbrev pub touched : ℕ → ℕ → ℕ → List Block → List Block
touched room file block blocks = first_where (block_in file block blocks) room file block blocks

abbrev pub filled : Cache → ℕ → ℕ → List ℕ → Cache
filled c file block bytes = record c { blocks = with_first c.room file block bytes c.blocks }

abbrev pub used : Cache → ℕ → ℕ → Cache
used c file block = record c { blocks = touched c.room file block c.blocks }

abbrev pub dropped : Cache → ℕ → ℕ → Cache
dropped c file block = record c { blocks = without_block file block c.blocks }

abbrev pub dropped_file : Cache → ℕ → Cache
dropped_file c file = record c { blocks = without_blocks file c.blocks }

-- an entry of the map, as a block
abbrev pub block_of : ((ℕ × ℕ) × List ℕ) → Block
block_of e = record { file = e.0.0; block = e.0.1; bytes = e.1 }

abbrev pub blocks_of : List ((ℕ × ℕ) × List ℕ) → List Block
blocks_of entries = map block_of entries
