-- The spaces that a flat memory holds.
use Rattle.std.specs.Prelude.{◌≡◌, ℕ, zero, suc, List, [], ◌∷◌, Option, Some, None, true, false}
use Rattle.lego_base.specs.Space.{Space, no_space, permits, bytes_at, number_of}
use Rattle.rv64_step.specs.Access.{to_fetch}
use Rattle.area_list.specs.Runs.{cut_runs}
use Rattle.flat_memory.specs.Pieces.{start_in, byte_in, cleared}
use Rattle.flat_memory.specs.declared.space.FlatSpace.{FlatSpace}
use Rattle.flat_memory.specs.declared.memory.FlatMemory.{FlatMemory}

-- what a space holds
abbrev pub space_of : FlatSpace → Space
space_of space = record { areas = space.areas; byte = byte_in (start_in space.starts) space.bytes.items }

-- a space in which n pages, starting at one, aren't mapped and read 0
abbrev pub unmapped : ℕ → ℕ → Space → Space
unmapped first pages space = record { areas = cut_runs first pages space.areas; byte = cleared first pages space.byte }

-- a space after what changes only where its pages are found
pub record Keeps (old new : FlatSpace) : Type 0 where
  pub areas : new.areas ≡ old.areas
  pub starts : new.starts ≡ old.starts
  pub bytes : new.bytes ≡ old.bytes

-- by pid, in a list of spaces: past its end there is none
unfoldable pub space_at : List (Option FlatSpace) → ℕ → Space
space_at [] pid = no_space
space_at (None ∷ spaces) zero = no_space
space_at (Some space ∷ spaces) zero = space_of space
space_at (other ∷ spaces) (suc pid) = space_at spaces pid

-- by pid
abbrev pub spaces_of : FlatMemory → ℕ → Space
spaces_of memory pid = space_at memory.spaces.items pid

-- the word of a fetch
abbrev pub FetchedWord : Space → ℕ → Option ℕ → Type 0
FetchedWord space address (Some word) = (permits space to_fetch address 4 ≡ true) × (word ≡ number_of (bytes_at space address 4))
FetchedWord space address None = permits space to_fetch address 4 ≡ false
