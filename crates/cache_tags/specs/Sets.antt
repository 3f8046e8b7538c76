-- What contracts see of a cache's tags.
use Rattle.std.specs.Prelude.{ℕ, Bool, List}
use Rattle.cache_tags.specs.declared.set.Held.{Held}

-- a set: its lines, newest first, and its free slots, the next to be taken first
pub record SetLines : Type 0 where
  pub lines : List Held
  pub free : List ℕ

-- the sets, and by slot whether its line is dirty
pub record Tagged : Type 0 where
  pub sets : List SetLines
  pub dirty : List Bool

abbrev pub slot_of : Held → ℕ
slot_of h = h.slot
