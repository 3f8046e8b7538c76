-- The slots of a cache's sets are those in which lines are kept, and each set has one.
use Rattle.std.specs.Prelude.{◌+◌, ◌<◌, [], ◌∷◌, ℕ, List, length}
use Rattle.cache_tags.specs.Sets.{SetLines}
use Rattle.cache_tags.specs.declared.set.Held.{Held}

abbrev pub LinesBelow : ℕ → List Held → Type 0
LinesBelow n [] = Unit {0}
LinesBelow n (h ∷ lines) = (h.slot < n) × LinesBelow n lines

abbrev pub SlotsBelow : ℕ → List ℕ → Type 0
SlotsBelow n [] = Unit {0}
SlotsBelow n (slot ∷ slots) = (slot < n) × SlotsBelow n slots

-- a set has a slot at least, and each is below a bound
pub record SetFits (n : ℕ) (s : SetLines) : Type 0 where
  pub some : 0 < length s.lines + length s.free
  pub lines : LinesBelow n s.lines
  pub free : SlotsBelow n s.free

abbrev pub EachFits : ℕ → List SetLines → Type 0
EachFits n [] = Unit {0}
EachFits n (s ∷ sets) = SetFits n s × EachFits n sets

pub record SetsFit (n : ℕ) (sets : List SetLines) : Type 0 where
  pub some : 0 < length sets
  pub each : EachFits n sets
