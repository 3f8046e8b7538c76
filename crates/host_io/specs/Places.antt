-- Where a list of entries has a name.
use Rattle.std.specs.Prelude.{◌≡◌, ℕ, ◌<◌, true, false, List, length, slice_index_or}
use Rattle.std.specs.Str.{bytes_eq}
use Rattle.lego_base.specs.declared.report.FileOut.{FileOut}

-- none of the first n entries has the name
abbrev pub NoneBefore : List FileOut → List ℕ → ℕ → Type 0
NoneBefore files name n = (k : ℕ) (d : FileOut) → k < n → bytes_eq name (slice_index_or files k d).name ≡ false

-- the entry at i is the first one with the name
pub record IsPlace (files : List FileOut) (name : List ℕ) (i : ℕ) : Type 0 where
  pub within : i < length files
  pub named : (d : FileOut) → bytes_eq name (slice_index_or files i d).name ≡ true
  pub first : NoneBefore files name i
