-- What a depot holds, where it tells it: a map from names to bytes. `None` is a depot that doesn't tell.
use Rattle.std.specs.Prelude.{◌≡◌, ◌≢◌, ℕ, List, Option, Some, None, Result, MatchResult, if◌then◌else◌}
use Rattle.std.specs.Str.{bytes_eq}

-- the bytes under each name, `None` for a name that isn't there
abbrev pub Files : Type 0
Files = List ℕ → Option (List ℕ)

-- what a depot tells: the bytes under each name, unless it doesn't tell them, and how often it failed
pub record DepotState : Type 0 where
  pub files : Option Files
  pub faults : ℕ

-- a depot with no entry
abbrev pub no_files : Files
no_files name = None

-- the same entries, but for this one
abbrev pub with_entry : List ℕ → Option (List ℕ) → Files → Files
with_entry name entry files asked = if bytes_eq asked name then entry else files asked

-- A depot that tells has this under the name.
abbrev pub Has : Option Files → List ℕ → Option (List ℕ) → Type 0
Has None name entry = Unit {0}
Has (Some files) name entry = files name ≡ entry

-- The entry was set to these bytes, and all other entries stayed.
abbrev pub Set : Option Files → Option Files → List ℕ → List ℕ → Type 0
Set None new name bytes = new ≡ None
Set (Some files) new name bytes = new ≡ Some (with_entry name (Some bytes) files)

-- All entries but this one stayed.
abbrev pub OthersStay : Option Files → Option Files → List ℕ → Type 0
OthersStay None new name = new ≡ None
OthersStay (Some files) None name = ⊥
OthersStay (Some files) (Some now) name = (asked : List ℕ) → asked ≢ name → now asked ≡ files asked

-- One put: `Ok` set the entry and left every other one, and after an error this entry alone may have
-- changed.
abbrev pub Put : {X E : Type 0} → Option Files → Option Files → List ℕ → List ℕ → Result X E → Type 0
Put old new name bytes result = MatchResult result (λ _. Set old new name bytes) (λ _. OthersStay old new name)
