-- The first name of a path: where it stands, and where its parts lead by their bytes alone.
use Rattle.std.specs.Prelude.{ℕ, suc, ◌==◌, if◌then◌else◌, nat_le, List, [], ◌∷◌, drop, length, Option, Some, None}
use Rattle.lego_base.specs.Pieces.{piece}
use Rattle.linux_model.specs.State.{Kernel}
use Rattle.linux_model.specs.Called.{Called}
use Rattle.linux_model.specs.Paths.{Found, parts_of, walked, without_root_parts}
use Rattle.sys_paths.specs.declared.parts.FirstName.{FirstName}

-- the bytes before the first slash, counted; all, where there is none
abbrev pub first_part : List ℕ → ℕ
first_part [] = 0
first_part (byte ∷ path) = if byte == 47 then 0 else suc (first_part path)

-- the parts of a path starting at a byte, none past its end
abbrev pub parts_from : ℕ → List ℕ → List (List ℕ)
parts_from start path = if nat_le start (length path) then parts_of (drop start path) else []

-- to the root, to a name, or below a name
pub data Way : Type 0 where
  ToRoot : Way
  ToName : List ℕ → Way
  Below : List ℕ → Way

-- where parts lead that begin with a name
abbrev pub way_of : List (List ℕ) → Way
way_of [] = ToRoot
way_of (name ∷ []) = ToName name
way_of (name ∷ part ∷ parts) = Below name

-- where a path leads with a first name that stands there
abbrev pub way_by : Option FirstName → List ℕ → Way
way_by None path = ToRoot
way_by (Some name) path = if name.is_last then ToName (piece path name.start name.len) else Below (piece path name.start name.len)

-- where a path leads that isn't empty, and what a call does there
abbrev pub leads_to : List ℕ → Way
leads_to path = way_of (without_root_parts (parts_of path))

abbrev pub names_row : List ℕ → Kernel → (Found → Called) → Called
names_row path k f = walked (without_root_parts (parts_of path)) k f
