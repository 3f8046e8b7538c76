-- What the objects in memory show: their content, and their calls.
use Rattle.std.specs.Prelude.{ℕ, List, [], ◌∷◌, Some, None, if◌then◌else◌}
use Rattle.std.specs.Str.{bytes_eq}
use Rattle.lego_base.specs.declared.report.FileOut.{FileOut}
use Rattle.host_io.specs.Calls.{Calls}
use Rattle.host_io.specs.Depots.{Files, DepotState}

-- a source: the bytes that are left
pub record Feed : Type 0 where
  pub left : List ℕ
  pub calls : Calls

-- a sink: the bytes that it holds, and how many it can hold without taking more memory
pub record Tray : Type 0 where
  pub held : List ℕ
  pub room : ℕ
  pub calls : Calls

-- a depot: its entries, of which the first of a name counts
pub record Shelf : Type 0 where
  pub entries : List FileOut
  pub calls : Calls

-- the bytes under a name
abbrev pub looked_up : List FileOut → Files
looked_up [] name = None
looked_up (entry ∷ entries) name = if bytes_eq name entry.name then Some entry.bytes else looked_up entries name

-- what it tells
abbrev pub state_of : Shelf → DepotState
state_of shelf = record { files = Some (looked_up shelf.entries); faults = shelf.calls.faults }
