-- Files that can be made at the start.
use Rattle.std.specs.Prelude.{◌≡◌, ◌≢◌, ◌<◌, ◌≤◌, ℕ, All, AllPairs, List, None, length}
use Rattle.lego_base.specs.declared.report.FileOut.{FileOut}
use Rattle.lego_base.specs.declared.sizes.TheConstants.{LONGEST_FILE}
use Rattle.lego_base.specs.Files.{named}
use Rattle.linux_model.specs.Held.{Held}
use Rattle.linux_model.specs.Limits.{FILES}

-- no two have the same name, there are not too many, and none is too long
pub record CanMake (files : List FileOut) : Type 0 where
  pub differ : AllPairs (λ file other. file.name ≢ other.name) files
  pub few : length files ≤ FILES
  pub short : All (λ file. length file.bytes ≤ LONGEST_FILE) files

-- a file may be made now: none has its name, and there is room for it
pub record NotMade (file : FileOut) (held : Held) : Type 0 where
  pub absent : named held.names file.name ≡ None
  pub room : length held.files < FILES
  pub short : length file.bytes ≤ LONGEST_FILE
