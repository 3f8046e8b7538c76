-- What a run leaves of its files: those that have a name.
use Rattle.std.specs.Prelude.{ℕ, List, [], ◌∷◌}
use Rattle.lego_base.specs.declared.records.NameEntry.{NameEntry}
use Rattle.lego_base.specs.declared.report.FileOut.{FileOut}
use Rattle.lego_base.specs.Files.{File, file_bytes}
use Rattle.linux_model.specs.State.{Kernel}

-- files with their names, in the order of the names
abbrev pub files_named : List File → List NameEntry → List FileOut
files_named files [] = []
files_named files (e ∷ names) = record { name = e.name; bytes = file_bytes files e.file.0 } ∷ files_named files names

abbrev pub named_files : Kernel → List FileOut
named_files k = files_named k.files k.names
