-- Entries of the maps that files and names are kept in, as files and names.
use Rattle.std.specs.Prelude.{ℕ}
use Rattle.std.specs.declared.vec.Vec.{Vec}
use Rattle.lego_base.specs.Files.{File}
use Rattle.lego_base.specs.declared.ids.FileNo.{FileNo}
use Rattle.lego_base.specs.declared.records.NameEntry.{NameEntry}

abbrev pub file_of : {Z : Type 0} → FileNo × Vec ℕ Z → File
file_of e = record { file = e.0.0; bytes = e.1.items }

abbrev pub name_of : {Z : Type 0} → Vec ℕ Z × FileNo → NameEntry
name_of e = record { name = e.0.items; file = e.1 }
