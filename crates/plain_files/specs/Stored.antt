-- What is stored of files, and what making and freeing one of them does.
use Rattle.std.specs.Prelude.{◌+◌, [], ◌∷◌, ◌++◌, ℕ, List, None, Option, Some, if◌then◌else◌, length, nat_le}
use Rattle.lego_base.specs.Files.{File, has_name, with_name, without_file}
use Rattle.lego_base.specs.declared.ids.FileNo.{FileNo}
use Rattle.lego_base.specs.declared.records.NameEntry.{NameEntry}
use Rattle.plain_files.specs.declared.files.TheConstants.{MOST_FILES}

pub record Stored : Type 0 where
  -- the bytes of each file, in rising order of numbers
  pub files : List File
  -- the names, in the order of their bytes
  pub names : List NameEntry
  -- the number of the next file
  pub next : ℕ

abbrev pub nothing : Stored
nothing = record { files = []; names = []; next = 0 }

-- an empty file under a name that none has: none where there are as many as there may be
abbrev pub with_new : List ℕ → Stored → Stored
with_new name s =
    if nat_le MOST_FILES (length s.files) then s
    else record {
      files = s.files ++ record { file = s.next; bytes = [] } ∷ [];
      names = with_name (record { name = name; file = record { 0 = s.next } }) s.names;
      next = s.next + 1;
    }

-- the number that it gets
abbrev pub new_number : Stored → Option FileNo
new_number s = if nat_le MOST_FILES (length s.files) then None else Some (record { 0 = s.next })

-- a file goes, unless it has a name
abbrev pub freed : ℕ → Stored → Stored
freed file s = if has_name s.names file then s else record s { files = without_file file s.files }
