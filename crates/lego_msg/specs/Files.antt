-- The files of a machine, as storage holds them and as the plain map has them.
use Rattle.std.specs.Prelude.{◌+◌, ◌*◌, if◌then◌else◌, [], ◌∷◌, ◌++◌, ℕ, Bool, List, None, Option, Some, drop, length, nat_le, nat_lt, take}
use Rattle.lego_base.specs.Files.{File, blocks_needed, file_bytes, has_name, named, with_file_bytes, with_name, without_file, without_name}
use Rattle.lego_base.specs.Pieces.{of_size, written_at, zeros}
use Rattle.lego_base.specs.declared.ids.FileNo.{FileNo}
use Rattle.lego_base.specs.declared.records.NameEntry.{NameEntry}

-- most files that there may be, those without a name counted
abbrev pub FILES_MOST : ℕ
FILES_MOST = 1024

pub record Files : Type 0 where
  -- how many blocks of 4096 bytes the files may need together
  pub blocks : ℕ
  -- in rising order of numbers
  pub files : List File
  -- in the order of their bytes
  pub names : List NameEntry
  -- the number of the next file that is made
  pub next : ℕ

abbrev pub no_files : ℕ → Files
no_files blocks = record { blocks = blocks; files = []; names = []; next = 0 }

-- a block of 4096 bytes, with zeros past the file's end
abbrev pub block_of : List ℕ → ℕ → List ℕ
block_of bytes block = take 4096 (drop (block * 4096) bytes ++ zeros 4096)

abbrev pub is_room : Files → List File → Bool
is_room f files = nat_le (blocks_needed files) f.blocks

abbrev pub file_written : Files → ℕ → ℕ → ℕ → List ℕ → List File
file_written f file block off bytes = with_file_bytes f.files file (written_at (file_bytes f.files file) (block * 4096 + off) bytes)

abbrev pub file_cut : Files → ℕ → ℕ → List File
file_cut f file size = with_file_bytes f.files file (of_size size (file_bytes f.files file))

-- whether another file may be made
abbrev pub is_file_room : Files → Bool
is_file_room f = nat_lt (length f.files) FILES_MOST

-- an empty file with the next number under a new name
abbrev pub with_file : Files → List ℕ → Files
with_file f name = record f { files = f.files ++ record { file = f.next; bytes = [] } ∷ []; names = with_name (record { name = name; file = record { 0 = f.next } }) f.names; next = f.next + 1 }

-- making a name, removing one and freeing a file
abbrev pub made_where : Option FileNo → Files → List ℕ → Files
made_where (Some file) f name = f
made_where None f name = if is_file_room f then with_file f name else f

abbrev pub made : Files → List ℕ → Files
made f name = made_where (named f.names name) f name

abbrev pub unnamed : Files → List ℕ → Files
unnamed f name = record f { names = without_name name f.names }

abbrev pub freed : Files → ℕ → Files
freed f file = if has_name f.names file then f else record f { files = without_file file f.files }
