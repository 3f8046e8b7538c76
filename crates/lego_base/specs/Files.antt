-- Files and their names, as lists.
use Rattle.std.specs.Prelude.{◌+◌, ◌/◌, ◌==◌, ◌||◌, if◌then◌else◌, [], ◌∷◌, ℕ, Bool, List, None, Option, Some, bytes_eq, false, length, nat_lt, true}
use Rattle.lego_base.specs.declared.ids.FileNo.{FileNo}
use Rattle.lego_base.specs.declared.records.NameEntry.{NameEntry}

pub record File : Type 0 where
  pub file : ℕ
  pub bytes : List ℕ

-- the bytes of a file, none where it isn't there
abbrev pub file_bytes : List File → ℕ → List ℕ
file_bytes [] file = []
file_bytes (f ∷ files) file = if f.file == file then f.bytes else file_bytes files file

-- whether a file is there
abbrev pub is_file : List File → ℕ → Bool
is_file [] file = false
is_file (f ∷ files) file = f.file == file || is_file files file

-- the files with the bytes of one of them changed
abbrev pub with_file_bytes : List File → ℕ → List ℕ → List File
with_file_bytes [] file bytes = []
with_file_bytes (f ∷ files) file bytes = (if f.file == file then record f { bytes = bytes } else f) ∷ with_file_bytes files file bytes

-- the files without one of them
abbrev pub without_file : ℕ → List File → List File
without_file file [] = []
without_file file (f ∷ files) = if f.file == file then without_file file files else f ∷ without_file file files

-- how many blocks of 4096 bytes the files need: each size rounded up
abbrev pub blocks_needed : List File → ℕ
blocks_needed [] = 0
blocks_needed (f ∷ files) = (length f.bytes + 4095) / 4096 + blocks_needed files

-- NAMES, in the order of their bytes

-- the file with a name
abbrev pub named : List NameEntry → List ℕ → Option FileNo
named [] name = None
named (e ∷ names) name = if bytes_eq e.name name then Some e.file else named names name

-- whether a file has a name
abbrev pub has_name : List NameEntry → ℕ → Bool
has_name [] file = false
has_name (e ∷ names) file = e.file.0 == file || has_name names file

-- the order of names: a beginning comes before what goes on
abbrev pub is_before : List ℕ → List ℕ → Bool
is_before [] [] = false
is_before [] (b ∷ bs) = true
is_before (a ∷ as_) [] = false
is_before (a ∷ as_) (b ∷ bs) = if a == b then is_before as_ bs else nat_lt a b

abbrev pub with_name : NameEntry → List NameEntry → List NameEntry
with_name e [] = e ∷ []
with_name e (d ∷ names) = if is_before e.name d.name then e ∷ d ∷ names else d ∷ with_name e names

abbrev pub without_name : List ℕ → List NameEntry → List NameEntry
without_name name [] = []
without_name name (e ∷ names) = if bytes_eq e.name name then without_name name names else e ∷ without_name name names
