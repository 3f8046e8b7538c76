-- The archive of a run's files. Numbers have their lowest byte first.
use Rattle.std.specs.Prelude.{◌≡◌, ◌≢◌, ◌≤◌, ◌<◌, ◌^◌, All, ℕ, if◌then◌else◌, List, [], ◌∷◌, ◌++◌, length, flat_map, codes, AllPairs, IsPermutation, IsSortedByKey}
use Rattle.std.specs.declared.cmp.Ordering.{Ordering}
use Rattle.std.specs.Ordering.{nat_cmp, is_gt}
use Rattle.std.specs.Cmp.Lexicographic.{slice_cmp}
use Rattle.lego_base.specs.declared.report.FileOut.{FileOut}
use Rattle.lego_base.specs.Space.{bytes_of}

-- the order of names: that of their first bytes that differ, and the shorter first where one begins the other
abbrev pub name_order : List ℕ → List ℕ → Ordering
name_order = slice_cmp nat_cmp

-- files in rising order of names and one more, which comes before those whose names aren't below its own
abbrev pub inserted : FileOut → List FileOut → List FileOut
inserted file [] = file ∷ []
inserted file (other ∷ files) = if is_gt (name_order file.name other.name) then other ∷ inserted file files else file ∷ other ∷ files

-- files in rising order of names
abbrev pub by_name : List FileOut → List FileOut
by_name [] = []
by_name (file ∷ files) = inserted file (by_name files)

-- a file: the length of its name, the name, the number of its bytes, the bytes
abbrev pub file_record : FileOut → List ℕ
file_record file = bytes_of 2 (length file.name) ++ file.name ++ bytes_of 8 (length file.bytes) ++ file.bytes

-- the archive: its mark, the number of files, and the files by name
unfoldable pub archive_of : List FileOut → List ℕ
archive_of files = codes "LEGOARC1" ++ bytes_of 4 (length files) ++ flat_map file_record (by_name files)

-- no two files have the same name
abbrev pub NamesDiffer : List FileOut → Type 0
NamesDiffer files = AllPairs (λ file other. file.name ≢ other.name) files

-- Files by name are the same files, and they are in rising order of names.
abbrev pub ByNameSorts : Type 0
ByNameSorts = (files : List FileOut) → IsPermutation files (by_name files) × IsSortedByKey (λ file. file.name) name_order (by_name files)

-- The archive doesn't depend on the order in which the files are given.
abbrev pub OrderIsFree : Type 0
OrderIsFree = (files others : List FileOut) → NamesDiffer files → IsPermutation files others → archive_of others ≡ archive_of files

-- files that an archive can hold: it has room for the lengths of their names, their sizes and their count
pub record CanBeArchived (files : List FileOut) : Type 0 where
  pub names : All (λ file. length file.name ≤ 65535) files
  pub sizes : All (λ file. length file.bytes < 2 ^ 64) files
  pub few : length files < 2 ^ 32

-- An archive determines its files: it is the archive of no others.
abbrev pub ArchiveTellsFiles : Type 0
ArchiveTellsFiles =
    (files others : List FileOut) → CanBeArchived files → CanBeArchived others
    → archive_of files ≡ archive_of others → by_name files ≡ by_name others
