-- Which calls are on descriptors and files.
use Rattle.std.specs.Prelude.{ℕ, ◌==◌, ◌||◌, Bool}

-- dup, dup3, unlinkat, ftruncate, openat, close, pipe2 and lseek
abbrev pub is_file_call : ℕ → Bool
is_file_call number = number == 23 || number == 24 || number == 35 || number == 46 || number == 56 || number == 57 || number == 59 || number == 62
