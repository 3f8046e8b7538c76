-- Which calls move bytes.
use Rattle.std.specs.Prelude.{ℕ, ◌==◌, ◌||◌, Bool}

-- read, write, readv, writev, pread64 and pwrite64
abbrev pub is_io_call : ℕ → Bool
is_io_call number = number == 63 || number == 64 || number == 65 || number == 66 || number == 67 || number == 68
