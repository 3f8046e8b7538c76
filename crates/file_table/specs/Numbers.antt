-- Files by their numbers: each number once, in rising order.
use Rattle.std.specs.Prelude.{◌+◌, ◌/◌, ◌<◌, ◌==◌, if◌then◌else◌, [], ◌∷◌, ℕ, List, max}
use Rattle.std.specs.List.{AllByRecursion}
use Rattle.lego_base.specs.Files.{File}

-- each file's number is above that of the file before it
abbrev pub NumbersRise : List File → Type 0
NumbersRise [] = Unit {0}
NumbersRise (f ∷ files) = AllByRecursion (λ (g : File). f.file < g.file) files × NumbersRise files

-- each file's number is below another one
abbrev pub NumbersBelow : ℕ → List File → Type 0
NumbersBelow n files = AllByRecursion (λ (f : File). f.file < n) files

-- how many blocks of 4096 bytes a file needs
abbrev pub blocks_for : ℕ → ℕ
blocks_for size = (size + 4095) / 4096

-- the size of a file once some bytes were written at an offset
abbrev pub size_after : ℕ → ℕ → ℕ → ℕ
size_after size off len = if len == 0 then size else max size (off + len)
