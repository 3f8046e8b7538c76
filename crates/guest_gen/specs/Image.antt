-- The ELF file of a generated program: the fields of elf(5), in order, and two loads.
use Rattle.std.specs.Prelude.{ℕ, ◌+◌, List, [], ◌∷◌, ◌++◌, length, replicate, flat_map, codes}
use Rattle.lego_base.specs.Space.{bytes_of}

-- a field: its width in bytes, and its number
abbrev pub field_bytes : ℕ × ℕ → List ℕ
field_bytes field = bytes_of field.0 field.1

abbrev pub fields_bytes : List (ℕ × ℕ) → List ℕ
fields_bytes fields = flat_map field_bytes fields

-- 64 bits (2), the lowest byte first (1), version 1; a program (2) for RISC-V (243); its entry; the program headers, two of
-- 56 bytes, come after these 64 bytes; there are no sections and no flags
abbrev pub file_header : List ℕ
file_header =
    (127 ∷ codes "ELF" ++ 2 ∷ 1 ∷ 1 ∷ replicate 9 0)
    ++ fields_bytes ((2, 2) ∷ (2, 243) ∷ (4, 1) ∷ (8, 0x100B0) ∷ (8, 64) ∷ (8, 0) ∷ (4, 0) ∷ (2, 64) ∷ (2, 56) ∷ (2, 2) ∷ (2, 0) ∷ (2, 0) ∷ (2, 0) ∷ [])

-- a load (1) with flags (readable 4, writable 2, executable 1): an offset in the file, an address, and bytes
abbrev pub program_header : ℕ → ℕ → ℕ → ℕ → List ℕ
program_header flags offset address size =
    fields_bytes ((4, 1) ∷ (4, flags) ∷ (8, offset) ∷ (8, address) ∷ (8, address) ∷ (8, size) ∷ (8, size) ∷ (8, 4096) ∷ [])

-- the bytes of both headers
abbrev pub headers_size : ℕ
headers_size = 176

-- the names of the files, with a zero after each
abbrev pub names : List ℕ
names = flat_map (λ name. name ++ 0 ∷ []) (codes "f0" ∷ codes "f1" ∷ codes "f2" ∷ codes "f3" ∷ codes "f4" ∷ codes "f5" ∷ codes "f6" ∷ codes "f7" ∷ codes "f8" ∷ codes "f9" ∷ [])

-- a page: the names up to 0x100, the pattern, the greeting, and zeros
abbrev pub data_of : List ℕ → List ℕ
data_of pattern = names ++ replicate 226 0 ++ pattern ++ codes "gen\n" ++ replicate 1788 0

-- Both headers and the code are loaded at 0x10000, readable and executable; the data at 0x40000, readable and writable.
abbrev pub image_of : List ℕ → List ℕ → List ℕ
image_of code pattern =
    file_header
    ++ program_header 5 0 0x10000 (headers_size + length code)
    ++ program_header 6 (headers_size + length code) 0x40000 4096
    ++ code
    ++ data_of pattern
