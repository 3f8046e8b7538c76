-- What an ELF64 file holds: numbers at their offsets, the table of program headers, the loads. Offsets, numbers and
-- names are those of elf(5).
use Rattle.std.specs.Prelude.{◌==◌, ℕ, zero, suc, ◌+◌, ◌%◌, nat_lt, Bool, ◌&&◌, List, [], ◌∷◌, drop, filter}
use Rattle.byteorder.specs.Endian.{little_number}
use Rattle.elf_image.specs.declared.header.Header.{Header}

-- ---- the offsets of fields in the file header

abbrev pub e_type : ℕ
e_type = 16

abbrev pub e_machine : ℕ
e_machine = 18

abbrev pub e_entry : ℕ
e_entry = 24

abbrev pub e_phoff : ℕ
e_phoff = 32

abbrev pub e_flags : ℕ
e_flags = 48

abbrev pub e_phentsize : ℕ
e_phentsize = 54

abbrev pub e_phnum : ℕ
e_phnum = 56

-- ---- the offsets of fields in a program header

abbrev pub p_type : ℕ
p_type = 0

abbrev pub p_flags : ℕ
p_flags = 4

abbrev pub p_offset : ℕ
p_offset = 8

abbrev pub p_vaddr : ℕ
p_vaddr = 16

abbrev pub p_filesz : ℕ
p_filesz = 32

abbrev pub p_memsz : ℕ
p_memsz = 40

-- the bytes of a program header
abbrev pub phdr_bytes : ℕ
phdr_bytes = 56

-- ---- what they hold

-- the number of `width` bytes that start at an offset, the lowest byte first
unfoldable pub field : List ℕ → ℕ → ℕ → ℕ
field bytes offset width = little_number width (drop offset bytes)

-- the address of the first instruction
abbrev pub entry_address : List ℕ → ℕ
entry_address bytes = field bytes e_entry 8

-- where the table of program headers starts
abbrev pub table_offset : List ℕ → ℕ
table_offset bytes = field bytes e_phoff 8

-- the bytes of a program header, as the file gives them
abbrev pub header_size : List ℕ → ℕ
header_size bytes = field bytes e_phentsize 2

-- the number of program headers
abbrev pub header_count : List ℕ → ℕ
header_count bytes = field bytes e_phnum 2

-- the program header at an offset
unfoldable pub header_at : List ℕ → ℕ → Header
header_at bytes at = record {
  kind = field bytes (at + p_type) 4;
  flags = field bytes (at + p_flags) 4;
  offset = field bytes (at + p_offset) 8;
  vaddr = field bytes (at + p_vaddr) 8;
  filesz = field bytes (at + p_filesz) 8;
  memsz = field bytes (at + p_memsz) 8;
}

-- `count` program headers, one after the other, the first at an offset
abbrev pub headers_from : List ℕ → ℕ → ℕ → List Header
headers_from bytes at zero = []
headers_from bytes at (suc count) = header_at bytes at ∷ headers_from bytes (at + phdr_bytes) count

-- the table of program headers
unfoldable pub headers : List ℕ → List Header
headers bytes = headers_from bytes (table_offset bytes) (header_count bytes)

-- whether a header is a load: PT_LOAD (1) with bytes in memory
abbrev pub is_load : Header → Bool
is_load header = header.kind == 1 && nat_lt 0 header.memsz

-- the loads among headers, in their order
unfoldable pub loads_of : List Header → List Header
loads_of table = filter is_load table

-- the address after the last byte of a load in memory
abbrev pub load_end : Header → ℕ
load_end load = load.vaddr + load.memsz

-- whether a load may be executed: PF_X (1)
abbrev pub is_executable : Header → Bool
is_executable load = load.flags % 2 == 1
