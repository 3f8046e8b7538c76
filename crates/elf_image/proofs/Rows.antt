-- Worked rows: a program that writes `hi`, and files that differ from it in one place.
use Rattle.std.proofs.Common.{◌≡◌, ℕ, ◌+◌, ◌-◌, ◌^◌, List, [], ◌∷◌, ◌++◌, Some, None, length, take, drop, replicate, refl}
use Rattle.std.specs.Prelude.{codes}
use Rattle.lego_base.specs.Space.{bytes_of}
use Rattle.elf_image.specs.declared.fault.ImageFault.TheVariants.{Short, Magic, Class, Kind, Machine, Abi, TableOutside, TooManyHeaders, Interp, SegmentOutside, SegmentSize, SegmentAddress, Overlap, NoSegment, EntryOutside}
use Rattle.elf_image.specs.Image.{first_fault, program_of}
use Rattle.elf_image.proofs.OnLiterals.{elf_image_on_literals}

-- the file header of a program with this entry and this number of program headers after it
abbrev file_header : ℕ → ℕ → List ℕ
file_header entry count =
    (127 ∷ codes "ELF") ++ bytes_of 12 0x010102 ++ bytes_of 2 2 ++ bytes_of 2 243 ++ bytes_of 4 1 ++ bytes_of 8 entry
    ++ bytes_of 8 64 ++ bytes_of 8 0 ++ bytes_of 4 0 ++ bytes_of 2 64 ++ bytes_of 2 56 ++ bytes_of 2 count ++ bytes_of 6 0

-- a program header
abbrev header : ℕ → ℕ → ℕ → ℕ → ℕ → ℕ → List ℕ
header kind flags offset vaddr filesz memsz =
    bytes_of 4 kind ++ bytes_of 4 flags ++ bytes_of 8 offset ++ bytes_of 8 vaddr ++ bytes_of 8 vaddr ++ bytes_of 8 filesz
    ++ bytes_of 8 memsz ++ bytes_of 8 4096

-- write(1, text, 2), then exit(0)
abbrev text : List ℕ
text =
    bytes_of 4 0x00100513 ++ bytes_of 4 0x00000597 ++ bytes_of 4 0x02058593 ++ bytes_of 4 0x00200613 ++ bytes_of 4 0x04000893
    ++ bytes_of 4 0x00000073 ++ bytes_of 4 0x00000513 ++ bytes_of 4 0x05d00893 ++ bytes_of 4 0x00000073 ++ codes "hi"

-- the file with a program header of these fields
abbrev with_load : ℕ → ℕ → ℕ → ℕ → ℕ → ℕ → List ℕ
with_load kind flags offset vaddr filesz memsz = file_header 0x10078 1 ++ header kind flags offset vaddr filesz memsz ++ text

-- the program that writes `hi`: one load of the whole file, to be read and executed
abbrev hi : List ℕ
hi = with_load 1 5 0 0x10000 158 158

-- the file with another number of `width` bytes at an offset
abbrev patched : ℕ → ℕ → ℕ → List ℕ
patched offset width number = take offset hi ++ bytes_of width number ++ drop (offset + width) hi

hi_has_158_bytes : length hi ≡ 158
hi_has_158_bytes = refl

hi_is_accepted : first_fault hi ≡ None
unfolding elf_image_on_literals
hi_is_accepted = refl

hi_is_a_program : program_of hi ≡ record { entry = 0x10078; segments = record { vaddr = 0x10000; memsz = 158; perms = record { 0 = 5 }; bytes = hi } ∷ []; brk = 0x11000 }
unfolding elf_image_on_literals
hi_is_a_program = refl

-- For each fault a file of which it is the first.

short : first_fault (take 63 hi) ≡ Some Short
unfolding elf_image_on_literals
short = refl

magic : first_fault (patched 1 1 0x4c) ≡ Some Magic
unfolding elf_image_on_literals
magic = refl

of_32_bits : first_fault (patched 4 1 1) ≡ Some Class
unfolding elf_image_on_literals
of_32_bits = refl

big_endian : first_fault (patched 5 1 2) ≡ Some Class
unfolding elf_image_on_literals
big_endian = refl

position_independent : first_fault (patched 16 2 3) ≡ Some Kind
unfolding elf_image_on_literals
position_independent = refl

of_x86 : first_fault (patched 18 2 62) ≡ Some Machine
unfolding elf_image_on_literals
of_x86 = refl

-- compressed instructions and a double float ABI, as the usual toolchain has them
of_rv64gc : first_fault (patched 48 4 5) ≡ Some Abi
unfolding elf_image_on_literals
of_rv64gc = refl

table_behind : first_fault (take 119 hi) ≡ Some TableOutside
unfolding elf_image_on_literals
table_behind = refl

-- a place that would wrap in 64 bits
table_far_behind : first_fault (patched 32 8 (2 ^ 64 - 1)) ≡ Some TableOutside
unfolding elf_image_on_literals
table_far_behind = refl

headers_of_32_bits : first_fault (patched 54 2 32) ≡ Some TableOutside
unfolding elf_image_on_literals
headers_of_32_bits = refl

-- a table of 65 headers of zeros
many_headers : first_fault (file_header 0x10078 65 ++ replicate 3640 0) ≡ Some TooManyHeaders
unfolding elf_image_on_literals
many_headers = refl

interpreter : first_fault (patched 64 4 3) ≡ Some Interp
unfolding elf_image_on_literals
interpreter = refl

segment_behind : first_fault (with_load 1 5 0 0x10000 159 159) ≡ Some SegmentOutside
unfolding elf_image_on_literals
segment_behind = refl

segment_far_behind : first_fault (with_load 1 5 (2 ^ 64 - 1) 0x10000 158 158) ≡ Some SegmentOutside
unfolding elf_image_on_literals
segment_far_behind = refl

segment_overfull : first_fault (with_load 1 5 0 0x10000 158 157) ≡ Some SegmentSize
unfolding elf_image_on_literals
segment_overfull = refl

segment_too_large : first_fault (with_load 1 5 0 0x10000 158 33554433) ≡ Some SegmentSize
unfolding elf_image_on_literals
segment_too_large = refl

largest_segment : first_fault (with_load 1 5 0 0x10000 158 33554432) ≡ None
unfolding elf_image_on_literals
largest_segment = refl

segment_below : first_fault (with_load 1 5 0 4095 158 158) ≡ Some SegmentAddress
unfolding elf_image_on_literals
segment_below = refl

segment_above : first_fault (with_load 1 5 0 (0x2000000000 - 157) 158 158) ≡ Some SegmentAddress
unfolding elf_image_on_literals
segment_above = refl

segment_wraps : first_fault (with_load 1 5 0 (2 ^ 64 - 1) 158 158) ≡ Some SegmentAddress
unfolding elf_image_on_literals
segment_wraps = refl

no_segment : first_fault (take 64 (patched 56 2 0)) ≡ Some NoSegment
unfolding elf_image_on_literals
no_segment = refl

-- bytes in memory make a load
empty_segment : first_fault (with_load 1 5 (2 ^ 64 - 1) 0 158 0) ≡ Some NoSegment
unfolding elf_image_on_literals
empty_segment = refl

odd_entry : first_fault (patched 24 8 0x1007a) ≡ Some EntryOutside
unfolding elf_image_on_literals
odd_entry = refl

entry_behind : first_fault (patched 24 8 0x100a0) ≡ Some EntryOutside
unfolding elf_image_on_literals
entry_behind = refl

entry_in_data : first_fault (with_load 1 6 0 0x10000 158 158) ≡ Some EntryOutside
unfolding elf_image_on_literals
entry_in_data = refl

-- A file with a second load, to be read and written, of 300 bytes in memory at an address.
abbrev with_data : ℕ → List ℕ
with_data vaddr = file_header 0x100b0 2 ++ header 1 5 0 0x10000 214 256 ++ header 1 6 212 vaddr 2 300 ++ text

two_loads_touch : first_fault (with_data 0x10100) ≡ None
unfolding elf_image_on_literals
two_loads_touch = refl

two_loads_meet : first_fault (with_data 0x100ff) ≡ Some Overlap
unfolding elf_image_on_literals
two_loads_meet = refl

two_loads_share_a_page : program_of (with_data 0x10800) ≡ record {
  entry = 0x100b0;
  segments =
      record { vaddr = 0x10000; memsz = 256; perms = record { 0 = 5 }; bytes = with_data 0x10800 }
      ∷ record { vaddr = 0x10800; memsz = 300; perms = record { 0 = 3 }; bytes = codes "hi" }
      ∷ [];
  brk = 0x11000;
}
unfolding elf_image_on_literals
two_loads_share_a_page = refl

-- the break is after the load that ends highest, wherever its header is
break_behind_the_first : (program_of (with_data 0x8000)).brk ≡ 0x11000
unfolding elf_image_on_literals
break_behind_the_first = refl

-- an end at a page address is the break
break_at_the_end : (program_of (with_load 1 5 0 0x10000 158 4096)).brk ≡ 0x11000
unfolding elf_image_on_literals
break_at_the_end = refl

break_a_page_further : (program_of (with_load 1 5 0 0x10000 158 4097)).brk ≡ 0x12000
unfolding elf_image_on_literals
break_a_page_further = refl
