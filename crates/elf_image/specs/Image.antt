-- Which files are accepted, the first reason why any other is refused, and the program that an accepted file
-- holds. The conditions speak of the whole file and of all its loads at once. Sums are whole numbers: they don't
-- wrap.
use Rattle.std.specs.Prelude.{◌≡◌, ◌==◌, ℕ, ◌+◌, ◌*◌, ◌/◌, ◌%◌, ◌<◌, ◌≤◌, ◌⊎◌, max, min, nat_le, nat_lt, bit_and, Bool, false, not, ◌&&◌, ◌||◌, if◌then◌else◌, List, [], ◌∷◌, ◌++◌, length, take, drop, map, sum_by, slice_index, Option, Some, None, All, Any, AllPairs, codes, nat_eq}
use Rattle.std.specs.List.{list_any, starts_with}
use Rattle.lego_base.specs.declared.perms.Perms.{Perms}
use Rattle.elf_image.specs.declared.fault.ImageFault.{ImageFault}
use Rattle.elf_image.specs.declared.fault.ImageFault.TheVariants.{Short, Magic, Class, Kind, Machine, Abi, TableOutside, TooManyHeaders, Interp, SegmentOutside, SegmentSize, SegmentAddress, Overlap, NoSegment, EntryOutside, NoMemory}
use Rattle.elf_image.specs.declared.TheConstants.{MOST_HEADERS, MOST_BYTES, LOADS_START, LOADS_END}
use Rattle.elf_image.specs.declared.header.Header.{Header}
use Rattle.elf_image.specs.declared.image.Segment.{Segment}
use Rattle.elf_image.specs.File.{field, e_type, e_machine, e_flags, phdr_bytes, entry_address, table_offset, header_size, header_count, headers, loads_of, load_end, is_executable}

-- What a program image is.
pub record Program : Type 0 where
  -- the address of the first instruction
  pub entry : ℕ
  -- what is loaded, in the order of the headers
  pub segments : List Segment
  -- where the break starts
  pub brk : ℕ

-- Conditions on the file's header.

-- it has fewer bytes than a file header
abbrev pub is_short : List ℕ → Bool
is_short bytes = nat_lt (length bytes) 64

-- it doesn't begin with 7F 45 4C 46
unfoldable pub has_other_magic : List ℕ → Bool
has_other_magic bytes = not (starts_with nat_eq bytes (127 ∷ codes "ELF"))

-- it isn't of 64 bits (ELFCLASS64, 2) with the lowest byte first (ELFDATA2LSB, 1)
unfoldable pub has_other_class : List ℕ → Bool
has_other_class bytes = not (slice_index bytes 4 == 2 && slice_index bytes 5 == 1)

-- e_type isn't ET_EXEC (2)
unfoldable pub has_other_kind : List ℕ → Bool
has_other_kind bytes = not (field bytes e_type 2 == 2)

-- e_machine isn't EM_RISCV (243)
unfoldable pub has_other_machine : List ℕ → Bool
has_other_machine bytes = not (field bytes e_machine 2 == 243)

-- e_flags has a bit of 15 set: compressed instructions (1), a float ABI (6), RVE (8)
unfoldable pub has_other_abi : List ℕ → Bool
has_other_abi bytes = not (bit_and (field bytes e_flags 4) 15 == 0)

-- there are program headers and they aren't of 56 bytes, or their table ends past the end of the file
unfoldable pub is_table_outside : List ℕ → Bool
is_table_outside bytes =
    nat_lt 0 (header_count bytes) && not (header_size bytes == phdr_bytes) || nat_lt (length bytes) (table_offset bytes + phdr_bytes * header_count bytes)

-- there are too many program headers
unfoldable pub has_many_headers : List ℕ → Bool
has_many_headers bytes = nat_lt MOST_HEADERS (header_count bytes)

-- Conditions on the program headers and the loads among them.

-- a header asks for an interpreter (PT_INTERP, 3)
unfoldable pub has_interpreter : List Header → Bool
has_interpreter table = list_any (λ header. header.kind == 3) table

-- the bytes of a load end past the end of a file of this size
abbrev pub is_outside : ℕ → Header → Bool
is_outside size load = nat_lt size (load.offset + load.filesz)

unfoldable pub some_outside : ℕ → List Header → Bool
some_outside size loads = list_any (is_outside size) loads

-- a load has more bytes in the file than in memory
abbrev pub is_overfull : Header → Bool
is_overfull load = nat_lt load.memsz load.filesz

-- there is such a load, or all loads together have too many bytes in memory
unfoldable pub has_other_size : List Header → Bool
has_other_size loads = list_any is_overfull loads || nat_lt MOST_BYTES (sum_by (λ load. load.memsz) loads)

-- a load begins below or ends above the addresses for loads
abbrev pub is_misplaced : Header → Bool
is_misplaced load = nat_lt load.vaddr LOADS_START || nat_lt LOADS_END (load_end load)

unfoldable pub some_misplaced : List Header → Bool
some_misplaced loads = list_any is_misplaced loads

-- the address ranges of two loads share an address: the later start lies before the earlier end
abbrev pub share : Header → Header → Bool
share load other = nat_lt (max load.vaddr other.vaddr) (min (load_end load) (load_end other))

unfoldable pub some_share : List Header → Bool
some_share [] = false
some_share (load ∷ loads) = list_any (share load) loads || some_share loads

-- there is no load
unfoldable pub has_no_load : List Header → Bool
has_no_load loads = length loads == 0

-- a load may be executed and has this address
abbrev pub executes : ℕ → Header → Bool
executes address load = is_executable load && (nat_le load.vaddr address && nat_lt address (load_end load))

-- the entry isn't a multiple of 4, or no load that may be executed has it
unfoldable pub is_entry_outside : ℕ → List Header → Bool
is_entry_outside entry loads = not (entry % 4 == 0 && list_any (executes entry) loads)

-- The faults in their order, each with its condition.

abbrev pub file_faults : List ℕ → List (Bool × ImageFault)
file_faults bytes =
    (is_short bytes, Short)
    ∷ (has_other_magic bytes, Magic)
    ∷ (has_other_class bytes, Class)
    ∷ (has_other_kind bytes, Kind)
    ∷ (has_other_machine bytes, Machine)
    ∷ (has_other_abi bytes, Abi)
    ∷ (is_table_outside bytes, TableOutside)
    ∷ (has_many_headers bytes, TooManyHeaders)
    ∷ []

-- those of a file of this size with this entry, these program headers and these loads among them
abbrev pub load_faults : ℕ → ℕ → List Header → List Header → List (Bool × ImageFault)
load_faults size entry table loads =
    (has_interpreter table, Interp)
    ∷ (some_outside size loads, SegmentOutside)
    ∷ (has_other_size loads, SegmentSize)
    ∷ (some_misplaced loads, SegmentAddress)
    ∷ (some_share loads, Overlap)
    ∷ (has_no_load loads, NoSegment)
    ∷ (is_entry_outside entry loads, EntryOutside)
    ∷ []

-- the first of these faults whose condition holds
abbrev pub first_of : List (Bool × ImageFault) → Option ImageFault
first_of [] = None
first_of (row ∷ rows) = if row.0 then Some row.1 else first_of rows

-- the loads of a file, in the order of their headers
abbrev pub loads : List ℕ → List Header
loads bytes = loads_of (headers bytes)

-- the first fault of a file, where it has one
unfoldable pub first_fault : List ℕ → Option ImageFault
first_fault bytes = first_of (file_faults bytes ++ load_faults (length bytes) (entry_address bytes) (headers bytes) (loads bytes))

-- What a file holds.

-- the permissions of a load: PF_R (4), PF_W (2) and PF_X (1) of its flags are READ (1), WRITE (2) and EXEC (4)
abbrev pub perms_of_flags : ℕ → Perms
perms_of_flags flags = record { 0 = flags / 4 % 2 + flags / 2 % 2 * 2 + flags % 2 * 4 }

-- what a load puts into memory: its bytes of the file, before bytes 0 up to its size in memory
abbrev pub segment_of : List ℕ → Header → Segment
segment_of bytes load = record {
  vaddr = load.vaddr;
  memsz = load.memsz;
  perms = perms_of_flags load.flags;
  bytes = take load.filesz (drop load.offset bytes);
}

-- the highest of the loads' ends
abbrev pub highest_end : List Header → ℕ
highest_end [] = 0
highest_end (load ∷ loads) = max (load_end load) (highest_end loads)

-- the lowest page address that isn't below an address
abbrev pub page_from : ℕ → ℕ
page_from address = (address + 4095) / 4096 * 4096

-- the program of a file without fault
unfoldable pub program_of : List ℕ → Program
program_of bytes = record {
  entry = entry_address bytes;
  segments = map (segment_of bytes) (loads bytes);
  brk = page_from (highest_end (loads bytes));
}

-- the fault's name
abbrev pub name_of : ImageFault → List ℕ
name_of Short = codes "Short"
name_of Magic = codes "Magic"
name_of Class = codes "Class"
name_of Kind = codes "Kind"
name_of Machine = codes "Machine"
name_of Abi = codes "Abi"
name_of TableOutside = codes "TableOutside"
name_of TooManyHeaders = codes "TooManyHeaders"
name_of Interp = codes "Interp"
name_of SegmentOutside = codes "SegmentOutside"
name_of SegmentSize = codes "SegmentSize"
name_of SegmentAddress = codes "SegmentAddress"
name_of Overlap = codes "Overlap"
name_of NoSegment = codes "NoSegment"
name_of EntryOutside = codes "EntryOutside"
name_of NoMemory = codes "NoMemory"

-- What holds of each program that a file holds.

pub record IsBoundedSegment (segment : Segment) : Type 0 where
  pub filled : length segment.bytes ≤ segment.memsz
  pub some : 0 < segment.memsz
  pub start : LOADS_START ≤ segment.vaddr
  pub ends : segment.vaddr + segment.memsz ≤ LOADS_END
  -- READ, WRITE and EXEC alone
  pub flags : segment.perms.0 < 8

-- two segments have no address in common
abbrev pub AreApart : Segment → Segment → Type 0
AreApart segment other = (segment.vaddr + segment.memsz ≤ other.vaddr) ⊎ (other.vaddr + other.memsz ≤ segment.vaddr)

-- a segment has EXEC and this address
pub record MayExecute (address : ℕ) (segment : Segment) : Type 0 where
  pub allowed : segment.perms.0 / 4 % 2 ≡ 1
  pub start : segment.vaddr ≤ address
  pub ends : address < segment.vaddr + segment.memsz

pub record IsBounded (program : Program) : Type 0 where
  pub few : length program.segments ≤ MOST_HEADERS
  pub each : All IsBoundedSegment program.segments
  pub total : sum_by (λ segment. segment.memsz) program.segments ≤ MOST_BYTES
  pub apart : AllPairs AreApart program.segments
  pub aligned : program.entry % 4 ≡ 0
  pub entered : Any (MayExecute program.entry) program.segments
  -- the break is the address of a page, after all segments
  pub page : program.brk % 4096 ≡ 0
  pub behind : All (λ segment. segment.vaddr + segment.memsz ≤ program.brk) program.segments
  pub within : program.brk ≤ LOADS_END
