-- The bytes of an image's loads and the pages in which they lie: loading writes a page at a time.
use Rattle.std.specs.Prelude.{ℕ, zero, suc, ◌+◌, ◌-◌, ◌*◌, ◌/◌, ◌&&◌, ◌==◌, Bool, nat_le, nat_lt, min, max, if◌then◌else◌, List, [], ◌∷◌, length, slice_index}
use Rattle.elf_image.specs.declared.image.Segment.{Segment}

-- where the bytes of a load end that the file has
abbrev pub file_end : Segment → ℕ
file_end s = s.vaddr + length s.bytes

-- the byte that the loads have at an address, 0 where none has one
abbrev pub loaded : List Segment → ℕ → ℕ
loaded [] address = 0
loaded (s ∷ segments) address = if nat_le s.vaddr address && nat_lt address (file_end s) then slice_index s.bytes (address - s.vaddr) else loaded segments address

-- where the bytes of a load in a page begin and end, where it has some there
abbrev pub part_start : Segment → ℕ → ℕ
part_start s page = max s.vaddr (page * 4096)

abbrev pub part_end : Segment → ℕ → ℕ
part_end s page = min (file_end s) ((page + 1) * 4096)

abbrev pub has_part : Segment → ℕ → Bool
has_part s page = nat_lt (part_start s page) (part_end s page)

-- the first of the loads' bytes in a page, and the end of the last one
abbrev pub first_byte : List Segment → ℕ → ℕ
first_byte [] page = (page + 1) * 4096
first_byte (s ∷ segments) page = if has_part s page then min (part_start s page) (first_byte segments page) else first_byte segments page

abbrev pub last_end : List Segment → ℕ → ℕ
last_end [] page = page * 4096
last_end (s ∷ segments) page = if has_part s page then max (part_end s page) (last_end segments page) else last_end segments page

-- numbers that rise, with one of them, with n of them starting at one
abbrev pub with_number : ℕ → List ℕ → List ℕ
with_number n [] = n ∷ []
with_number n (m ∷ numbers) =
    if nat_lt n m then n ∷ m ∷ numbers else (
    if n == m then m ∷ numbers else
    m ∷ with_number n numbers)

abbrev pub with_numbers : ℕ → ℕ → List ℕ → List ℕ
with_numbers first zero numbers = numbers
with_numbers first (suc count) numbers = with_number first (with_numbers (first + 1) count numbers)

-- the pages in which a load's bytes lie
abbrev pub pages_in : Segment → ℕ
pages_in s = if length s.bytes == 0 then 0 else (file_end s - 1) / 4096 + 1 - s.vaddr / 4096

-- the pages in which the loads' bytes lie, in rising order
abbrev pub filled_pages : List Segment → List ℕ
filled_pages [] = []
filled_pages (s ∷ segments) = with_numbers (s.vaddr / 4096) (pages_in s) (filled_pages segments)

-- the pages that n bytes starting at an address meet
abbrev pub pages_met : ℕ → ℕ → ℕ
pages_met address n = (address + n + 4095) / 4096 - address / 4096
