-- Worked rows of the definitions.
use Rattle.std.proofs.Common.{◌≡◌, ℕ, ◌-◌, ◌^◌, true, false, List, [], ◌∷◌, Some, None, replicate, refl}
use Rattle.std.specs.Prelude.{codes}
use Rattle.lego_base.specs.declared.records.Area.{Area}
use Rattle.area_list.specs.Runs.{put_runs}
use Rattle.area_list.specs.Gap.{lowest_gap}
use Rattle.elf_image.specs.declared.image.Segment.{Segment}
use Rattle.space_rules.specs.Start.{is_too_big, sp_of, stack_bytes}
use Rattle.space_rules.specs.Pages.{filled_pages, first_byte, last_end, loaded, pages_met}
use Rattle.space_rules.specs.Place.{place_of}
use Rattle.space_rules.specs.Mapped.{image_areas_of}

abbrev run : ℕ → ℕ → ℕ → Area
run first pages bits = record { first = record { 0 = first }; pages = pages; perms = record { 0 = bits } }

-- two arguments and one string of the environment: 9 bytes of strings and 12 words
abbrev args : List (List ℕ)
args = codes "a" ∷ codes "bc" ∷ []

abbrev env : List (List ℕ)
env = codes "d=1" ∷ []

pointer : sp_of args env ≡ 0x3FFFFEFF90
pointer = refl

stack : stack_bytes args env 0x10078 ≡
    2 ∷ 0 ∷ 0 ∷ 0 ∷ 0 ∷ 0 ∷ 0 ∷ 0
    ∷ 0xF7 ∷ 0xFF ∷ 0xFE ∷ 0xFF ∷ 0x3F ∷ 0 ∷ 0 ∷ 0
    ∷ 0xF9 ∷ 0xFF ∷ 0xFE ∷ 0xFF ∷ 0x3F ∷ 0 ∷ 0 ∷ 0
    ∷ 0 ∷ 0 ∷ 0 ∷ 0 ∷ 0 ∷ 0 ∷ 0 ∷ 0
    ∷ 0xFC ∷ 0xFF ∷ 0xFE ∷ 0xFF ∷ 0x3F ∷ 0 ∷ 0 ∷ 0
    ∷ 0 ∷ 0 ∷ 0 ∷ 0 ∷ 0 ∷ 0 ∷ 0 ∷ 0
    ∷ 6 ∷ 0 ∷ 0 ∷ 0 ∷ 0 ∷ 0 ∷ 0 ∷ 0
    ∷ 0 ∷ 0x10 ∷ 0 ∷ 0 ∷ 0 ∷ 0 ∷ 0 ∷ 0
    ∷ 9 ∷ 0 ∷ 0 ∷ 0 ∷ 0 ∷ 0 ∷ 0 ∷ 0
    ∷ 0x78 ∷ 0 ∷ 1 ∷ 0 ∷ 0 ∷ 0 ∷ 0 ∷ 0
    ∷ 0 ∷ 0 ∷ 0 ∷ 0 ∷ 0 ∷ 0 ∷ 0 ∷ 0
    ∷ 0 ∷ 0 ∷ 0 ∷ 0 ∷ 0 ∷ 0 ∷ 0 ∷ 0
    ∷ 0 ∷ 0 ∷ 0 ∷ 0 ∷ 0 ∷ 0 ∷ 0
    ∷ 0x61 ∷ 0
    ∷ 0x62 ∷ 0x63 ∷ 0
    ∷ 0x64 ∷ 0x3D ∷ 0x31 ∷ 0
    ∷ []
stack = refl

-- no string at all: 9 words, and 8 zeros after them
nothing_pointer : sp_of [] [] ≡ 0x3FFFFEFFB0
nothing_pointer = refl

-- as many strings and bytes as a process can start with, and one more
most_strings : is_too_big (replicate 400 []) (replicate 112 []) ≡ false
most_strings = refl

too_many_strings : is_too_big (replicate 400 []) (replicate 113 []) ≡ true
too_many_strings = refl

most_bytes : is_too_big (replicate 255 (replicate 254 7)) (replicate 510 7 ∷ []) ≡ false
most_bytes = refl

too_many_bytes : is_too_big (replicate 255 (replicate 254 7)) (replicate 511 7 ∷ []) ≡ true
too_many_bytes = refl

-- a mapping's place: where mappings start, between two others, rounded up to pages, and nowhere
first_place : place_of (run 16 1 5 ∷ run 0x3FFFEF0 256 3 ∷ []) 8192 ≡ Some 0x2000000000
unfolding lowest_gap
first_place = refl

place_between : place_of (run 0x2000000 4 3 ∷ run 0x2000006 1 3 ∷ []) 8192 ≡ Some 0x2000004000
unfolding lowest_gap
place_between = refl

place_behind : place_of (run 0x2000000 4 3 ∷ run 0x2000006 1 3 ∷ []) 8193 ≡ Some 0x2000007000
unfolding lowest_gap
place_behind = refl

place_to_the_end : place_of (run 0x2000000 1 3 ∷ []) (2 ^ 37 - 4096) ≡ Some 0x2000001000
unfolding lowest_gap
place_to_the_end = refl

no_place : place_of (run 0x2000000 1 3 ∷ []) (2 ^ 37 - 4095) ≡ None
unfolding lowest_gap
no_place = refl

-- two loads that share a page, and the stack
abbrev segment : ℕ → ℕ → ℕ → Segment
segment vaddr memsz bits = record { vaddr = vaddr; memsz = memsz; perms = record { 0 = bits }; bytes = [] }

begins_with : image_areas_of (segment 0x10000 0x1800 5 ∷ segment 0x11800 0x1000 3 ∷ []) ≡ run 16 1 5 ∷ run 17 1 7 ∷ run 18 1 3 ∷ run 0x3FFFEF0 256 3 ∷ []
unfolding put_runs
begins_with = refl

-- two loads in one page, the higher one first in the file, and one whose bytes go on in the next page
abbrev load : ℕ → List ℕ → Segment
load vaddr bytes = record { vaddr = vaddr; memsz = 16; perms = record { 0 = 5 }; bytes = bytes }

abbrev loads : List Segment
loads = load 0x20ffe (7 ∷ 8 ∷ 9 ∷ []) ∷ load 0x10004 (3 ∷ []) ∷ load 0x10000 (1 ∷ 2 ∷ []) ∷ load 0x30000 [] ∷ []

pages_in_rising_order : filled_pages loads ≡ 0x10 ∷ 0x20 ∷ 0x21 ∷ []
pages_in_rising_order = refl

from_the_first_byte_to_the_last : (first_byte loads 0x10 ≡ 0x10000) × (last_end loads 0x10 ≡ 0x10005)
from_the_first_byte_to_the_last = (refl, refl)

zeros_between_loads : (loaded loads 0x10001 ≡ 2) × (loaded loads 0x10002 ≡ 0) × (loaded loads 0x10004 ≡ 3)
zeros_between_loads = (refl, refl, refl)

cut_where_the_page_ends : (last_end loads 0x20 ≡ 0x21000) × (first_byte loads 0x21 ≡ 0x21000) × (last_end loads 0x21 ≡ 0x21001)
cut_where_the_page_ends = (refl, refl, refl)

a_stack_meets_the_page_after : (pages_met 0x20ffe 2 ≡ 1) × (pages_met 0x20ffe 3 ≡ 2)
a_stack_meets_the_page_after = (refl, refl)
