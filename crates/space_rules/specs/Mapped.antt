-- The pages that a process begins with: those of the loads of its image, and the stack.
use Rattle.std.specs.Prelude.{◌≡◌, ℕ, zero, suc, ◌+◌, ◌-◌, ◌*◌, ◌/◌, ◌≤◌, bit_or, Bool, ◌&&◌, nat_lt, if◌then◌else◌, List, [], ◌∷◌, length, Option, Some, None}
use Rattle.std.specs.List.{AllByRecursion}
use Rattle.lego_base.specs.declared.perms.Perms.{Perms}
use Rattle.lego_base.specs.declared.records.Area.{Area}
use Rattle.lego_base.specs.Space.{perms_of}
use Rattle.area_list.specs.Runs.{put_runs, in_range, IsCanonical}
use Rattle.elf_image.specs.declared.image.Segment.{Segment}
use Rattle.elf_image.specs.Image.{IsBoundedSegment}
use Rattle.space_rules.specs.declared.TheConstants.{STACK_START, STACK_END}

-- the permissions of a page together with more
abbrev pub union : Option Perms → Perms → Perms
union None more = more
union (Some perms) more = record { 0 = bit_or perms.0 more.0 }

-- `pages` pages, starting at `first`, get these permissions in addition to those that they have
abbrev pub with_pages : ℕ → ℕ → Perms → List Area → List Area
with_pages first zero perms runs = runs
with_pages first (suc pages) perms runs = with_pages (first + 1) pages perms (put_runs first 1 (union (perms_of runs first) perms) runs)

-- the pages that a load meets
abbrev pub first_page : Segment → ℕ
first_page s = s.vaddr / 4096

abbrev pub page_count : Segment → ℕ
page_count s = (s.vaddr + s.memsz - 1) / 4096 + 1 - first_page s

-- each page that a load meets is mapped with the union of the permissions of the loads that meet it
abbrev pub areas_of : List Segment → List Area → List Area
areas_of [] runs = runs
areas_of (s ∷ segments) runs = areas_of segments (with_pages (first_page s) (page_count s) s.perms runs)

-- READ (1) and WRITE (2)
abbrev pub read_write : Perms
read_write = record { 0 = 3 }

-- the pages of the stack
abbrev pub stack_page : ℕ
stack_page = STACK_START / 4096

abbrev pub stack_pages : ℕ
stack_pages = (STACK_END - STACK_START) / 4096

-- the pages of the loads, and the stack
abbrev pub image_areas_of : List Segment → List Area
image_areas_of segments = put_runs stack_page stack_pages read_write (areas_of segments [])

-- a load's range shares an address with a page
abbrev pub meets : Segment → ℕ → Bool
meets s page = nat_lt s.vaddr ((page + 1) * 4096) && nat_lt (page * 4096) (s.vaddr + s.memsz)

-- the permissions of a page after some loads: those that it had, and those of the loads that meet it
abbrev pub perms_of_loads : List Segment → Option Perms → ℕ → Option Perms
perms_of_loads [] perms page = perms
perms_of_loads (s ∷ segments) perms page = perms_of_loads segments (if meets s page then Some (union perms s.perms) else perms) page

-- Booting maps each page that a load meets with the union of the permissions of the loads that meet it, and no
-- other page.
abbrev pub BootMapsTheLoads : Type 0
BootMapsTheLoads =
    (segments : List Segment) → AllByRecursion IsBoundedSegment segments
    → IsCanonical (areas_of segments [])
    × ((page : ℕ) → perms_of (areas_of segments []) page ≡ perms_of_loads segments None page)

-- A process begins with each page that a load meets, as above, with the pages of the stack to read and to write, and
-- with no other page.
abbrev pub ImageMapsLoadsAndStack : Type 0
ImageMapsLoadsAndStack =
    (segments : List Segment) → AllByRecursion IsBoundedSegment segments
    → IsCanonical (image_areas_of segments)
    × ((page : ℕ) → perms_of (image_areas_of segments) page ≡ in_range stack_page stack_pages page (Some read_write) (perms_of_loads segments None page))

-- It begins with few runs: each begins where a load or the stack begins or ends.
abbrev pub ImageHasFewRuns : Type 0
ImageHasFewRuns =
    (segments : List Segment) → AllByRecursion IsBoundedSegment segments
    → length (image_areas_of segments) ≤ length segments + length segments + 2
