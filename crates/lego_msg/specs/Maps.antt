-- What components list: owners of regions, areas of regions, and pages. Each is a finite map by process and number.
use Rattle.std.specs.Prelude.{◌==◌, ◌&&◌, if◌then◌else◌, [], ◌∷◌, ℕ, List, None, Option, Some, map}
use Rattle.lego_base.specs.Keys.{Key, find, is_at, is_page_of, key_at, put, put_all, those, without}
use Rattle.lego_base.specs.Pieces.{laid_over, zeros}
use Rattle.lego_base.specs.declared.ids.MemId.{MemId}
use Rattle.lego_base.specs.declared.ids.Pid.{Pid}
use Rattle.lego_base.specs.declared.ids.RegionNo.{RegionNo}
use Rattle.lego_base.specs.declared.records.Area.{Area}
use Rattle.lego_base.specs.declared.records.HomeEntry.{HomeEntry}
use Rattle.lego_base.specs.declared.records.PageImage.{PageImage}
use Rattle.lego_base.specs.declared.records.Patch.{Patch}
use Rattle.lego_base.specs.declared.records.SpaceAreas.{SpaceAreas}
use Rattle.lego_msg.specs.Places.{memory}

-- HOMES: which memory owns a region
abbrev pub home_key : HomeEntry → Key
home_key e = key_at e.pid.0 e.region.0

abbrev pub owner_in : Option HomeEntry → Option MemId
owner_in None = None
owner_in (Some e) = Some e.owner

abbrev pub owner_of : List HomeEntry → ℕ → ℕ → Option MemId
owner_of homes pid region = owner_in (find home_key (key_at pid region) homes)

-- the entries of a memory's regions
abbrev pub owned_by : ℕ → List HomeEntry → List HomeEntry
owned_by memory [] = []
owned_by memory (e ∷ homes) = if e.owner.0 == memory then e ∷ owned_by memory homes else owned_by memory homes

-- AREAS: the areas of a region. A list of none isn't kept.

abbrev pub areas_key : SpaceAreas → Key
areas_key a = key_at a.pid.0 a.region.0

abbrev pub areas_in : Option SpaceAreas → List Area
areas_in None = []
areas_in (Some a) = a.areas

abbrev pub areas_at : List SpaceAreas → ℕ → ℕ → List Area
areas_at lists pid region = areas_in (find areas_key (key_at pid region) lists)

abbrev pub with_areas : Pid → RegionNo → List Area → List SpaceAreas → List SpaceAreas
with_areas pid region [] lists = without areas_key (is_at pid.0 region.0) lists
with_areas pid region (area ∷ areas) lists = put areas_key (record { pid = pid; region = region; areas = area ∷ areas }) lists

abbrev pub with_all_areas : List SpaceAreas → List SpaceAreas → List SpaceAreas
with_all_areas [] lists = lists
with_all_areas (a ∷ more) lists = with_all_areas more (with_areas a.pid a.region a.areas lists)

-- the child's lists of these regions become the parent's
abbrev pub copied_areas : ℕ → Pid → List RegionNo → List SpaceAreas → List SpaceAreas
copied_areas parent child [] lists = lists
copied_areas parent child (region ∷ regions) lists = copied_areas parent child regions (with_areas child region (areas_at lists parent region.0) lists)

-- PAGES: the present pages of a memory, or the images at storage. An absent page reads 0.

abbrev pub page_key : PageImage → Key
page_key p = key_at p.pid.0 p.vpn.0

abbrev pub image_bytes : Option PageImage → Option (List ℕ)
image_bytes None = None
image_bytes (Some p) = Some p.bytes

-- the bytes of a page, where it is there
abbrev pub page_in : List PageImage → ℕ → ℕ → Option (List ℕ)
page_in pages pid vpn = image_bytes (find page_key (key_at pid vpn) pages)

abbrev pub bytes_or_zeros : Option (List ℕ) → List ℕ
bytes_or_zeros None = zeros 4096
bytes_or_zeros (Some bytes) = bytes

abbrev pub page_at : List PageImage → ℕ → ℕ → List ℕ
page_at pages pid vpn = bytes_or_zeros (page_in pages pid vpn)

-- a page with a patch laid over it, where the patch is of that page
abbrev pub laid_on : Patch → ℕ → ℕ → Option (List ℕ) → Option (List ℕ)
laid_on p pid vpn page = if p.pid.0 == pid && p.vpn.0 == vpn then Some (laid_over (bytes_or_zeros page) p.off p.bytes) else page

-- the pages with a patch laid over them
abbrev pub patched : Patch → List PageImage → List PageImage
patched p pages = put page_key (record { pid = p.pid; vpn = p.vpn; bytes = laid_over (page_at pages p.pid.0 p.vpn.0) p.off p.bytes }) pages

-- with patches laid over them in order
abbrev pub overlaid : List Patch → List PageImage → List PageImage
overlaid [] pages = pages
overlaid (p ∷ patches) pages = overlaid patches (patched p pages)

abbrev pub pages_of : ℕ → ℕ → List PageImage → List PageImage
pages_of pid region pages = those page_key (is_page_of pid region) pages

-- a region's pages become these
abbrev pub with_pages : ℕ → ℕ → List PageImage → List PageImage → List PageImage
with_pages pid region new pages = put_all page_key new (without page_key (is_page_of pid region) pages)

abbrev pub for_child : Pid → PageImage → PageImage
for_child child p = record { pid = child; vpn = p.vpn; bytes = p.bytes }

-- the child's pages of these regions become the parent's
abbrev pub copied_pages : ℕ → Pid → List RegionNo → List PageImage → List PageImage
copied_pages parent child [] pages = pages
copied_pages parent child (region ∷ regions) pages = copied_pages parent child regions (with_pages child.0 region.0 (map (for_child child) (pages_of parent region.0 pages)) pages)
