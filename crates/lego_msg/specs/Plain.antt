-- The plain map: who owns each region by its home, the areas of each region, the pages that are there, and the files.
-- Only the completion of an operation changes it.
use Rattle.std.specs.Prelude.{◌/◌, ◌%◌, ◌==◌, ◌&&◌, if◌then◌else◌, [], ◌∷◌, ℕ, Bool, IsSome, List, None, Option, Some, is_some, slice_index}
use Rattle.lego_base.specs.Keys.{is_of, is_page_from, is_page_of, key_at}
use Rattle.lego_base.specs.Space.{perms_of}
use Rattle.lego_base.specs.declared.ids.MemId.{MemId}
use Rattle.lego_base.specs.declared.ids.RegionNo.{RegionNo}
use Rattle.lego_base.specs.declared.records.Area.{Area}
use Rattle.lego_base.specs.declared.records.Patch.{Patch}
use Rattle.lego_msg.specs.Files.{Files, file_cut, file_written, freed, made, unnamed}
use Rattle.lego_msg.specs.Maps.{bytes_or_zeros, laid_on}
use Rattle.lego_msg.specs.declared.operation.Operation.{Operation}
use Rattle.lego_msg.specs.declared.operation.Operation.TheVariants.{Copies, CutsFile, CutsName, Drops, FreesFile, MakesName, SetsAreas, SetsHome, Unmaps, Writes, WritesFile}

pub record Plain : Type 0 where
  -- by process and region
  pub homes : ℕ → ℕ → Option MemId
  pub areas : ℕ → ℕ → List Area
  -- the 4096 bytes of each page that is there, by process and page
  pub page : ℕ → ℕ → Option (List ℕ)
  pub files : Files

abbrev pub no_plain : Files → Plain
no_plain files = record { homes = λ pid region. None; areas = λ pid region. []; page = λ pid vpn. None; files = files }

-- whether a page is there: it was written since it was mapped
abbrev pub touched : Plain → ℕ → ℕ → Bool
touched f pid vpn = is_some (f.page pid vpn)

-- the byte at an address: 0 in a page that isn't there
abbrev pub byte_at : Plain → ℕ → ℕ → ℕ
byte_at f pid address = slice_index (bytes_or_zeros (f.page pid (address / 4096))) (address % 4096)

-- a page is mapped
abbrev pub IsMapped : Plain → ℕ → ℕ → Type 0
IsMapped f pid vpn = IsSome (perms_of (f.areas pid (vpn / 512)) vpn)

-- WHAT CHANGES IT

abbrev pub with_home_of : ℕ → ℕ → MemId → Plain → Plain
with_home_of p r owner f = record f { homes = λ pid region. if p == pid && r == region then Some owner else f.homes pid region }

-- the areas of one region
abbrev pub with_region : ℕ → ℕ → List Area → Plain → Plain
with_region p r areas f = record f { areas = λ pid region. if p == pid && r == region then areas else f.areas pid region }

-- the bytes of a patch in its page
abbrev pub with_patch : Patch → Plain → Plain
with_patch p f = record f { page = λ pid vpn. laid_on p pid vpn (f.page pid vpn) }

-- n pages aren't there any more, starting at the first
abbrev pub without_pages : ℕ → ℕ → ℕ → Plain → Plain
without_pages p first n f = record f { page = λ pid vpn. if is_page_from p first n (key_at pid vpn) then None else f.page pid vpn }

-- a child's areas and pages in a region become its parent's
abbrev pub with_region_of : ℕ → ℕ → ℕ → Plain → Plain
with_region_of parent child r f = record f {
  areas = λ pid region. if child == pid && r == region then f.areas parent region else f.areas pid region;
  page = λ pid vpn. if is_page_of child r (key_at pid vpn) then f.page parent vpn else f.page pid vpn;
}

abbrev pub with_regions_of : ℕ → ℕ → List RegionNo → Plain → Plain
with_regions_of parent child [] f = f
with_regions_of parent child (region ∷ regions) f = with_regions_of parent child regions (with_region_of parent child region.0 f)

-- nothing of a process
abbrev pub without_space : ℕ → Plain → Plain
without_space p f = record f {
  homes = λ pid region. if is_of p (key_at pid region) then None else f.homes pid region;
  areas = λ pid region. if is_of p (key_at pid region) then [] else f.areas pid region;
  page = λ pid vpn. if is_of p (key_at pid vpn) then None else f.page pid vpn;
}

abbrev pub with_files : Files → Plain → Plain
with_files files f = record f { files = files }

-- the plain map once an operation is complete
abbrev pub effect : Operation → Plain → Plain
effect (Writes origin patch owner) f = with_patch patch f
effect (SetsHome pid region owner) f = with_home_of pid.0 region.0 owner f
effect (SetsAreas pid region areas owner) f = with_region pid.0 region.0 areas f
effect (Unmaps pid region first pages areas owner) f = without_pages pid.0 first.0 pages (with_region pid.0 region.0 areas f)
effect (Copies parent child regions owner) f = with_regions_of parent.0 child.0 regions f
effect (Drops pid) f = without_space pid.0 f
effect (WritesFile file block off bytes) f = with_files (record f.files { files = file_written f.files file.0 block off bytes }) f
effect (CutsFile file size) f = with_files (record f.files { files = file_cut f.files file.0 size }) f
effect (MakesName name) f = with_files (made f.files name) f
effect (CutsName name) f = with_files (unnamed f.files name) f
effect (FreesFile file) f = with_files (freed f.files file.0) f
effect other f = f
