-- What a caller owes where an operation begins: of the owners of regions, of the plain map, and of the logs.
use Rattle.std.specs.List.{AllByRecursion}
use Rattle.std.specs.Prelude.{◌≡◌, ◌+◌, ◌*◌, ◌/◌, ◌<◌, ◌≤◌, ◌==◌, ◌&&◌, ◌||◌, [], ◌∷◌, ℕ, Bool, IsSome, List, None, Some, false, length, slice_get, true}
use Rattle.lego_base.specs.Files.{is_file}
use Rattle.lego_base.specs.Keys.{Rises, is_of, is_page_from, key_at}
use Rattle.lego_base.specs.Space.{perms_of}
use Rattle.lego_base.specs.declared.ids.FileNo.{FileNo}
use Rattle.lego_base.specs.declared.ids.MemId.{MemId}
use Rattle.lego_base.specs.declared.ids.RegionNo.{RegionNo}
use Rattle.lego_base.specs.declared.records.Area.{Area}
use Rattle.lego_base.specs.declared.records.HomeEntry.{HomeEntry}
use Rattle.lego_base.specs.declared.records.Patch.{Patch}
use Rattle.lego_msg.specs.Form.{IsCopy, IsInBlock, IsRegionList, IsWithinPage}
use Rattle.lego_msg.specs.Maps.{home_key, owner_of}
use Rattle.lego_msg.specs.Places.{is_issuer}
use Rattle.lego_msg.specs.Plain.{IsMapped, Plain, touched}
use Rattle.lego_msg.specs.State.{Mem}
use Rattle.lego_msg.specs.Track.{Track, memory_count}
use Rattle.lego_msg.specs.declared.operation.Operation.{Operation}
use Rattle.lego_msg.specs.declared.operation.Operation.TheVariants.{AsksAreas, AsksSize, Copies, CutsFile, Drains, Drops, Heals, Reads, ReadsFile, SetsAreas, SetsHome, Unmaps, Writes, WritesFile}
use Rattle.lego_msg.specs.declared.place.Place.{Place}

-- a patch has bytes, and they lie in its page
abbrev pub PatchFits : Patch → Type 0
PatchFits p = (0 < length p.bytes) × IsWithinPage p

-- a page is written: its region's owner is named, and the page is mapped
pub record WriteFits (owners : List HomeEntry) (f : Plain) (p : Patch) (owner : MemId) : Type 0 where
  pub owned : owner_of owners p.pid.0 (p.vpn.0 / 512) ≡ Some owner
  pub mapped : IsMapped f p.pid.0 p.vpn.0
  pub patch : PatchFits p

-- a region's areas change: pages that are there stay mapped
pub record AreasFit (owners : List HomeEntry) (f : Plain) (pid region : ℕ) (areas : List Area) (owner : MemId) : Type 0 where
  pub owned : owner_of owners pid region ≡ Some owner
  pub form : IsRegionList region areas
  pub stay : (vpn : ℕ) → vpn / 512 ≡ region → touched f pid vpn ≡ true → IsSome (perms_of areas vpn)

-- pages of a region are unmapped: the others keep their permissions
pub record UnmapFits (owners : List HomeEntry) (f : Plain) (pid region first pages : ℕ) (areas : List Area) (owner : MemId) : Type 0 where
  pub owned : owner_of owners pid region ≡ Some owner
  pub form : IsRegionList region areas
  pub within : (region * 512 ≤ first) × (first + pages ≤ region * 512 + 512)
  pub inside : (vpn : ℕ) → is_page_from pid first pages (key_at pid vpn) ≡ true → perms_of areas vpn ≡ None
  pub outside : (vpn : ℕ) → vpn / 512 ≡ region → is_page_from pid first pages (key_at pid vpn) ≡ false → perms_of areas vpn ≡ perms_of (f.areas pid region) vpn

-- regions are copied within one memory, which owns them for the parent and for the child
abbrev pub CopyFits : List HomeEntry → ℕ → ℕ → MemId → List RegionNo → Type 0
CopyFits owners parent child owner [] = Unit {0}
CopyFits owners parent child owner (r ∷ regions) = (owner_of owners parent r.0 ≡ Some owner) × (owner_of owners child r.0 ≡ Some owner) × CopyFits owners parent child owner regions

abbrev pub is_region_in : ℕ → List RegionNo → Bool
is_region_in number [] = false
is_region_in number (r ∷ regions) = r.0 == number || is_region_in number regions

-- and the child, which is new, has no pages there yet
abbrev pub IsBare : Plain → ℕ → List RegionNo → Type 0
IsBare f child regions = (vpn : ℕ) → is_region_in (vpn / 512) regions ≡ true → f.page child vpn ≡ None

abbrev pub FileFits : Plain → FileNo → Type 0
FileFits f file = is_file f.files.files file.0 ≡ true

-- What an operation asks of the owners of regions, those included that come with it, and of the plain map before it. The
-- messages of a healing are nobody's to call for.
abbrev pub OpFits : List HomeEntry → Plain → Operation → Type 0
OpFits owners f (Reads pid line owner) = owner_of owners pid.0 (line.0 / 32768) ≡ Some owner
OpFits owners f (Writes origin patch owner) = WriteFits owners f patch owner
OpFits owners f (SetsHome pid region owner) = owner_of owners pid.0 region.0 ≡ Some owner
OpFits owners f (SetsAreas pid region areas owner) = AreasFit owners f pid.0 region.0 areas owner
OpFits owners f (AsksAreas pid region owner) = owner_of owners pid.0 region.0 ≡ Some owner
OpFits owners f (Unmaps pid region first pages areas owner) = UnmapFits owners f pid.0 region.0 first.0 pages areas owner
OpFits owners f (Copies parent child regions owner) =
    IsCopy parent.0 child.0 regions × CopyFits owners parent.0 child.0 owner regions × IsBare f child.0 regions
OpFits owners f (ReadsFile file block off len) = FileFits f file × IsInBlock block off len
OpFits owners f (WritesFile file block off bytes) = FileFits f file × IsInBlock block off (length bytes)
OpFits owners f (CutsFile file size) = FileFits f file × (size ≤ 16777216)
OpFits owners f (AsksSize file) = FileFits f file
OpFits owners f (Heals to what) = ⊥
OpFits owners f other = Unit {0}

-- LOGS: before pages go or are copied no log has a patch of them. The drains before such an operation see to it.

-- whether the operation asks that no log has a patch of this page
abbrev pub asks_clear : Operation → ℕ → ℕ → Bool
asks_clear (Unmaps p region first pages areas owner) pid vpn = is_page_from p.0 first.0 pages (key_at pid vpn)
asks_clear (Copies parent child regions owner) pid vpn = (parent.0 == pid || child.0 == pid) && is_region_in (vpn / 512) regions
asks_clear (Drops p) pid vpn = is_of p.0 (key_at pid vpn)
asks_clear other pid vpn = false

abbrev pub IsClear : Operation → List Patch → Type 0
IsClear operation log = AllByRecursion (λ (p : Patch). asks_clear operation p.pid.0 p.vpn.0 ≡ false) log

-- A drain is of a memory that is there, and so is a copy, of however few regions.
abbrev pub IsThere : ℕ → Operation → Type 0
IsThere n (Drains m) = m.0 < n
IsThere n (Copies parent child regions owner) = owner.0 < n
IsThere n other = Unit {0}

-- An operation is granted where the table of owners becomes `owners` with it: only regions without an owner get one.
pub record Granted (t : Track) (by : Place) (operation : Operation) (owners : List HomeEntry) : Type 0 where
  pub issuer : is_issuer by ≡ true
  pub grow : (pid region : ℕ) (o : MemId) → owner_of t.owners pid region ≡ Some o → owner_of owners pid region ≡ Some o
  pub within : (pid region : ℕ) (o : MemId) → owner_of owners pid region ≡ Some o → o.0 < memory_count t.shape
  pub rise : Rises home_key owners
  pub there : IsThere (memory_count t.shape) operation
  pub fits : OpFits owners t.plain operation
  pub clear : (m : ℕ) (s : Mem) → slice_get t.mems m ≡ Some s → IsClear operation s.log
