-- Messages in form: what the code of a memory or of storage asks of a message that it is given.
use Rattle.std.specs.List.{AllByRecursion}
use Rattle.std.specs.Prelude.{◌≡◌, ◌+◌, ◌*◌, ◌/◌, ◌<◌, ◌≤◌, ◌==◌, ◌&&◌, [], ◌∷◌, ℕ, Bool, List, false, length, true}
use Rattle.lego_base.specs.Files.{is_file}
use Rattle.lego_base.specs.Keys.{Key, same_key}
use Rattle.lego_base.specs.declared.ids.RegionNo.{RegionNo}
use Rattle.lego_base.specs.declared.records.Area.{Area}
use Rattle.lego_base.specs.declared.records.PageImage.{PageImage}
use Rattle.lego_base.specs.declared.records.Patch.{Patch}
use Rattle.lego_base.specs.declared.records.SpaceAreas.{SpaceAreas}
use Rattle.lego_msg.specs.Maps.{areas_key, home_key, page_key}
use Rattle.lego_msg.specs.State.{Disk}
use Rattle.lego_msg.specs.declared.body.Body.{Body}
use Rattle.lego_msg.specs.declared.body.Body.TheVariants.{Backup, BlockCut, BlockGet, BlockIs, BlockPut, CopySpace, FileCut, FileRead, FileSize, FileWrite, ImageCopy, LogWrite, PushImages, PushMeta, ResetImages, SetAreas, Unmap, Write}

-- whether an area goes on where another ends, with the same permissions
abbrev pub goes_on : Area → Area → Bool
goes_on a b = a.first.0 + a.pages == b.first.0 && a.perms.0 == b.perms.0

abbrev pub IsBefore : Area → List Area → Type 0
IsBefore a [] = Unit {0}
IsBefore a (b ∷ areas) = (a.first.0 + a.pages ≤ b.first.0) × (goes_on a b ≡ false)

-- areas of one region: each has a page and lies in the region, they rise, and none goes on where the one before it ends
abbrev pub IsRegionList : ℕ → List Area → Type 0
IsRegionList region [] = Unit {0}
IsRegionList region (a ∷ areas) = (0 < a.pages) × (region * 512 ≤ a.first.0) × (a.first.0 + a.pages ≤ region * 512 + 512) × IsBefore a areas × IsRegionList region areas

-- each key once
abbrev pub IsNone : {X : Type 0} → (X → Key) → Key → List X → Type 0
IsNone key k [] = Unit {0}
IsNone key k (x ∷ xs) = (same_key (key x) k ≡ false) × IsNone key k xs

abbrev pub EachOnce : {X : Type 0} → (X → Key) → List X → Type 0
EachOnce key [] = Unit {0}
EachOnce key (x ∷ xs) = IsNone key (key x) xs × EachOnce key xs

-- pages of one region, each once, of 4096 bytes
abbrev pub ArePages : ℕ → ℕ → List PageImage → Type 0
ArePages pid region pages = EachOnce page_key pages × AllByRecursion (λ (p : PageImage). (p.pid.0 ≡ pid) × (p.vpn.0 / 512 ≡ region) × (length p.bytes ≡ 4096)) pages

-- the bytes of a patch end within its page
abbrev pub IsWithinPage : Patch → Type 0
IsWithinPage p = p.off + length p.bytes ≤ 4096

-- regions that rise: each is below all that follow it
abbrev pub RegionsRise : List RegionNo → Type 0
RegionsRise [] = Unit {0}
RegionsRise (r ∷ regions) = AllByRecursion (λ (s : RegionNo). r.0 < s.0) regions × RegionsRise regions

-- a space is copied for another process, region by region
abbrev pub IsCopy : ℕ → ℕ → List RegionNo → Type 0
IsCopy parent child regions = ((parent == child) ≡ false) × RegionsRise regions

-- bytes within one block of a file of at most 16777216 bytes
abbrev pub IsInBlock : ℕ → ℕ → ℕ → Type 0
IsInBlock block off len = (block < 4096) × (off + len ≤ 4096)

-- what holds of a body by itself
abbrev pub InForm : Body → Type 0
InForm (Write patch) = IsWithinPage patch
InForm (LogWrite patch) = IsWithinPage patch
InForm (Backup patches) = AllByRecursion IsWithinPage patches
InForm (CopySpace parent child regions role) = IsCopy parent.0 child.0 regions
InForm (ImageCopy parent child regions) = IsCopy parent.0 child.0 regions
InForm (SetAreas pid region areas role) = IsRegionList region.0 areas
InForm (Unmap pid region first pages areas role) = IsRegionList region.0 areas
InForm (PushMeta role homes areas) = EachOnce home_key homes × EachOnce areas_key areas × AllByRecursion (λ (a : SpaceAreas). IsRegionList a.region.0 a.areas) areas
InForm (PushImages pid region pages) = ArePages pid.0 region.0 pages
InForm (ResetImages pid region pages) = ArePages pid.0 region.0 pages
InForm (FileRead file block off len) = IsInBlock block off len
InForm (FileWrite file block off bytes) = IsInBlock block off (length bytes)
InForm (FileCut file size) = size ≤ 16777216
InForm (BlockGet file block off len asker) = IsInBlock block off len
InForm (BlockIs file block off len asker bytes) = IsInBlock block off len × (length bytes ≡ 4096)
InForm (BlockPut file block off bytes asker) = IsInBlock block off (length bytes)
InForm (BlockCut file size asker) = size ≤ 16777216
InForm other = Unit {0}

-- and besides, for storage: the file that a request is about is there
abbrev pub HasFile : Disk → Body → Type 0
HasFile d (FileSize file) = is_file d.files.files file.0 ≡ true
HasFile d (BlockGet file block off len asker) = is_file d.files.files file.0 ≡ true
HasFile d (BlockPut file block off bytes asker) = is_file d.files.files file.0 ≡ true
HasFile d (BlockCut file size asker) = is_file d.files.files file.0 ≡ true
HasFile d other = Unit {0}
