-- What components and the plain map are compared by: cells, and what each component keeps of them.
use Rattle.std.specs.Prelude.{◌≡◌, ◌⊎◌, ◌/◌, ◌==◌, if◌then◌else◌, [], ℕ, Bool, List, None, Option, Some, false, true}
use Rattle.lego_base.specs.declared.ids.MemId.{MemId}
use Rattle.lego_base.specs.declared.records.Area.{Area}
use Rattle.lego_base.specs.declared.records.HomeEntry.{HomeEntry}
use Rattle.lego_base.specs.declared.records.PageImage.{PageImage}
use Rattle.lego_msg.specs.Maps.{areas_at, overlaid, owner_of, page_in}
use Rattle.lego_msg.specs.Places.{home_of}
use Rattle.lego_msg.specs.Plain.{Plain, effect}
use Rattle.lego_msg.specs.State.{Kept, Mem}
use Rattle.lego_msg.specs.Track.{Track, memory_count}
use Rattle.lego_msg.specs.declared.operation.Open.{Open}

-- a cell: the owner of a region as its home knows it, the areas of a region, a page that is there or not
pub data Cell : Type 0 where
  Home : ℕ → ℕ → Cell
  Areas : ℕ → ℕ → Cell
  Page : ℕ → ℕ → Cell

abbrev pub Held : Cell → Type 0
Held (Home pid region) = Option MemId
Held (Areas pid region) = List Area
Held (Page pid vpn) = Option (List ℕ)

abbrev pub plain_at : Plain → (c : Cell) → Held c
plain_at f (Home pid region) = f.homes pid region
plain_at f (Areas pid region) = f.areas pid region
plain_at f (Page pid vpn) = f.page pid vpn

abbrev pub nothing_at : (c : Cell) → Held c
nothing_at (Home pid region) = None
nothing_at (Areas pid region) = []
nothing_at (Page pid vpn) = None

-- SHARES: what a memory keeps for its own sake, of n memories

abbrev pub is_owner : ℕ → Option MemId → Bool
is_owner m None = false
is_owner m (Some o) = o.0 == m

abbrev pub owns : List HomeEntry → ℕ → ℕ → ℕ → Bool
owns owners m pid region = is_owner m (owner_of owners pid region)

abbrev pub keeps : ℕ → List HomeEntry → ℕ → Cell → Bool
keeps n owners m (Home pid region) = home_of n pid == m
keeps n owners m (Areas pid region) = owns owners m pid region
keeps n owners m (Page pid vpn) = owns owners m pid (vpn / 512)

-- a memory's share of a plain map
abbrev pub share : ℕ → List HomeEntry → Plain → ℕ → (c : Cell) → Held c
share n owners f m c = if keeps n owners m c then plain_at f c else nothing_at c

-- PARTS: what lists hold of cells

abbrev pub part_of : Kept → List PageImage → (c : Cell) → Held c
part_of k pages (Home pid region) = owner_of k.homes pid region
part_of k pages (Areas pid region) = areas_at k.areas pid region
part_of k pages (Page pid vpn) = page_in pages pid vpn

-- for its own sake
abbrev pub main_part : Mem → (c : Cell) → Held c
main_part s c = part_of s.main s.pages c

-- for the memory m whose secondary it is, with storage: the images with the log laid over them, of the regions of m
abbrev pub second_part : List HomeEntry → List PageImage → ℕ → Mem → (c : Cell) → Held c
second_part owners images m x (Home pid region) = owner_of x.spare.homes pid region
second_part owners images m x (Areas pid region) = areas_at x.spare.areas pid region
second_part owners images m x (Page pid vpn) = if owns owners m pid (vpn / 512) then page_in (overlaid x.log images) pid vpn else None

-- OLD OR NEW: each cell is the old or the new, and the new where it is due
pub record Holds (due : Cell → Bool) (part old new : (c : Cell) → Held c) : Type 0 where
  pub either : (c : Cell) → (part c ≡ old c) ⊎ (part c ≡ new c)
  pub told : (c : Cell) → due c ≡ true → part c ≡ new c

-- the two plain maps between which components are: before the open operation, and once it is complete
pub record Sides : Type 0 where
  -- how many memories there are, and who owns which region
  pub n : ℕ
  pub owners : List HomeEntry
  pub old : Plain
  pub new : Plain

abbrev pub plain_with : Option Open → Plain → Plain
plain_with None f = f
plain_with (Some o) f = effect o.operation f

abbrev pub sides_of : Track → Sides
sides_of t = record { n = memory_count t.shape; owners = t.owners; old = t.plain; new = plain_with t.current t.plain }

abbrev pub old_share : Sides → ℕ → (c : Cell) → Held c
old_share b m c = share b.n b.owners b.old m c

abbrev pub new_share : Sides → ℕ → (c : Cell) → Held c
new_share b m c = share b.n b.owners b.new m c

abbrev pub IsEither : Sides → ℕ → (c : Cell) → Held c → Type 0
IsEither b m c held = (held ≡ old_share b m c) ⊎ (held ≡ new_share b m c)
