-- How a page store has its pages: a list of places that rises, and the frames.
use Rattle.std.specs.Prelude.{◌≡◌, ◌<◌, ◌==◌, ◌&&◌, ◌^◌, [], ◌∷◌, ℕ, Bool, List, None, Option, Some, count_by, false, is_some, length, map, slice_index_or, slice_set}
use Rattle.std.specs.List.{AllByRecursion}
use Rattle.lego_base.specs.Keys.{Key, Rises, key_at}
use Rattle.keyed_list.specs.Below.{is_within}
use Rattle.lego_base.specs.Pieces.{laid_over}
use Rattle.lego_base.specs.declared.ids.Pid.{Pid}
use Rattle.lego_base.specs.declared.ids.Vpn.{Vpn}
use Rattle.lego_base.specs.declared.records.PageImage.{PageImage}
use Rattle.page_store.specs.declared.frames.Page.{Page}
use Rattle.page_store.specs.declared.spot.Spot.{Spot}

abbrev pub spot_key : Spot → Key
spot_key s = key_at s.pid.0 s.vpn.0

-- the frame at a place, where there is one
abbrev pub frame_in : Option Spot → Option ℕ
frame_in None = None
frame_in (Some s) = Some s.frame

abbrev pub bytes_in : Option Page → List ℕ
bytes_in None = []
bytes_in (Some page) = page.bytes

abbrev pub page_image : Pid → Vpn → List ℕ → PageImage
page_image pid vpn bytes = record { pid = pid; vpn = vpn; bytes = bytes }

-- the page at a place
abbrev pub image : List (Option Page) → Spot → PageImage
image frames s = record { pid = s.pid; vpn = s.vpn; bytes = bytes_in (slice_index_or frames s.frame None) }

-- a frame with bytes laid over its own
abbrev pub laid : ℕ → List ℕ → Option Page → Option Page
laid off bytes None = None
laid off bytes (Some page) = Some (record page { bytes = laid_over page.bytes off bytes })

-- whether a frame holds this page
abbrev pub is_page : ℕ → ℕ → Option Page → Bool
is_page pid vpn None = false
is_page pid vpn (Some page) = page.pid.0 == pid && page.vpn.0 == vpn

-- a frame holds the page of a place
abbrev pub IsPageOf : Spot → Option Page → Type 0
IsPageOf s None = ⊥
IsPageOf s (Some page) = (page.pid.0 ≡ s.pid.0) × (page.vpn.0 ≡ s.vpn.0) × (length page.bytes ≡ 4096)

abbrev pub IsHeld : List (Option Page) → Spot → Type 0
IsHeld frames s = IsPageOf s (slice_index_or frames s.frame None)

abbrev pub AreHeld : List (Option Page) → List Spot → Type 0
AreHeld frames spots = AllByRecursion (IsHeld frames) spots

-- the pages at places
abbrev pub images : List (Option Page) → List Spot → List PageImage
images frames spots = map (image frames) spots

-- the places rise, each has its page in a frame, and no frame is without a place
pub record IsTied (spots : List Spot) (frames : List (Option Page)) : Type 0 where
  pub rises : Rises spot_key spots
  pub held : AreHeld frames spots
  pub each : count_by is_some frames ≡ length spots
  pub fit : AllByRecursion (λ (s : Spot). s.vpn.0 < 2 ^ 64) spots

-- the frames once those of some places are free
abbrev pub freed : List (Option Page) → List Spot → List (Option Page)
freed frames [] = frames
freed frames (s ∷ spots) = freed (slice_set frames s.frame None) spots

-- a test of keys says which pages of a process have a number from one to another, which counts too
abbrev pub SaysWithin : ℕ → ℕ → ℕ → (Key → Bool) → Type 0
SaysWithin pid first last test = (p n : ℕ) → n < 2 ^ 64 → test (key_at p n) ≡ is_within pid first last (key_at p n)
