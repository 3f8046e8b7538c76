-- What contracts see of a page store: how many pages it may hold, and those that are present, as lego_msg's memory has them.
use Rattle.std.specs.Prelude.{[], ◌∷◌, ℕ, Bool, List, length, nat_lt}
use Rattle.lego_base.specs.declared.ids.Pid.{Pid}
use Rattle.lego_base.specs.declared.ids.RegionNo.{RegionNo}
use Rattle.lego_base.specs.declared.ids.Vpn.{Vpn}
use Rattle.lego_base.specs.declared.records.PageImage.{PageImage}
use Rattle.lego_base.specs.declared.records.Patch.{Patch}
use Rattle.lego_msg.specs.Maps.{copied_pages}

pub record Store : Type 0 where
  -- how many pages may be present
  pub frames : ℕ
  -- the present pages, rising by process and page
  pub pages : List PageImage

abbrev pub holding : Store → List PageImage → Store
holding s pages = record s { pages = pages }

-- whether these pages are too many
abbrev pub are_too_many : Store → List PageImage → Bool
are_too_many s pages = nat_lt s.frames (length pages)

-- bytes for a page, as a patch
abbrev pub patch_of : Pid → Vpn → ℕ → List ℕ → Patch
patch_of pid vpn off bytes = record { pid = pid; vpn = vpn; off = off; bytes = bytes }

-- a whole page, as a patch
abbrev pub whole : PageImage → Patch
whole p = patch_of p.pid p.vpn 0 p.bytes

-- the pages once the child's of a region became the parent's
abbrev pub copied : Pid → Pid → RegionNo → List PageImage → List PageImage
copied parent child region pages = copied_pages parent.0 child (region ∷ []) pages
