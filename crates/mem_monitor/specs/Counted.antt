-- Regions that are copied: how many pages they have, and what is left where a process has none there.
use Rattle.std.specs.Prelude.{◌+◌, [], ◌∷◌, ℕ, List, length}
use Rattle.lego_base.specs.Keys.{is_page_of, without}
use Rattle.lego_base.specs.declared.ids.RegionNo.{RegionNo}
use Rattle.lego_base.specs.declared.records.PageImage.{PageImage}
use Rattle.lego_msg.specs.Maps.{page_key, pages_of}

-- how many pages some regions have
abbrev pub counts : ℕ → List RegionNo → List PageImage → ℕ
counts pid [] pages = 0
counts pid (r ∷ regions) pages = length (pages_of pid r.0 pages) + counts pid regions pages

-- the pages without those of some regions
abbrev pub cleared : ℕ → List RegionNo → List PageImage → List PageImage
cleared pid [] pages = pages
cleared pid (r ∷ regions) pages = cleared pid regions (without page_key (is_page_of pid r.0) pages)
