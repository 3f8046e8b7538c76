-- Laws of the lists that components hold: what is found in a list after it changed. None of them asks that a list is in
-- order.
use Rattle.std.specs.Prelude.{◌≡◌, ◌==◌, ◌&&◌, if◌then◌else◌, ℕ, Bool, List, None, Some}
use Rattle.lego_base.specs.Keys.{Key, find, put, same_key, without}
use Rattle.lego_base.specs.declared.ids.Pid.{Pid}
use Rattle.lego_base.specs.declared.ids.RegionNo.{RegionNo}
use Rattle.lego_base.specs.declared.records.Area.{Area}
use Rattle.lego_base.specs.declared.records.HomeEntry.{HomeEntry}
use Rattle.lego_base.specs.declared.records.PageImage.{PageImage}
use Rattle.lego_base.specs.declared.records.Patch.{Patch}
use Rattle.lego_base.specs.declared.records.SpaceAreas.{SpaceAreas}
use Rattle.lego_msg.specs.Maps.{areas_at, home_key, laid_on, overlaid, page_in, patched, with_areas}
use Rattle.lego_rest.specs.Fits.{over}

-- an entry that is put is found under its key, and under every other key what was found before
abbrev pub FindPut : Type 0
FindPut = (x : HomeEntry) (homes : List HomeEntry) (k : Key) →
    find home_key k (put home_key x homes) ≡ (if same_key (home_key x) k then Some x else find home_key k homes)

-- what a test picks is gone, and all else is found as before
abbrev pub FindWithout : Type 0
FindWithout = (test : Key → Bool) (homes : List HomeEntry) (k : Key) →
    find home_key k (without home_key test homes) ≡ (if test k then None else find home_key k homes)

-- a region has the areas that were set, and every other one has what it had; a list of none is as good as no entry
abbrev pub AreasWith : Type 0
AreasWith = (p : Pid) (r : RegionNo) (areas : List Area) (lists : List SpaceAreas) (pid region : ℕ) →
    areas_at (with_areas p r areas lists) pid region ≡ (if p.0 == pid && r.0 == region then areas else areas_at lists pid region)

-- a patch changes its page alone, and patches one after the other
abbrev pub PagePatched : Type 0
PagePatched = (p : Patch) (pages : List PageImage) (pid vpn : ℕ) →
    page_in (patched p pages) pid vpn ≡ laid_on p pid vpn (page_in pages pid vpn)

abbrev pub PageOverlaid : Type 0
PageOverlaid = (patches : List Patch) (pages : List PageImage) (pid vpn : ℕ) →
    page_in (overlaid patches pages) pid vpn ≡ over patches pid vpn (page_in pages pid vpn)
