-- Cells that a row sets, and lists that stay in form.
use Rattle.std.proofs.Common.{◌≡◌, ◌⊎◌, ◌+◌, ◌≤◌, ◌==◌, ◌&&◌, [], ◌∷◌, ◌∙◌, ℕ, Bool, List, None, Option, Some, ap, arith, cond, false, inl, inr, length, not, refl, sym, true}
use Rattle.std.proofs.lemmas.Bool.{eqb-true}
use Rattle.std.specs.List.{AllByRecursion}
use Rattle.keyed_list.proofs.Listed.{Rises-put, Rises-without, find-put, find-without}
use Rattle.lego_base.specs.Keys.{Key, Rises, find, is_at, is_below, key_at, put, same_key, those, without}
use Rattle.lego_base.specs.declared.ids.MemId.{MemId}
use Rattle.lego_base.specs.declared.ids.Pid.{Pid}
use Rattle.lego_base.specs.declared.ids.RegionNo.{RegionNo}
use Rattle.lego_base.specs.declared.records.Area.{Area}
use Rattle.lego_base.specs.declared.records.HomeEntry.{HomeEntry}
use Rattle.lego_base.specs.declared.records.PageImage.{PageImage}
use Rattle.lego_base.specs.declared.records.SpaceAreas.{SpaceAreas}
use Rattle.lego_base.specs.Pieces.{laid_over}
use Rattle.lego_base.specs.declared.records.Patch.{Patch}
use Rattle.lego_msg.specs.Granted.{PatchFits}
use Rattle.rest_laws.proofs.Changed.{laid_length, whole_page}
use Rattle.lego_msg.specs.Form.{IsRegionList}
use Rattle.lego_msg.specs.Maps.{areas_at, areas_in, areas_key, bytes_or_zeros, home_key, image_bytes, overlaid, owner_in, owner_of, page_in, page_key, patched, with_areas}
use Rattle.lego_rest.specs.Fits.{ListFits, PagesFit}
use Rattle.lego_rest.specs.Parts.{owns}
use Rattle.rest_laws.proofs.Truth.{both_true, not_zero}
use Rattle.rest_laws.proofs.kinds.Asking.{owner_owns}

-- A CELL THAT IS SET: where the test holds it is the value, and it is one that this memory keeps; else it is as before
pub set_cell : {X : Type 0} (test keep : Bool) (value was old nothing : X) → (test ≡ true → keep ≡ true) → (was ≡ cond keep old nothing) ⊎ (was ≡ cond keep (cond test value old) nothing) → cond test value was ≡ cond keep (cond test value old) nothing
set_cell true true value was old nothing kept either = refl
set_cell true false value was old nothing kept either = let both : false ≡ true = kept refl in cc both
set_cell false keep value was old nothing kept (inl e) = e
set_cell false keep value was old nothing kept (inr e) = e

-- A CELL THAT GOES: where the test holds nothing is there any more, whoever keeps it
pub gone_cell : {X : Type 0} (test keep : Bool) (was old nothing : X) → (was ≡ cond keep old nothing) ⊎ (was ≡ cond keep (cond test nothing old) nothing) → cond test nothing was ≡ cond keep (cond test nothing old) nothing
gone_cell true true was old nothing either = refl
gone_cell true false was old nothing either = refl
gone_cell false keep was old nothing (inl e) = e
gone_cell false keep was old nothing (inr e) = e

-- a cell of which the old and the new agree
pub agreed : {X : Type 0} (held old new : X) → old ≡ new → (held ≡ old) ⊎ (held ≡ new) → held ≡ new
agreed held old new same (inl e) = e ∙ same
agreed held old new same (inr e) = e

-- HOMES
pub owner_put : (e : HomeEntry) (homes : List HomeEntry) (p r : ℕ) → owner_of (put home_key e homes) p r ≡ cond (e.pid.0 == p && e.region.0 == r) (Some e.owner) (owner_of homes p r)
owner_put e homes p r = ap owner_in (find-put home_key e homes (key_at p r)) ∙ either (e.pid.0 == p && e.region.0 == r) (find home_key (key_at p r) homes)
  where
    either : (b : Bool) (o : Option HomeEntry) → owner_in (cond b (Some e) o) ≡ cond b (Some e.owner) (owner_in o)
    either true o = refl
    either false o = refl

-- the region that is named has the owner that is
pub owns_this : (owners : List HomeEntry) (pid region p r : ℕ) (owner : MemId) → owner_of owners pid region ≡ Some owner → (pid == p && region == r) ≡ true → owns owners owner.0 p r ≡ true
owns_this owners pid region p r owner owned this =
    let same = both_true (pid == p) (region == r) this in
    owner_owns owners p r owner (sym (λ i. owner_of owners (eqb-true pid p same.0 i) (eqb-true region r same.1 i)) ∙ owned)

-- LISTS IN FORM
pub all_put : {X : Type 0} (key : X → Key) (P : X → Type 0) → (x : X) (xs : List X) → P x → AllByRecursion P xs → AllByRecursion P (put key x xs)
all_put key P x [] now all = (now, tt)
all_put key P x (y ∷ ys) now all = by (is_below (key x) (key y)) (same_key (key x) (key y)) (all_put key P x ys now all.1)
  where
    by : (b c : Bool) → AllByRecursion P (put key x ys) → AllByRecursion P (cond b (x ∷ y ∷ ys) (cond c (x ∷ ys) (y ∷ put key x ys)))
    by true c rest = (now, all)
    by false true rest = (now, all.1)
    by false false rest = (all.0, rest)

pub all_those : {X : Type 0} (key : X → Key) (P : X → Type 0) → (test : Key → Bool) (xs : List X) → AllByRecursion P xs → AllByRecursion P (those key test xs)
all_those key P test [] all = tt
all_those key P test (x ∷ xs) all = by (test (key x)) (all_those key P test xs all.1)
  where
    by : (b : Bool) → AllByRecursion P (those key test xs) → AllByRecursion P (cond b (x ∷ those key test xs) (those key test xs))
    by true rest = (all.0, rest)
    by false rest = rest

pub areas_rise : (p : Pid) (r : RegionNo) (areas : List Area) (lists : List SpaceAreas) → Rises areas_key lists → Rises areas_key (with_areas p r areas lists)
areas_rise p r [] lists rise = Rises-without areas_key (is_at p.0 r.0) lists rise
areas_rise p r (area ∷ areas) lists rise = Rises-put areas_key (record { pid = p; region = r; areas = area ∷ areas }) lists rise

pub areas_form : (p : Pid) (r : RegionNo) (areas : List Area) (lists : List SpaceAreas) → IsRegionList r.0 areas → AllByRecursion ListFits lists → AllByRecursion ListFits (with_areas p r areas lists)
areas_form p r [] lists form all = all_those areas_key ListFits (λ (k : Key). not (is_at p.0 r.0 k)) lists all
areas_form p r (area ∷ areas) lists form all = all_put areas_key ListFits (record { pid = p; region = r; areas = area ∷ areas }) lists (form, not_zero (length (area ∷ areas)) (omega arith)) all

-- a page that is found is one of those listed
pub found_whole : (pages : List PageImage) (pid vpn : ℕ) → AllByRecursion (λ (p : PageImage). length p.bytes ≡ 4096) pages → (bytes : List ℕ) → page_in pages pid vpn ≡ Some bytes → length bytes ≡ 4096
found_whole [] pid vpn all bytes is = cc is
found_whole (p ∷ pages) pid vpn all bytes is = by (same_key (page_key p) (key_at pid vpn)) is (found_whole pages pid vpn all.1 bytes)
  where
    same_some : (x y : List ℕ) → Some x ≡ Some y → x ≡ y
    same_some x y e = cc e

    by : (b : Bool) → image_bytes (cond b (Some p) (find page_key (key_at pid vpn) pages)) ≡ Some bytes → (page_in pages pid vpn ≡ Some bytes → length bytes ≡ 4096) → length bytes ≡ 4096
    by true is rest = ap length (sym (same_some p.bytes bytes is)) ∙ all.0
    by false is rest = rest is

-- WHAT IS TAKEN OUT
pub page_without : (test : Key → Bool) (pages : List PageImage) (p vpn : ℕ) → page_in (without page_key test pages) p vpn ≡ cond (test (key_at p vpn)) None (page_in pages p vpn)
page_without test pages p vpn = ap image_bytes (find-without page_key test pages (key_at p vpn)) ∙ either (test (key_at p vpn)) (find page_key (key_at p vpn) pages)
  where
    either : (b : Bool) (o : Option PageImage) → image_bytes (cond b None o) ≡ cond b None (image_bytes o)
    either true o = refl
    either false o = refl

pub owner_without : (test : Key → Bool) (homes : List HomeEntry) (p r : ℕ) → owner_of (without home_key test homes) p r ≡ cond (test (key_at p r)) None (owner_of homes p r)
owner_without test homes p r = ap owner_in (find-without home_key test homes (key_at p r)) ∙ either (test (key_at p r)) (find home_key (key_at p r) homes)
  where
    either : (b : Bool) (o : Option HomeEntry) → owner_in (cond b None o) ≡ cond b None (owner_in o)
    either true o = refl
    either false o = refl

pub areas_without : (test : Key → Bool) (lists : List SpaceAreas) (p r : ℕ) → areas_at (without areas_key test lists) p r ≡ cond (test (key_at p r)) [] (areas_at lists p r)
areas_without test lists p r = ap areas_in (find-without areas_key test lists (key_at p r)) ∙ either (test (key_at p r)) (find areas_key (key_at p r) lists)
  where
    either : (b : Bool) (o : Option SpaceAreas) → areas_in (cond b None o) ≡ cond b [] (areas_in o)
    either true o = refl
    either false o = refl

pub fewer_those : {X : Type 0} (key : X → Key) (test : Key → Bool) (xs : List X) → length (those key test xs) ≤ length xs
fewer_those key test [] = omega arith
fewer_those key test (x ∷ xs) = by (test (key x)) (fewer_those key test xs)
  where
    by : (b : Bool) → length (those key test xs) ≤ length xs → length (cond b (x ∷ those key test xs) (those key test xs)) ≤ length (x ∷ xs)
    by true less = omega (arith, less)
    by false less = omega (arith, less)

pub fewer_pages : (test : Key → Bool) (pages : List PageImage) (frames : ℕ) → length pages ≤ frames → length (without page_key test pages) ≤ frames
fewer_pages test pages frames most = let less : length (without page_key test pages) ≤ length pages = fewer_those page_key (λ (k : Key). not (test k)) pages in omega (arith, less, most)

pub pages_left_fit : (test : Key → Bool) (pages : List PageImage) → PagesFit pages → PagesFit (without page_key test pages)
pages_left_fit test pages fits = record { rise = Rises-without page_key test pages fits.rise; whole = all_those page_key (λ (p : PageImage). length p.bytes ≡ 4096) (λ (k : Key). not (test k)) pages fits.whole }

-- PATCHES laid over pages
pub patched_fit : (p : Patch) (pages : List PageImage) → PatchFits p → PagesFit pages → PagesFit (patched p pages)
patched_fit p pages patch fits = record {
  rise = Rises-put page_key laid pages fits.rise;
  whole = all_put page_key (λ (q : PageImage). length q.bytes ≡ 4096) laid pages (laid_length (bytes_or_zeros (page_in pages p.pid.0 p.vpn.0)) p.off p.bytes within ∙ page_whole) fits.whole;
}
  where
    laid : PageImage
    laid = record { pid = p.pid; vpn = p.vpn; bytes = laid_over (bytes_or_zeros (page_in pages p.pid.0 p.vpn.0)) p.off p.bytes }

    page_whole : length (bytes_or_zeros (page_in pages p.pid.0 p.vpn.0)) ≡ 4096
    page_whole = whole_page (page_in pages p.pid.0 p.vpn.0) (found_whole pages p.pid.0 p.vpn.0 fits.whole)

    within : p.off + length p.bytes ≤ length (bytes_or_zeros (page_in pages p.pid.0 p.vpn.0))
    within = let most = patch.1 in omega (arith, most, page_whole)

pub overlaid_fit : (ps : List Patch) (pages : List PageImage) → AllByRecursion PatchFits ps → PagesFit pages → PagesFit (overlaid ps pages)
overlaid_fit [] pages patches fits = fits
overlaid_fit (p ∷ ps) pages patches fits = overlaid_fit ps (patched p pages) patches.1 (patched_fit p pages patches.0 fits)
