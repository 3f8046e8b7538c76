-- What is handed over: pages of a region, and owners with areas, as they are taken from one list and put into another.
use Rattle.std.proofs.Common.{◌≡◌, ◌/◌, ◌==◌, ◌&&◌, [], ◌∷◌, ◌∙◌, ℕ, Bool, List, None, Option, Some, ap, cond, false, length, not, refl, subst, sym, true}
use Rattle.std.proofs.lemmas.Bool.{eq-eqb, eqb-true}
use Rattle.std.specs.List.{AllByRecursion}
use Rattle.lego_base.specs.Keys.{Key, Rises, find, is_below, is_page_of, key_at, put, put_all, same_key, those, without}
use Rattle.lego_base.specs.declared.ids.MemId.{MemId}
use Rattle.lego_base.specs.declared.ids.Pid.{Pid}
use Rattle.lego_base.specs.declared.ids.RegionNo.{RegionNo}
use Rattle.lego_base.specs.declared.records.Area.{Area}
use Rattle.lego_base.specs.declared.records.PageImage.{PageImage}
use Rattle.lego_base.specs.declared.records.SpaceAreas.{SpaceAreas}
use Rattle.keyed_list.proofs.Found.{above_differs}
use Rattle.keyed_list.proofs.Listed.{Rises-put, Rises-without, find-without}
use Rattle.lego_msg.specs.Form.{EachOnce, IsNone}
use Rattle.lego_msg.specs.Maps.{areas_in, areas_key, home_key, image_bytes, owner_in, page_in, page_key, pages_of, with_all_areas, with_areas, with_pages}
use Rattle.lego_msg.specs.State.{Kept}
use Rattle.lego_rest.specs.Fits.{ListFits, PagesFit}
use Rattle.lego_rest.specs.Heals.{MetaFits, PagesHanded, RegionFits}
use Rattle.lego_rest.specs.Parts.{Areas, Home, IsEither, Page, Sides}
use Rattle.rest_laws.proofs.Truth.{both_true}
use Rattle.rest_laws.proofs.kinds.Cells.{all_put, all_those}
use Rattle.healing_laws.proofs.Rising.{below_all, find_all, or_else}

module _ {X : Type 0} (key : X → Key) where
  -- what a test picks is what the others are without
  picked : (test : Key → Bool) (xs : List X) → without key (λ (k : Key). not (test k)) xs ≡ those key test xs
  picked test xs = λ i. those key (λ (k : Key). twice (test k) i) xs
    where
      twice : (b : Bool) → not (not b) ≡ b
      twice true = refl
      twice false = refl

  pub those_rise : (test : Key → Bool) (xs : List X) → Rises key xs → Rises key (those key test xs)
  those_rise test xs rise = subst (Rises key) (picked test xs) (Rises-without key (λ (k : Key). not (test k)) xs rise)

  pub find_those : (test : Key → Bool) (xs : List X) (k : Key) → test k ≡ true → find key k (those key test xs) ≡ find key k xs
  find_those test xs k is = ap (find key k) (sym (picked test xs)) ∙ find-without key (λ (j : Key). not (test j)) xs k ∙ ap (λ (b : Bool). cond (not b) None (find key k xs)) is

  pub those_are : (test : Key → Bool) (xs : List X) → AllByRecursion (λ (x : X). test (key x) ≡ true) (those key test xs)
  those_are test [] = tt
  those_are test (x ∷ xs) = by (test (key x)) refl (those_are test xs)
    where
      by : (b : Bool) → test (key x) ≡ b → AllByRecursion (λ (x : X). test (key x) ≡ true) (those key test xs) → AllByRecursion (λ (x : X). test (key x) ≡ true) (cond b (x ∷ those key test xs) (those key test xs))
      by true is rest = (is, rest)
      by false is rest = rest

  -- in a list that rises each key is there once
  pub each_once : (xs : List X) → Rises key xs → EachOnce key xs
  each_once [] rise = tt
  each_once (x ∷ xs) rise = (none xs (below_all key x xs rise.0 rise.1), each_once xs rise.1)
    where
      none : (ys : List X) → AllByRecursion (λ (y : X). is_below (key x) (key y) ≡ true) ys → IsNone key (key x) ys
      none [] below = tt
      none (y ∷ ys) below = (above_differs (key x) (key y) below.0, none ys below.1)

  pub all_put_rise : (xs ys : List X) → Rises key ys → Rises key (put_all key xs ys)
  all_put_rise [] ys rise = rise
  all_put_rise (x ∷ xs) ys rise = all_put_rise xs (put key x ys) (Rises-put key x ys rise)

  pub all_put_are : (P : X → Type 0) → (xs ys : List X) → AllByRecursion P xs → AllByRecursion P ys → AllByRecursion P (put_all key xs ys)
  all_put_are P [] ys first rest = rest
  all_put_are P (x ∷ xs) ys first rest = all_put_are P xs (put key x ys) first.1 (all_put key P x ys first.0 rest)

-- PAGES OF A REGION are taken from pages that are in form
pub pages_taken : (b : Sides) (m : ℕ) (pid : Pid) (region : RegionNo) (pages : List PageImage) → PagesFit pages → ((vpn : ℕ) → vpn / 512 ≡ region.0 → IsEither b m (Page pid.0 vpn) (page_in pages pid.0 vpn)) → PagesHanded b m pid.0 region.0 (pages_of pid.0 region.0 pages)
pages_taken b m pid region pages fits either = ((each_once page_key (pages_of pid.0 region.0 pages) rise, all (pages_of pid.0 region.0 pages) (those_are page_key (is_page_of pid.0 region.0) pages) whole), record { rise = rise; whole = whole }, found)
  where
    rise : Rises page_key (pages_of pid.0 region.0 pages)
    rise = those_rise page_key (is_page_of pid.0 region.0) pages fits.rise

    whole : AllByRecursion (λ (p : PageImage). length p.bytes ≡ 4096) (pages_of pid.0 region.0 pages)
    whole = all_those page_key (λ (p : PageImage). length p.bytes ≡ 4096) (is_page_of pid.0 region.0) pages fits.whole

    all : (ps : List PageImage) → AllByRecursion (λ (p : PageImage). is_page_of pid.0 region.0 (page_key p) ≡ true) ps → AllByRecursion (λ (p : PageImage). length p.bytes ≡ 4096) ps → AllByRecursion (λ (p : PageImage). (p.pid.0 ≡ pid.0) × (p.vpn.0 / 512 ≡ region.0) × (length p.bytes ≡ 4096)) ps
    all [] are lengths = tt
    all (p ∷ ps) are lengths = let both = both_true (p.pid.0 == pid.0) (p.vpn.0 / 512 == region.0) are.0 in ((eqb-true p.pid.0 pid.0 both.0, eqb-true (p.vpn.0 / 512) region.0 both.1, lengths.0), all ps are.1 lengths.1)

    found : (vpn : ℕ) → vpn / 512 ≡ region.0 → IsEither b m (Page pid.0 vpn) (page_in (pages_of pid.0 region.0 pages) pid.0 vpn)
    found vpn of = subst (λ (held : Option (List ℕ)). IsEither b m (Page pid.0 vpn) held) (ap image_bytes (sym (find_those page_key (is_page_of pid.0 region.0) pages (key_at pid.0 vpn) inside))) (either vpn of)
      where
        inside : is_page_of pid.0 region.0 (key_at pid.0 vpn) ≡ true
        inside = λ i. eq-eqb pid.0 pid.0 refl i && eq-eqb (vpn / 512) region.0 of i

-- AND PUT in the place of those of the region
module _ (b : Sides) (m : ℕ) (pid : Pid) (region : RegionNo) (new pages : List PageImage) (handed : PagesHanded b m pid.0 region.0 new) where
  found_with : (p vpn : ℕ) → find page_key (key_at p vpn) (with_pages pid.0 region.0 new pages) ≡ or_else (find page_key (key_at p vpn) new) (cond (is_page_of pid.0 region.0 (key_at p vpn)) None (find page_key (key_at p vpn) pages))
  found_with p vpn = find_all page_key new (without page_key (is_page_of pid.0 region.0) pages) (key_at p vpn) handed.1.rise ∙ ap (or_else (find page_key (key_at p vpn) new)) (find-without page_key (is_page_of pid.0 region.0) pages (key_at p vpn))

  pub region_with : (vpn : ℕ) → vpn / 512 ≡ region.0 → page_in (with_pages pid.0 region.0 new pages) pid.0 vpn ≡ page_in new pid.0 vpn
  region_with vpn of = ap image_bytes (found_with pid.0 vpn ∙ ap (λ (b : Bool). or_else (find page_key (key_at pid.0 vpn) new) (cond b None (find page_key (key_at pid.0 vpn) pages))) inside ∙ none (find page_key (key_at pid.0 vpn) new))
    where
      inside : is_page_of pid.0 region.0 (key_at pid.0 vpn) ≡ true
      inside = λ i. eq-eqb pid.0 pid.0 refl i && eq-eqb (vpn / 512) region.0 of i

      none : (o : Option PageImage) → or_else o None ≡ o
      none None = refl
      none (Some x) = refl

  -- other pages stay
  pub others_with : (p vpn : ℕ) → is_page_of pid.0 region.0 (key_at p vpn) ≡ false → page_in (with_pages pid.0 region.0 new pages) p vpn ≡ page_in pages p vpn
  others_with p vpn other = ap image_bytes (found_with p vpn ∙ ap (λ (b : Bool). or_else (find page_key (key_at p vpn) new) (cond b None (find page_key (key_at p vpn) pages))) other ∙ ap (λ (o : Option PageImage). or_else o (find page_key (key_at p vpn) pages)) (absent new handed.0.1))
    where
      absent : (ps : List PageImage) → AllByRecursion (λ (q : PageImage). (q.pid.0 ≡ pid.0) × (q.vpn.0 / 512 ≡ region.0) × (length q.bytes ≡ 4096)) ps → find page_key (key_at p vpn) ps ≡ None
      absent [] all = refl
      absent (q ∷ ps) all = by (same_key (page_key q) (key_at p vpn)) refl (absent ps all.1)
        where
          by : (b : Bool) → same_key (page_key q) (key_at p vpn) ≡ b → find page_key (key_at p vpn) ps ≡ None → cond b (Some q) (find page_key (key_at p vpn) ps) ≡ None
          by false e rest = rest
          by true e rest =
              let same = both_true (q.pid.0 == p) (q.vpn.0 == vpn) e in
              let process : p ≡ pid.0 = sym (eqb-true q.pid.0 p same.0) ∙ all.0.0 in
              let place : vpn / 512 ≡ region.0 = ap (λ (v : ℕ). v / 512) (sym (eqb-true q.vpn.0 vpn same.1)) ∙ all.0.1 in
              let inside : is_page_of pid.0 region.0 (key_at p vpn) ≡ true = (λ i. eq-eqb p pid.0 process i && eq-eqb (vpn / 512) region.0 place i) in
              let both : true ≡ false = sym inside ∙ other in
              cc both

  pub fit_with : PagesFit pages → PagesFit (with_pages pid.0 region.0 new pages)
  fit_with fits = record {
    rise = all_put_rise page_key new (without page_key (is_page_of pid.0 region.0) pages) (Rises-without page_key (is_page_of pid.0 region.0) pages fits.rise);
    whole = all_put_are page_key (λ (p : PageImage). length p.bytes ≡ 4096) new (without page_key (is_page_of pid.0 region.0) pages) handed.1.whole (all_those page_key (λ (p : PageImage). length p.bytes ≡ 4096) (λ (k : Key). not (is_page_of pid.0 region.0 k)) pages fits.whole);
  }

  -- the region has what was handed over, and other regions stay
  pub region_fits : RegionFits b m pid.0 region.0 (with_pages pid.0 region.0 new pages)
  region_fits vpn of = subst (λ (held : Option (List ℕ)). IsEither b m (Page pid.0 vpn) held) (sym (region_with vpn of)) (handed.2 vpn of)

-- OWNERS AND AREAS are put into a memory that has none of them

-- lists that are kept have areas
listed : (xs ys : List SpaceAreas) → AllByRecursion ListFits xs → with_all_areas xs ys ≡ put_all areas_key xs ys
listed [] ys fit = refl
listed (a ∷ xs) ys fit = ap (with_all_areas xs) (one a ys fit.0.1) ∙ listed xs (put areas_key a ys) fit.1
  where
    one : (a : SpaceAreas) (ys : List SpaceAreas) → (length a.areas == 0) ≡ false → with_areas a.pid a.region a.areas ys ≡ put areas_key a ys
    one a ys some = by a.areas refl some
      where
        by : (areas : List Area) → a.areas ≡ areas → (length areas == 0) ≡ false → with_areas a.pid a.region areas ys ≡ put areas_key (record { pid = a.pid; region = a.region; areas = a.areas }) ys
        by [] is e = cc e
        by (area ∷ areas) is e = ap (λ (l : List Area). put areas_key (record { pid = a.pid; region = a.region; areas = l }) ys) (sym is)

found_again : {X : Type 0} (key : X → Key) → (xs : List X) (k : Key) → Rises key xs → find key k (put_all key xs []) ≡ find key k xs
found_again {X = X} key xs k rise = find_all key xs [] k rise ∙ none (find key k xs)
  where
    none : (o : Option X) → or_else o None ≡ o
    none None = refl
    none (Some x) = refl

pub meta_put : (b : Sides) (m : ℕ) (k : Kept) → MetaFits b m k → MetaFits b m (record { homes = put_all home_key k.homes []; areas = with_all_areas k.areas [] })
meta_put b m k fits = record {
  form = record {
    homes = all_put_rise home_key k.homes [] tt;
    areas = subst (Rises areas_key) (sym (listed k.areas [] fits.form.lists)) (all_put_rise areas_key k.areas [] tt);
    lists = subst (AllByRecursion ListFits) (sym (listed k.areas [] fits.form.lists)) (all_put_are areas_key ListFits k.areas [] fits.form.lists tt);
  };
  homes = λ pid region. subst (λ (held : Option MemId). IsEither b m (Home pid region) held) (ap owner_in (sym (found_again home_key k.homes (key_at pid region) fits.form.homes))) (fits.homes pid region);
  areas = λ pid region. subst (λ (held : List Area). IsEither b m (Areas pid region) held) (ap areas_in (sym (ap (find areas_key (key_at pid region)) (listed k.areas [] fits.form.lists) ∙ found_again areas_key k.areas (key_at pid region) fits.form.areas))) (fits.areas pid region);
}
