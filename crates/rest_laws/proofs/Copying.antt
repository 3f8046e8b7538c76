-- Regions that are copied for a child: who isn't a target keeps the same before and after.
use Rattle.std.proofs.Common.{◌≡◌, ◌/◌, ◌==◌, ◌&&◌, [], ◌∷◌, ◌∙◌, ℕ, Bool, List, None, Some, ap, cond, eqb, false, inl, inr, is_some, length, refl, subst, sym, true}
use Rattle.std.proofs.lemmas.Bool.{eqb-true}
use Rattle.std.proofs.lemmas.Bool.Decides.{eqb_tells}
use Rattle.std.specs.Option.{IsSome}
use Rattle.lego_base.specs.Keys.{is_page_of, key_at}
use Rattle.lego_base.specs.Space.{perms_of}
use Rattle.lego_base.specs.declared.ids.MemId.{MemId}
use Rattle.lego_base.specs.declared.ids.RegionNo.{RegionNo}
use Rattle.lego_base.specs.declared.records.HomeEntry.{HomeEntry}
use Rattle.lego_msg.specs.Form.{IsRegionList}
use Rattle.lego_msg.specs.Granted.{CopyFits}
use Rattle.lego_msg.specs.Maps.{owner_of}
use Rattle.lego_msg.specs.Plain.{Plain, with_region_of, with_regions_of}
use Rattle.lego_msg.specs.declared.operation.Operation.TheVariants.{Copies}
use Rattle.lego_rest.specs.Fits.{PlainFits}
use Rattle.lego_rest.specs.Parts.{Areas, Cell, Home, Page, is_owner, owns, share}
use Rattle.rest_laws.proofs.Changed.{at_main, at_second, kept_elsewhere, not_owner}
use Rattle.rest_laws.proofs.Truth.{both_true, some_none}
use Rattle.rest_laws.proofs.Noted.{eqb_sym}
use Rattle.rest_laws.proofs.Unchanged.{owners_stay}
use Rattle.rest_laws.specs.KindsEnding.{CopiesEnd}

-- ONE REGION

same_copied_one : (n : ℕ) (owners : List HomeEntry) (f : Plain) (parent child r : ℕ) (owner : MemId) (j : ℕ) → owner_of owners child r ≡ Some owner → (j ≡ owner.0 → ⊥) → (c : Cell) → share n owners f j c ≡ share n owners (with_region_of parent child r f) j c
same_copied_one n owners f parent child r owner j owned differ (Home p q) = refl
same_copied_one n owners f parent child r owner j owned differ (Areas p q) = kept_elsewhere (owns owners j p q) (child == p && r == q) (f.areas parent q) (f.areas p q) [] (not_owner owners j p q child r owner owned differ)
same_copied_one n owners f parent child r owner j owned differ (Page p vpn) = kept_elsewhere (owns owners j p (vpn / 512)) (is_page_of child r (key_at p vpn)) (f.page parent vpn) (f.page p vpn) None apart
  where
    apart : owns owners j p (vpn / 512) ≡ true → is_page_of child r (key_at p vpn) ≡ true → ⊥
    apart owns_it this =
        let same = both_true (p == child) (vpn / 512 == r) this in
        let is : owner_of owners p (vpn / 512) ≡ Some owner = (λ i. owner_of owners (eqb-true p child same.0 i) (eqb-true (vpn / 512) r same.1 i)) ∙ owned in
        let holder : eqb owner.0 j ≡ true = sym (ap (is_owner j) is) ∙ owns_it in
        differ (sym (eqb-true owner.0 j holder))

copy_fits_one : (n : ℕ) (owners : List HomeEntry) (f : Plain) (parent child r : ℕ) (owner : MemId) → owner_of owners child r ≡ Some owner → PlainFits n owners f → PlainFits n owners (with_region_of parent child r f)
copy_fits_one n owners f parent child r owner owned fits = record {
  rise = fits.rise;
  within = fits.within;
  areas = areas;
  pages = pages;
  homes = fits.homes;
  mapped = mapped;
  whole = λ p vpn bytes e. whole (is_page_of child r (key_at p vpn)) p vpn bytes e;
  lists = λ p q. form (child == p && r == q) p q;
  numbers = fits.numbers;
}
  where
    areas : (p q : ℕ) → owner_of owners p q ≡ None → cond (child == p && r == q) (f.areas parent q) (f.areas p q) ≡ []
    areas p q none = by (child == p && r == q) refl
      where
        by : (x : Bool) → (child == p && r == q) ≡ x → cond x (f.areas parent q) (f.areas p q) ≡ []
        by true this =
            let same = both_true (child == p) (r == q) this in
            absurd (some_none owner (sym owned ∙ (λ i. owner_of owners (eqb-true child p same.0 i) (eqb-true r q same.1 i)) ∙ none))
        by false this = fits.areas p q none

    pages : (p vpn : ℕ) → owner_of owners p (vpn / 512) ≡ None → cond (is_page_of child r (key_at p vpn)) (f.page parent vpn) (f.page p vpn) ≡ None
    pages p vpn none = by (is_page_of child r (key_at p vpn)) refl
      where
        by : (x : Bool) → is_page_of child r (key_at p vpn) ≡ x → cond x (f.page parent vpn) (f.page p vpn) ≡ None
        by true this =
            let same = both_true (p == child) (vpn / 512 == r) this in
            absurd (some_none owner (sym owned ∙ (λ i. owner_of owners (sym (eqb-true p child same.0) i) (sym (eqb-true (vpn / 512) r same.1) i)) ∙ none))
        by false this = fits.pages p vpn none

    -- the test of a region's areas and that of its pages say the same
    tests_agree : (p vpn : ℕ) → (child == p && r == vpn / 512) ≡ is_page_of child r (key_at p vpn)
    tests_agree p vpn = λ i. eqb_sym child p i && eqb_sym r (vpn / 512) i

    mapped : (p vpn : ℕ) → is_some (cond (is_page_of child r (key_at p vpn)) (f.page parent vpn) (f.page p vpn)) ≡ true → IsSome (perms_of (cond (child == p && r == vpn / 512) (f.areas parent (vpn / 512)) (f.areas p (vpn / 512))) vpn)
    mapped p vpn there =
        subst (λ (b : Bool). IsSome (perms_of (cond b (f.areas parent (vpn / 512)) (f.areas p (vpn / 512))) vpn)) (sym (tests_agree p vpn)) (by (is_page_of child r (key_at p vpn)) there)
      where
        by : (x : Bool) → is_some (cond x (f.page parent vpn) (f.page p vpn)) ≡ true → IsSome (perms_of (cond x (f.areas parent (vpn / 512)) (f.areas p (vpn / 512))) vpn)
        by true there = fits.mapped parent vpn there
        by false there = fits.mapped p vpn there

    whole : (x : Bool) (p vpn : ℕ) (bytes : List ℕ) → cond x (f.page parent vpn) (f.page p vpn) ≡ Some bytes → length bytes ≡ 4096
    whole true p vpn bytes e = fits.whole parent vpn bytes e
    whole false p vpn bytes e = fits.whole p vpn bytes e

    form : (x : Bool) (p q : ℕ) → IsRegionList q (cond x (f.areas parent q) (f.areas p q))
    form true p q = fits.lists parent q
    form false p q = fits.lists p q

-- ALL REGIONS, one after the other

pub same_copied : (n : ℕ) (owners : List HomeEntry) (parent child : ℕ) (regions : List RegionNo) (f : Plain) (owner : MemId) (j : ℕ) → CopyFits owners parent child owner regions → (j ≡ owner.0 → ⊥) → (c : Cell) → share n owners f j c ≡ share n owners (with_regions_of parent child regions f) j c
same_copied n owners parent child [] f owner j fit differ c = refl
same_copied n owners parent child (r ∷ regions) f owner j fit differ c =
    same_copied_one n owners f parent child r.0 owner j fit.1 differ c
    ∙ same_copied n owners parent child regions (with_region_of parent child r.0 f) owner j fit.2 differ c

copy_fits : (n : ℕ) (owners : List HomeEntry) (parent child : ℕ) (regions : List RegionNo) (f : Plain) (owner : MemId) → CopyFits owners parent child owner regions → PlainFits n owners f → PlainFits n owners (with_regions_of parent child regions f)
copy_fits n owners parent child [] f owner fit fits = fits
copy_fits n owners parent child (r ∷ regions) f owner fit fits = copy_fits n owners parent child regions (with_region_of parent child r.0 f) owner fit.2 (copy_fits_one n owners f parent child r.0 owner fit.1 fits)

files_stay : (parent child : ℕ) (regions : List RegionNo) (f : Plain) → f.files ≡ (with_regions_of parent child regions f).files
files_stay parent child [] f = refl
files_stay parent child (r ∷ regions) f = files_stay parent child regions (with_region_of parent child r.0 f)

pub copies-end : CopiesEnd
copies-end n owners f parent child regions owner fits fit = record {
  main = λ j. elim (eqb_tells j owner.0) [
    | inl e ↦ inl (at_main n j owner.0 _ e.1)
    | inr e ↦ inr (same_copied n owners parent.0 child.0 regions f owner j fit e.1)
  ];
  second = λ j. elim (eqb_tells j owner.0) [
    | inl e ↦ inl (at_second n j owner.0 _ e.1)
    | inr e ↦ inr (λ p q. same_copied n owners parent.0 child.0 regions f owner j fit e.1 (Home p q), λ p q. same_copied n owners parent.0 child.0 regions f owner j fit e.1 (Areas p q))
  ];
  pages = λ j. inl refl;
  files = inr (files_stay parent.0 child.0 regions f);
  owners_end = owners_stay n owners (with_regions_of parent.0 child.0 regions f) (Copies parent child regions owner) (copy_fits n owners parent.0 child.0 regions f owner fit fits);
}
