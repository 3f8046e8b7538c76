-- Operations on a region: who isn't a target keeps the same before and after.
use Rattle.std.proofs.Common.{◌≡◌, ◌+◌, ◌-◌, ◌*◌, ◌/◌, ◌<◌, ◌≤◌, ◌==◌, ◌&&◌, ◌||◌, [], ◌++◌, ◌∙◌, ℕ, Bool, List, None, Option, Some, ap, arith, cond, drop, eqb, false, inl, inr, is_some, leb, length, length-append, ltb, refl, subst, sym, take, true}
use Rattle.std.proofs.lemmas.Bool.{eq-eqb, eqb-true, leb-true, ltb-true}
use Rattle.std.proofs.lemmas.Bool.Decides.{eqb_tells}
use Rattle.std.proofs.lemmas.List.{length-drop, length-replicate, length-take-le}
use Rattle.lego_base.specs.Keys.{is_page_from, key_at}
use Rattle.lego_base.specs.Pieces.{laid_over}
use Rattle.lego_base.specs.Space.{perms_of}
use Rattle.lego_base.specs.declared.perms.Perms.{Perms}
use Rattle.std.specs.Option.{IsSome}
use Rattle.lego_base.specs.declared.ids.MemId.{MemId}
use Rattle.lego_base.specs.declared.records.Area.{Area}
use Rattle.lego_base.specs.declared.records.HomeEntry.{HomeEntry}
use Rattle.lego_base.specs.declared.records.Patch.{Patch}
use Rattle.lego_msg.specs.Form.{IsRegionList}
use Rattle.lego_msg.specs.Granted.{AreasFit, UnmapFits, WriteFits}
use Rattle.lego_msg.specs.Maps.{bytes_or_zeros, laid_on, owner_of}
use Rattle.lego_msg.specs.Places.{home_of, secondary_of}
use Rattle.lego_msg.specs.Plain.{IsMapped, Plain, touched, with_home_of, with_patch, with_region, without_pages}
use Rattle.lego_msg.specs.declared.operation.Operation.TheVariants.{AsksAreas, AsksSize, Copies, CutsFile, CutsName, Drains, Drops, Finds, FreesFile, GetsName, Heals, ListsNames, MakesName, Reads, ReadsFile, SetsAreas, SetsHome, Unmaps, Writes, WritesFile}
use Rattle.lego_rest.specs.Fits.{PlainFits}
use Rattle.lego_rest.specs.Parts.{Areas, Cell, Home, Page, is_owner, owns, share}
use Rattle.rest_laws.proofs.Truth.{both_true, some_none}
use Rattle.rest_laws.proofs.Unchanged.{owners_stay}
use Rattle.rest_laws.specs.KindsEnding.{RegionChangesEnd}

-- WHO IS A TARGET of an operation at a memory h and its secondary

or_right : (a b c : Bool) → b ≡ true → (a || b || c) ≡ true
or_right true b c e = refl
or_right false b c e = ap (λ (x : Bool). x || c) e

-- the memory itself, and its secondary, which come second and first among the targets
pub at_main : (n j h : ℕ) (rest : Bool) → j ≡ h → (eqb j (secondary_of n h) || (eqb j h || rest)) ≡ true
at_main n j h rest same = by (eqb j (secondary_of n h)) (eqb j h) (eq-eqb j h same)
  where
    by : (a b : Bool) → b ≡ true → (a || (b || rest)) ≡ true
    by true b e = refl
    by false b e = ap (λ (x : Bool). x || rest) e

pub at_second : (n j h : ℕ) (rest : Bool) → j ≡ h → (eqb (secondary_of n j) (secondary_of n h) || rest) ≡ true
at_second n j h rest same = ap (λ (x : Bool). x || rest) (eq-eqb (secondary_of n j) (secondary_of n h) (ap (secondary_of n) same))

-- a cell that another memory keeps isn't the one that changes
pub kept_elsewhere : {X : Type 0} (keep this : Bool) (new old nothing : X) → (keep ≡ true → this ≡ true → ⊥) → cond keep old nothing ≡ cond keep (cond this new old) nothing
kept_elsewhere true true new old nothing apart = absurd (apart refl refl)
kept_elsewhere true false new old nothing apart = refl
kept_elsewhere false this new old nothing apart = refl

-- the owner of a region isn't another memory
pub not_owner : (owners : List HomeEntry) (j p r pid region : ℕ) (owner : MemId) → owner_of owners pid region ≡ Some owner → (j ≡ owner.0 → ⊥) → owns owners j p r ≡ true → (pid == p && region == r) ≡ true → ⊥
not_owner owners j p r pid region owner owned differ owns_it this =
    let same = both_true (pid == p) (region == r) this in
    let is : owner_of owners p r ≡ Some owner = (λ i. owner_of owners (sym (eqb-true pid p same.0) i) (sym (eqb-true region r same.1) i)) ∙ owned in
    let holder : eqb owner.0 j ≡ true = sym (ap (is_owner j) is) ∙ owns_it in
    differ (sym (eqb-true owner.0 j holder))

-- A HOME

home_elsewhere : (n j p r pid region : ℕ) → (j ≡ home_of n pid → ⊥) → (home_of n p == j) ≡ true → (pid == p && region == r) ≡ true → ⊥
home_elsewhere n j p r pid region differ home this = differ (sym (eqb-true (home_of n p) j home) ∙ ap (home_of n) (sym (eqb-true pid p (both_true (pid == p) (region == r) this).0)))

pub same_homes : (n : ℕ) (owners : List HomeEntry) (f : Plain) (pid region : ℕ) (owner : MemId) (j : ℕ) → (j ≡ home_of n pid → ⊥) → (c : Cell) → share n owners f j c ≡ share n owners (with_home_of pid region owner f) j c
same_homes n owners f pid region owner j differ (Home p r) = kept_elsewhere (home_of n p == j) (pid == p && region == r) (Some owner) (f.homes p r) None (home_elsewhere n j p r pid region differ)
same_homes n owners f pid region owner j differ (Areas p r) = refl
same_homes n owners f pid region owner j differ (Page p vpn) = refl

homes_fit : (n : ℕ) (owners : List HomeEntry) (f : Plain) (pid region : ℕ) (owner : MemId) → owner_of owners pid region ≡ Some owner → PlainFits n owners f → PlainFits n owners (with_home_of pid region owner f)
homes_fit n owners f pid region owner owned fits = record {
  rise = fits.rise;
  within = fits.within;
  areas = fits.areas;
  pages = fits.pages;
  homes = homes;
  mapped = fits.mapped;
  whole = fits.whole;
  lists = fits.lists;
  numbers = fits.numbers;
}
  where
    homes : (p r : ℕ) (o : MemId) → cond (pid == p && region == r) (Some owner) (f.homes p r) ≡ Some o → owner_of owners p r ≡ Some o
    homes p r o home = by (pid == p && region == r) refl home
      where
        by : (x : Bool) → (pid == p && region == r) ≡ x → cond x (Some owner) (f.homes p r) ≡ Some o → owner_of owners p r ≡ Some o
        by true this home =
            let same = both_true (pid == p) (region == r) this in
            (λ i. owner_of owners (sym (eqb-true pid p same.0) i) (sym (eqb-true region r same.1) i)) ∙ owned ∙ home
        by false this home = fits.homes p r o home

-- AREAS

pub same_areas : (n : ℕ) (owners : List HomeEntry) (f : Plain) (pid region : ℕ) (areas : List Area) (owner : MemId) (j : ℕ) → owner_of owners pid region ≡ Some owner → (j ≡ owner.0 → ⊥) → (c : Cell) → share n owners f j c ≡ share n owners (with_region pid region areas f) j c
same_areas n owners f pid region areas owner j owned differ (Home p r) = refl
same_areas n owners f pid region areas owner j owned differ (Areas p r) = kept_elsewhere (owns owners j p r) (pid == p && region == r) areas (f.areas p r) [] (not_owner owners j p r pid region owner owned differ)
same_areas n owners f pid region areas owner j owned differ (Page p vpn) = refl

areas_none : (owners : List HomeEntry) (f : Plain) (pid region : ℕ) (areas : List Area) (owner : MemId) → owner_of owners pid region ≡ Some owner → ((p r : ℕ) → owner_of owners p r ≡ None → f.areas p r ≡ []) → (p r : ℕ) → owner_of owners p r ≡ None → (with_region pid region areas f).areas p r ≡ []
areas_none owners f pid region areas owner owned was p r none = by (pid == p && region == r) refl
  where
    by : (x : Bool) → (pid == p && region == r) ≡ x → cond x areas (f.areas p r) ≡ []
    by true this =
        let same = both_true (pid == p) (region == r) this in
        absurd (some_none owner (sym owned ∙ (λ i. owner_of owners (eqb-true pid p same.0 i) (eqb-true region r same.1 i)) ∙ none))
    by false this = was p r none

lists_form : (f : Plain) (pid region : ℕ) (areas : List Area) → IsRegionList region areas → ((p r : ℕ) → IsRegionList r (f.areas p r)) → (p r : ℕ) → IsRegionList r ((with_region pid region areas f).areas p r)
lists_form f pid region areas form was p r = by (pid == p && region == r) refl
  where
    by : (x : Bool) → (pid == p && region == r) ≡ x → IsRegionList r (cond x areas (f.areas p r))
    by true this = subst (λ (k : ℕ). IsRegionList k areas) (eqb-true region r (both_true (pid == p) (region == r) this).1) form
    by false this = was p r

areas_fit : (n : ℕ) (owners : List HomeEntry) (f : Plain) (pid region : ℕ) (areas : List Area) (owner : MemId) → AreasFit owners f pid region areas owner → PlainFits n owners f → PlainFits n owners (with_region pid region areas f)
areas_fit n owners f pid region areas owner fit fits = record {
  rise = fits.rise;
  within = fits.within;
  areas = areas_none owners f pid region areas owner fit.owned fits.areas;
  pages = fits.pages;
  homes = fits.homes;
  mapped = mapped;
  whole = fits.whole;
  lists = lists_form f pid region areas fit.form fits.lists;
  numbers = fits.numbers;
}
  where
    mapped : (p vpn : ℕ) → touched f p vpn ≡ true → IsMapped (with_region pid region areas f) p vpn
    mapped p vpn there = by (pid == p && region == vpn / 512) refl
      where
        by : (x : Bool) → (pid == p && region == vpn / 512) ≡ x → IsSome (perms_of (cond x areas (f.areas p (vpn / 512))) vpn)
        by true this =
            let same = both_true (pid == p) (region == vpn / 512) this in
            fit.stay vpn (sym (eqb-true region (vpn / 512) same.1)) (subst (λ (q : ℕ). touched f q vpn ≡ true) (sym (eqb-true pid p same.0)) there)
        by false this = fits.mapped p vpn there

-- A PATCH

pub same_patched : (n : ℕ) (owners : List HomeEntry) (f : Plain) (patch : Patch) (owner : MemId) (j : ℕ) → owner_of owners patch.pid.0 (patch.vpn.0 / 512) ≡ Some owner → (j ≡ owner.0 → ⊥) → (c : Cell) → share n owners f j c ≡ share n owners (with_patch patch f) j c
same_patched n owners f patch owner j owned differ (Home p r) = refl
same_patched n owners f patch owner j owned differ (Areas p r) = refl
same_patched n owners f patch owner j owned differ (Page p vpn) = kept_elsewhere (owns owners j p (vpn / 512)) (patch.pid.0 == p && patch.vpn.0 == vpn) (Some (laid_over (bytes_or_zeros (f.page p vpn)) patch.off patch.bytes)) (f.page p vpn) None apart
  where
    apart : owns owners j p (vpn / 512) ≡ true → (patch.pid.0 == p && patch.vpn.0 == vpn) ≡ true → ⊥
    apart owns_it this =
        let same = both_true (patch.pid.0 == p) (patch.vpn.0 == vpn) this in
        let is : owner_of owners p (vpn / 512) ≡ Some owner = (λ i. owner_of owners (sym (eqb-true patch.pid.0 p same.0) i) (sym (eqb-true patch.vpn.0 vpn same.1) i / 512)) ∙ owned in
        let holder : eqb owner.0 j ≡ true = sym (ap (is_owner j) is) ∙ owns_it in
        differ (sym (eqb-true owner.0 j holder))

pub whole_page : (page : Option (List ℕ)) → ((bytes : List ℕ) → page ≡ Some bytes → length bytes ≡ 4096) → length (bytes_or_zeros page) ≡ 4096
whole_page None whole = length-replicate {A = ℕ} 4096 0
whole_page (Some bytes) whole = whole bytes refl

pub laid_length : (old : List ℕ) (off : ℕ) (bytes : List ℕ) → off + length bytes ≤ length old → length (laid_over old off bytes) ≡ length old
laid_length old off bytes within =
    let front : length (take off old) ≡ off = length-take-le off old (omega (arith, within)) in
    let middle : length (take off old ++ bytes) ≡ length (take off old) + length bytes = length-append (take off old) bytes in
    let back : length (drop (off + length bytes) old) ≡ length old - (off + length bytes) = length-drop (off + length bytes) old in
    let all : length (take off old ++ bytes ++ drop (off + length bytes) old) ≡ length (take off old ++ bytes) + length (drop (off + length bytes) old) = length-append (take off old ++ bytes) (drop (off + length bytes) old) in
    omega (arith, front, middle, back, all, within)

patch_fit : (n : ℕ) (owners : List HomeEntry) (f : Plain) (patch : Patch) (owner : MemId) → WriteFits owners f patch owner → PlainFits n owners f → PlainFits n owners (with_patch patch f)
patch_fit n owners f patch owner fit fits = record {
  rise = fits.rise;
  within = fits.within;
  areas = fits.areas;
  pages = pages;
  homes = fits.homes;
  mapped = mapped;
  whole = whole;
  lists = fits.lists;
  numbers = fits.numbers;
}
  where
    pages : (p vpn : ℕ) → owner_of owners p (vpn / 512) ≡ None → laid_on patch p vpn (f.page p vpn) ≡ None
    pages p vpn none = by (patch.pid.0 == p && patch.vpn.0 == vpn) refl
      where
        by : (x : Bool) → (patch.pid.0 == p && patch.vpn.0 == vpn) ≡ x → cond x (Some (laid_over (bytes_or_zeros (f.page p vpn)) patch.off patch.bytes)) (f.page p vpn) ≡ None
        by true this =
            let same = both_true (patch.pid.0 == p) (patch.vpn.0 == vpn) this in
            absurd (some_none owner (sym fit.owned ∙ (λ i. owner_of owners (eqb-true patch.pid.0 p same.0 i) (eqb-true patch.vpn.0 vpn same.1 i / 512)) ∙ none))
        by false this = fits.pages p vpn none

    mapped : (p vpn : ℕ) → is_some (laid_on patch p vpn (f.page p vpn)) ≡ true → IsMapped f p vpn
    mapped p vpn there = by (patch.pid.0 == p && patch.vpn.0 == vpn) refl there
      where
        by : (x : Bool) → (patch.pid.0 == p && patch.vpn.0 == vpn) ≡ x → is_some (cond x (Some (laid_over (bytes_or_zeros (f.page p vpn)) patch.off patch.bytes)) (f.page p vpn)) ≡ true → IsMapped f p vpn
        by true this there =
            let same = both_true (patch.pid.0 == p) (patch.vpn.0 == vpn) this in
            subst (λ (q : ℕ × ℕ). IsMapped f q.0 q.1) (λ i. (eqb-true patch.pid.0 p same.0 i, eqb-true patch.vpn.0 vpn same.1 i)) fit.mapped
        by false this there = fits.mapped p vpn there

    whole : (p vpn : ℕ) (bytes : List ℕ) → laid_on patch p vpn (f.page p vpn) ≡ Some bytes → length bytes ≡ 4096
    whole p vpn bytes is = by (patch.pid.0 == p && patch.vpn.0 == vpn) is
      where
        same_some : (x y : List ℕ) → Some x ≡ Some y → x ≡ y
        same_some x y e = cc e

        by : (x : Bool) → cond x (Some (laid_over (bytes_or_zeros (f.page p vpn)) patch.off patch.bytes)) (f.page p vpn) ≡ Some bytes → length bytes ≡ 4096
        by true is =
            let page : length (bytes_or_zeros (f.page p vpn)) ≡ 4096 = whole_page (f.page p vpn) (fits.whole p vpn) in
            let within = fit.patch.1 in
            ap length (sym (same_some (laid_over (bytes_or_zeros (f.page p vpn)) patch.off patch.bytes) bytes is))
            ∙ laid_length (bytes_or_zeros (f.page p vpn)) patch.off patch.bytes (omega (arith, page, within)) ∙ page
        by false is = fits.whole p vpn bytes is

-- AN UNMAPPING

-- a page of the range is of the region
pub in_region : (pid region first pages p vpn : ℕ) → region * 512 ≤ first → first + pages ≤ region * 512 + 512 → is_page_from pid first pages (key_at p vpn) ≡ true → (p ≡ pid) × (vpn / 512 ≡ region)
in_region pid region first pages p vpn low high inside =
    let outer = both_true (eqb p pid && leb first vpn) (ltb vpn (first + pages)) inside in
    let inner = both_true (eqb p pid) (leb first vpn) outer.0 in
    let from : first ≤ vpn = leb-true first vpn inner.1 in
    let to : vpn < first + pages = ltb-true vpn (first + pages) outer.1 in
    (eqb-true p pid inner.0, omega (arith, low, high, from, to))

pub same_unmapped : (n : ℕ) (owners : List HomeEntry) (f : Plain) (pid region first pages : ℕ) (areas : List Area) (owner : MemId) (j : ℕ) → UnmapFits owners f pid region first pages areas owner → (j ≡ owner.0 → ⊥) → (c : Cell) → share n owners f j c ≡ share n owners (without_pages pid first pages (with_region pid region areas f)) j c
same_unmapped n owners f pid region first pages areas owner j fit differ (Home p r) = refl
same_unmapped n owners f pid region first pages areas owner j fit differ (Areas p r) = kept_elsewhere (owns owners j p r) (pid == p && region == r) areas (f.areas p r) [] (not_owner owners j p r pid region owner fit.owned differ)
same_unmapped n owners f pid region first pages areas owner j fit differ (Page p vpn) = kept_elsewhere (owns owners j p (vpn / 512)) (is_page_from pid first pages (key_at p vpn)) None (f.page p vpn) None apart
  where
    apart : owns owners j p (vpn / 512) ≡ true → is_page_from pid first pages (key_at p vpn) ≡ true → ⊥
    apart owns_it inside =
        let of = in_region pid region first pages p vpn fit.within.0 fit.within.1 inside in
        let is : owner_of owners p (vpn / 512) ≡ Some owner = (λ i. owner_of owners (of.0 i) (of.1 i)) ∙ fit.owned in
        let holder : eqb owner.0 j ≡ true = sym (ap (is_owner j) is) ∙ owns_it in
        differ (sym (eqb-true owner.0 j holder))

unmap_fit : (n : ℕ) (owners : List HomeEntry) (f : Plain) (pid region first pages : ℕ) (areas : List Area) (owner : MemId) → UnmapFits owners f pid region first pages areas owner → PlainFits n owners f → PlainFits n owners (without_pages pid first pages (with_region pid region areas f))
unmap_fit n owners f pid region first pages areas owner fit fits = record {
  rise = fits.rise;
  within = fits.within;
  areas = areas_none owners f pid region areas owner fit.owned fits.areas;
  pages = λ p vpn none. gone (is_page_from pid first pages (key_at p vpn)) (f.page p vpn) (fits.pages p vpn none);
  homes = fits.homes;
  mapped = mapped;
  whole = λ p vpn bytes is. whole (is_page_from pid first pages (key_at p vpn)) p vpn bytes is;
  lists = lists_form f pid region areas fit.form fits.lists;
  numbers = fits.numbers;
}
  where
    gone : (b : Bool) (page : Option (List ℕ)) → page ≡ None → cond b None page ≡ None
    gone true page e = refl
    gone false page e = e

    whole : (b : Bool) (p vpn : ℕ) (bytes : List ℕ) → cond b None (f.page p vpn) ≡ Some bytes → length bytes ≡ 4096
    whole true p vpn bytes is = cc is
    whole false p vpn bytes is = fits.whole p vpn bytes is

    mapped : (p vpn : ℕ) → is_some (cond (is_page_from pid first pages (key_at p vpn)) None (f.page p vpn)) ≡ true → IsMapped (with_region pid region areas f) p vpn
    mapped p vpn there = by (is_page_from pid first pages (key_at p vpn)) refl there
      where
        by : (x : Bool) → is_page_from pid first pages (key_at p vpn) ≡ x → is_some (cond x None (f.page p vpn)) ≡ true → IsMapped (with_region pid region areas f) p vpn
        by true inside there = cc there
        by false outside there = mapped_still (pid == p && region == vpn / 512) refl
          where
            mapped_still : (y : Bool) → (pid == p && region == vpn / 512) ≡ y → IsSome (perms_of (cond y areas (f.areas p (vpn / 512))) vpn)
            mapped_still true this =
                let same = both_true (pid == p) (region == vpn / 512) this in
                let is : pid ≡ p = eqb-true pid p same.0 in
                let at : vpn / 512 ≡ region = sym (eqb-true region (vpn / 512) same.1) in
                let out : is_page_from pid first pages (key_at pid vpn) ≡ false = ap (λ (q : ℕ). is_page_from pid first pages (key_at q vpn)) is ∙ outside in
                let was : IsSome (perms_of (f.areas pid (vpn / 512)) vpn) = subst (λ (q : ℕ). IsSome (perms_of (f.areas q (vpn / 512)) vpn)) (sym is) (fits.mapped p vpn there) in
                subst (λ (perms : Option Perms). IsSome perms) (sym (fit.outside vpn at out)) (subst (λ (r : ℕ). IsSome (perms_of (f.areas pid r) vpn)) at was)
            mapped_still false this = fits.mapped p vpn there

pub region-changes-end : RegionChangesEnd
region-changes-end n owners f (SetsHome pid region owner) fits fit changes = record {
  main = λ j. elim (eqb_tells j (home_of n pid.0)) [
    | inl e ↦ inl (at_main n j (home_of n pid.0) false e.1)
    | inr e ↦ inr (same_homes n owners f pid.0 region.0 owner j e.1)
  ];
  second = λ j. elim (eqb_tells j (home_of n pid.0)) [
    | inl e ↦ inl (at_second n j (home_of n pid.0) _ e.1)
    | inr e ↦ inr (λ p r. same_homes n owners f pid.0 region.0 owner j e.1 (Home p r), λ p r. refl)
  ];
  pages = λ j. inr (λ p vpn. refl);
  files = inr refl;
  owners_end = owners_stay n owners (with_home_of pid.0 region.0 owner f) (SetsHome pid region owner) (homes_fit n owners f pid.0 region.0 owner fit fits);
}
region-changes-end n owners f (SetsAreas pid region areas owner) fits fit changes = record {
  main = λ j. elim (eqb_tells j owner.0) [
    | inl e ↦ inl (at_main n j owner.0 false e.1)
    | inr e ↦ inr (same_areas n owners f pid.0 region.0 areas owner j fit.owned e.1)
  ];
  second = λ j. elim (eqb_tells j owner.0) [
    | inl e ↦ inl (at_second n j owner.0 _ e.1)
    | inr e ↦ inr (λ p r. refl, λ p r. same_areas n owners f pid.0 region.0 areas owner j fit.owned e.1 (Areas p r))
  ];
  pages = λ j. inr (λ p vpn. refl);
  files = inr refl;
  owners_end = owners_stay n owners (with_region pid.0 region.0 areas f) (SetsAreas pid region areas owner) (areas_fit n owners f pid.0 region.0 areas owner fit fits);
}
region-changes-end n owners f (Writes origin patch owner) fits fit changes = record {
  main = λ j. elim (eqb_tells j owner.0) [
    | inl e ↦ inl (at_main n j owner.0 false e.1)
    | inr e ↦ inr (same_patched n owners f patch owner j fit.owned e.1)
  ];
  second = λ j. inr (λ p r. refl, λ p r. refl);
  pages = λ j. elim (eqb_tells j owner.0) [
    | inl e ↦ inl (at_second n j owner.0 _ e.1)
    | inr e ↦ inr (λ p vpn. same_patched n owners f patch owner j fit.owned e.1 (Page p vpn))
  ];
  files = inr refl;
  owners_end = owners_stay n owners (with_patch patch f) (Writes origin patch owner) (patch_fit n owners f patch owner fit fits);
}
region-changes-end n owners f (Unmaps pid region first pages areas owner) fits fit changes = record {
  main = λ j. elim (eqb_tells j owner.0) [
    | inl e ↦ inl (at_main n j owner.0 _ e.1)
    | inr e ↦ inr (same_unmapped n owners f pid.0 region.0 first.0 pages areas owner j fit e.1)
  ];
  second = λ j. elim (eqb_tells j owner.0) [
    | inl e ↦ inl (at_second n j owner.0 _ e.1)
    | inr e ↦ inr (λ p r. refl, λ p r. same_unmapped n owners f pid.0 region.0 first.0 pages areas owner j fit e.1 (Areas p r))
  ];
  pages = λ j. inl refl;
  files = inr refl;
  owners_end = owners_stay n owners (without_pages pid.0 first.0 pages (with_region pid.0 region.0 areas f)) (Unmaps pid region first pages areas owner) (unmap_fit n owners f pid.0 region.0 first.0 pages areas owner fit fits);
}
region-changes-end n owners f (Finds pid region) fits fit changes = absurd changes
region-changes-end n owners f (Reads pid line owner) fits fit changes = absurd changes
region-changes-end n owners f (AsksAreas pid region owner) fits fit changes = absurd changes
region-changes-end n owners f (Drains memory_) fits fit changes = absurd changes
region-changes-end n owners f (Copies parent child regions owner) fits fit changes = absurd changes
region-changes-end n owners f (Drops pid) fits fit changes = absurd changes
region-changes-end n owners f (ReadsFile file block off len) fits fit changes = absurd changes
region-changes-end n owners f (WritesFile file block off bytes) fits fit changes = absurd changes
region-changes-end n owners f (CutsFile file size) fits fit changes = absurd changes
region-changes-end n owners f (AsksSize file) fits fit changes = absurd changes
region-changes-end n owners f (GetsName name) fits fit changes = absurd changes
region-changes-end n owners f (MakesName name) fits fit changes = absurd changes
region-changes-end n owners f (CutsName name) fits fit changes = absurd changes
region-changes-end n owners f ListsNames fits fit changes = absurd changes
region-changes-end n owners f (FreesFile file) fits fit changes = absurd changes
region-changes-end n owners f (Heals to_ what_) fits fit changes = absurd changes
