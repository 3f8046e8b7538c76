-- What is found once regions are copied for a child: in them what the parent has, elsewhere what was there.
use Rattle.std.proofs.Common.{◌≡◌, ◌/◌, ◌==◌, ◌&&◌, ◌||◌, [], ◌∷◌, ◌∙◌, ℕ, Bool, List, None, Option, Some, ap, arith, cond, false, inl, inr, length, map, refl, subst, sym, true}
use Rattle.std.proofs.lemmas.Bool.{eq-eqb, eqb-true}
use Rattle.std.specs.List.{AllByRecursion}
use Rattle.keyed_list.proofs.Listed.{Rises-put, above_rest, find-put}
use Rattle.keyed_list.proofs.Order.{below_is, same_is}
use Rattle.lego_base.specs.Keys.{IsAbove, Key, Rises, find, is_page_of, key_at, put, put_all, same_key, those, without}
use Rattle.lego_base.specs.declared.ids.Pid.{Pid}
use Rattle.lego_base.specs.declared.ids.RegionNo.{RegionNo}
use Rattle.lego_base.specs.declared.records.Area.{Area}
use Rattle.lego_base.specs.declared.records.PageImage.{PageImage}
use Rattle.lego_base.specs.declared.records.SpaceAreas.{SpaceAreas}
use Rattle.lego_msg.specs.Form.{IsRegionList}
use Rattle.lego_msg.specs.Granted.{is_region_in}
use Rattle.lego_msg.specs.Maps.{areas_at, areas_in, areas_key, copied_areas, copied_pages, for_child, image_bytes, page_in, page_key, pages_of, with_areas, with_pages}
use Rattle.lego_msg.specs.Plain.{Plain, with_region_of, with_regions_of}
use Rattle.lego_rest.specs.Fits.{ListFits, PagesFit}
use Rattle.rest_laws.proofs.Lookup.{areas-with}
use Rattle.rest_laws.proofs.Noted.{eqb_sym}
use Rattle.rest_laws.proofs.Truth.{both_true}
use Rattle.rest_laws.proofs.kinds.Cells.{all_put, all_those, areas_form, areas_rise, page_without, pages_left_fit}

-- ONE REGION AFTER THE OTHER, whatever is copied
module _ {X : Type 0} (parent child : ℕ) (apart : (child == parent) ≡ false) where
  abbrev steps : List RegionNo → (ℕ → ℕ → X) → ℕ → ℕ → X
  steps [] h = h
  steps (r ∷ regions) h = steps regions (λ p q. cond (child == p && r.0 == q) (h parent q) (h p q))

  pub steps_are : (regions : List RegionNo) (h : ℕ → ℕ → X) (p q : ℕ) → steps regions h p q ≡ cond (child == p && is_region_in q regions) (h parent q) (h p q)
  steps_are [] h p q = none (child == p)
    where
      none : (a : Bool) → h p q ≡ cond (a && false) (h parent q) (h p q)
      none true = refl
      none false = refl
  steps_are (r ∷ regions) h p q =
      steps_are regions (λ p q. cond (child == p && r.0 == q) (h parent q) (h p q)) p q
      ∙ ap (λ (b : Bool). cond (child == p && is_region_in q regions) (cond (b && r.0 == q) (h parent q) (h parent q)) (cond (child == p && r.0 == q) (h parent q) (h p q))) apart
      ∙ by (child == p) (r.0 == q) (is_region_in q regions)
    where
      by : (a b c : Bool) → cond (a && c) (h parent q) (cond (a && b) (h parent q) (h p q)) ≡ cond (a && (b || c)) (h parent q) (h p q)
      by true true true = refl
      by true true false = refl
      by true false c = refl
      by false b c = refl

-- AREAS
pub areas_copied_in : (parent : ℕ) (child : Pid) → (child.0 == parent) ≡ false → (regions : List RegionNo) (lists : List SpaceAreas) (p q : ℕ) → areas_at (copied_areas parent child regions lists) p q ≡ cond (child.0 == p && is_region_in q regions) (areas_at lists parent q) (areas_at lists p q)
areas_copied_in parent child apart regions lists p q = steps_of regions lists p q ∙ steps_are parent child.0 apart regions (areas_at lists) p q
  where
    one : (r : RegionNo) (lists : List SpaceAreas) (p q : ℕ) → areas_at (with_areas child r (areas_at lists parent r.0) lists) p q ≡ cond (child.0 == p && r.0 == q) (areas_at lists parent q) (areas_at lists p q)
    one r lists p q = areas-with child r (areas_at lists parent r.0) lists p q ∙ by (child.0 == p) (r.0 == q) refl
      where
        by : (a b : Bool) → (r.0 == q) ≡ b → cond (a && b) (areas_at lists parent r.0) (areas_at lists p q) ≡ cond (a && b) (areas_at lists parent q) (areas_at lists p q)
        by true true e = ap (areas_at lists parent) (eqb-true r.0 q e)
        by true false e = refl
        by false b e = refl

    steps_of : (regions : List RegionNo) (lists : List SpaceAreas) (p q : ℕ) → areas_at (copied_areas parent child regions lists) p q ≡ steps parent child.0 apart regions (areas_at lists) p q
    steps_of [] lists p q = refl
    steps_of (r ∷ regions) lists p q =
        steps_of regions (with_areas child r (areas_at lists parent r.0) lists) p q
        ∙ ap (λ (h : ℕ → ℕ → List Area). steps parent child.0 apart regions h p q) (λ i p q. one r lists p q i)

pub copied_rise : (parent : ℕ) (child : Pid) (regions : List RegionNo) (lists : List SpaceAreas) → Rises areas_key lists → Rises areas_key (copied_areas parent child regions lists)
copied_rise parent child [] lists rise = rise
copied_rise parent child (r ∷ regions) lists rise = copied_rise parent child regions (with_areas child r (areas_at lists parent r.0) lists) (areas_rise child r (areas_at lists parent r.0) lists rise)

-- the list of a region that is found is in form
found_form : (lists : List SpaceAreas) (p r : ℕ) → AllByRecursion ListFits lists → IsRegionList r (areas_at lists p r)
found_form [] p r all = tt
found_form (a ∷ lists) p r all = by (same_key (areas_key a) (key_at p r)) refl (found_form lists p r all.1)
  where
    by : (b : Bool) → same_key (areas_key a) (key_at p r) ≡ b → IsRegionList r (areas_at lists p r) → IsRegionList r (areas_in (cond b (Some a) (find areas_key (key_at p r) lists)))
    by true e rest = subst (λ (k : ℕ). IsRegionList k a.areas) (ap (λ (k : Key). k.number) (same_is (areas_key a) (key_at p r) e)) all.0.0
    by false e rest = rest

pub copied_form : (parent : ℕ) (child : Pid) (regions : List RegionNo) (lists : List SpaceAreas) → AllByRecursion ListFits lists → AllByRecursion ListFits (copied_areas parent child regions lists)
copied_form parent child [] lists all = all
copied_form parent child (r ∷ regions) lists all = copied_form parent child regions (with_areas child r (areas_at lists parent r.0) lists) (areas_form child r (areas_at lists parent r.0) lists (found_form lists parent r.0 all) all)

-- THE PLAIN MAP
pub plain_areas_in : (parent child : ℕ) → (child == parent) ≡ false → (regions : List RegionNo) (f : Plain) (p q : ℕ) → (with_regions_of parent child regions f).areas p q ≡ cond (child == p && is_region_in q regions) (f.areas parent q) (f.areas p q)
plain_areas_in parent child apart regions f p q = steps_of regions f p q ∙ steps_are parent child apart regions f.areas p q
  where
    steps_of : (regions : List RegionNo) (f : Plain) (p q : ℕ) → (with_regions_of parent child regions f).areas p q ≡ steps parent child apart regions f.areas p q
    steps_of [] f p q = refl
    steps_of (r ∷ regions) f p q = steps_of regions (with_region_of parent child r.0 f) p q

-- PAGES, of which the region is that of their number
module _ (parent child : ℕ) (apart : (child == parent) ≡ false) where
  abbrev page_steps : List RegionNo → (ℕ → ℕ → Option (List ℕ)) → ℕ → ℕ → Option (List ℕ)
  page_steps [] h = h
  page_steps (r ∷ regions) h = page_steps regions (λ p v. cond (is_page_of child r.0 (key_at p v)) (h parent v) (h p v))

  pub page_steps_are : (regions : List RegionNo) (h : ℕ → ℕ → Option (List ℕ)) (p v : ℕ) → page_steps regions h p v ≡ cond (child == p && is_region_in (v / 512) regions) (h parent v) (h p v)
  page_steps_are [] h p v = none (child == p)
    where
      none : (a : Bool) → h p v ≡ cond (a && false) (h parent v) (h p v)
      none true = refl
      none false = refl
  page_steps_are (r ∷ regions) h p v =
      page_steps_are regions (λ p v. cond (is_page_of child r.0 (key_at p v)) (h parent v) (h p v)) p v
      ∙ ap (λ (b : Bool). cond (child == p && is_region_in (v / 512) regions) (cond (b && v / 512 == r.0) (h parent v) (h parent v)) (cond (p == child && v / 512 == r.0) (h parent v) (h p v))) (eqb_sym parent child ∙ apart)
      ∙ (λ i. cond (child == p && is_region_in (v / 512) regions) (h parent v) (cond (eqb_sym p child i && eqb_sym (v / 512) r.0 i) (h parent v) (h p v)))
      ∙ by (child == p) (r.0 == v / 512) (is_region_in (v / 512) regions)
    where
      by : (a b c : Bool) → cond (a && c) (h parent v) (cond (a && b) (h parent v) (h p v)) ≡ cond (a && (b || c)) (h parent v) (h p v)
      by true true true = refl
      by true true false = refl
      by true false c = refl
      by false b c = refl

  pub plain_pages_in : (regions : List RegionNo) (f : Plain) (p v : ℕ) → (with_regions_of parent child regions f).page p v ≡ cond (child == p && is_region_in (v / 512) regions) (f.page parent v) (f.page p v)
  plain_pages_in regions f p v = steps_of regions f p v ∙ page_steps_are regions f.page p v
    where
      steps_of : (regions : List RegionNo) (f : Plain) (p v : ℕ) → (with_regions_of parent child regions f).page p v ≡ page_steps regions f.page p v
      steps_of [] f p v = refl
      steps_of (r ∷ regions) f p v = steps_of regions (with_region_of parent child r.0 f) p v

-- an entry of a rising list is the only one with its key
pub only_one : (x : PageImage) (pages : List PageImage) (k : Key) → IsAbove page_key x pages → Rises page_key pages → same_key (page_key x) k ≡ true → find page_key k pages ≡ None
only_one x [] k above rise same = refl
only_one x (y ∷ pages) k above rise same = by (same_key (page_key y) k) refl (only_one x pages k (above_rest page_key x y pages above rise.0) rise.1 same)
  where
    by : (b : Bool) → same_key (page_key y) k ≡ b → find page_key k pages ≡ None → cond b (Some y) (find page_key k pages) ≡ None
    by true e rest =
        let one : page_key x ≡ page_key y = same_is (page_key x) k same ∙ sym (same_is (page_key y) k e) in
        let number : x.vpn.0 ≡ y.vpn.0 = ap (λ (q : Key). q.number) one in
        let process : x.pid.0 ≡ y.pid.0 = ap (λ (q : Key). q.pid) one in
        elim (below_is (page_key x) (page_key y) above) [
          | inl less ↦ absurd (omega (arith, less, process))
          | inr less ↦ let smaller = less.1 in absurd (omega (arith, smaller, number))
        ]
    by false e rest = rest

abbrev else_page : Option (List ℕ) → Option (List ℕ) → Option (List ℕ)
else_page None other = other
else_page (Some bytes) other = Some bytes

-- the pages of a region, put for the child
put_for : (parent : ℕ) (child : Pid) (r : ℕ) (pages under : List PageImage) (p v : ℕ) → Rises page_key pages →
    page_in (put_all page_key (map (for_child child) (those page_key (is_page_of parent r) pages)) under) p v ≡ cond (child.0 == p && v / 512 == r) (else_page (page_in pages parent v) (page_in under p v)) (page_in under p v)
put_for parent child r [] under p v rise = same (child.0 == p && v / 512 == r) (page_in under p v)
  where
    same : (b : Bool) (x : Option (List ℕ)) → x ≡ cond b x x
    same true x = refl
    same false x = refl
put_for parent child r (x ∷ pages) under p v rise = by (is_page_of parent r (page_key x)) refl (put_for parent child r pages under p v rise.1) (put_for parent child r pages (put page_key (for_child child x) under) p v rise.1)
  where
    found : page_in (put page_key (for_child child x) under) p v ≡ cond (child.0 == p && x.vpn.0 == v) (Some x.bytes) (page_in under p v)
    found = ap image_bytes (find-put page_key (for_child child x) under (key_at p v)) ∙ either (child.0 == p && x.vpn.0 == v) (find page_key (key_at p v) under)
      where
        either : (b : Bool) (o : Option PageImage) → image_bytes (cond b (Some (for_child child x)) o) ≡ cond b (Some x.bytes) (image_bytes o)
        either true o = refl
        either false o = refl

    head : page_in (x ∷ pages) parent v ≡ cond (x.pid.0 == parent && x.vpn.0 == v) (Some x.bytes) (page_in pages parent v)
    head = either (x.pid.0 == parent && x.vpn.0 == v) (find page_key (key_at parent v) pages)
      where
        either : (b : Bool) (o : Option PageImage) → image_bytes (cond b (Some x) o) ≡ cond b (Some x.bytes) (image_bytes o)
        either true o = refl
        either false o = refl

    -- a page that is put: it is of the region, and the only one with its number
    put_one : (of : is_page_of parent r (page_key x) ≡ true) → (a b d : Bool) → (child.0 == p) ≡ a → (x.vpn.0 == v) ≡ b → (v / 512 == r) ≡ d →
        cond (a && d) (else_page (page_in pages parent v) (cond (a && b) (Some x.bytes) (page_in under p v))) (cond (a && b) (Some x.bytes) (page_in under p v))
        ≡ cond (a && d) (else_page (cond b (Some x.bytes) (page_in pages parent v)) (page_in under p v)) (page_in under p v)
    put_one of true true true ea eb ed = ap (λ (o : Option (List ℕ)). else_page o (Some x.bytes)) (ap image_bytes (only_one x pages (key_at parent v) rise.0 rise.1 (this)))
      where
        this : same_key (page_key x) (key_at parent v) ≡ true
        this = ap (λ (b : Bool). b && x.vpn.0 == v) (both_true (x.pid.0 == parent) (x.vpn.0 / 512 == r) of).0 ∙ eb
    put_one of true true false ea eb ed =
        let region : x.vpn.0 / 512 ≡ r = eqb-true (x.vpn.0 / 512) r (both_true (x.pid.0 == parent) (x.vpn.0 / 512 == r) of).1 in
        let both : true ≡ false = sym (eq-eqb (v / 512) r (ap (λ (n : ℕ). n / 512) (sym (eqb-true x.vpn.0 v eb)) ∙ region)) ∙ ed in cc both
    put_one of true false d ea eb ed = refl
    put_one of false b d ea eb ed = refl

    -- a page that isn't of the region is none that is asked for
    skipped : (not_of : is_page_of parent r (page_key x) ≡ false) → (a b d : Bool) → (child.0 == p) ≡ a → (x.pid.0 == parent && x.vpn.0 == v) ≡ b → (v / 512 == r) ≡ d →
        cond (a && d) (else_page (page_in pages parent v) (page_in under p v)) (page_in under p v)
        ≡ cond (a && d) (else_page (cond b (Some x.bytes) (page_in pages parent v)) (page_in under p v)) (page_in under p v)
    skipped not_of true true true ea eb ed =
        let same = both_true (x.pid.0 == parent) (x.vpn.0 == v) eb in
        let region : (x.vpn.0 / 512 == r) ≡ true = ap (λ (n : ℕ). n / 512 == r) (eqb-true x.vpn.0 v same.1) ∙ ed in
        let both : true ≡ false = sym (ap (λ (b : Bool). b && x.vpn.0 / 512 == r) same.0 ∙ region) ∙ not_of in cc both
    skipped not_of true true false ea eb ed = refl
    skipped not_of true false d ea eb ed = refl
    skipped not_of false b d ea eb ed = refl

    by : (c : Bool) → is_page_of parent r (page_key x) ≡ c →
        page_in (put_all page_key (map (for_child child) (those page_key (is_page_of parent r) pages)) under) p v ≡ cond (child.0 == p && v / 512 == r) (else_page (page_in pages parent v) (page_in under p v)) (page_in under p v) →
        page_in (put_all page_key (map (for_child child) (those page_key (is_page_of parent r) pages)) (put page_key (for_child child x) under)) p v ≡ cond (child.0 == p && v / 512 == r) (else_page (page_in pages parent v) (page_in (put page_key (for_child child x) under) p v)) (page_in (put page_key (for_child child x) under) p v) →
        page_in (put_all page_key (map (for_child child) (cond c (x ∷ those page_key (is_page_of parent r) pages) (those page_key (is_page_of parent r) pages))) under) p v ≡ cond (child.0 == p && v / 512 == r) (else_page (page_in (x ∷ pages) parent v) (page_in under p v)) (page_in under p v)
    by true of skip rest =
        rest ∙ ap (λ (o : Option (List ℕ)). cond (child.0 == p && v / 512 == r) (else_page (page_in pages parent v) o) o) found
        ∙ put_one of (child.0 == p) (x.vpn.0 == v) (v / 512 == r) refl refl refl
        ∙ ap (λ (b : Bool). cond (child.0 == p && v / 512 == r) (else_page (cond (b && x.vpn.0 == v) (Some x.bytes) (page_in pages parent v)) (page_in under p v)) (page_in under p v)) (sym (both_true (x.pid.0 == parent) (x.vpn.0 / 512 == r) of).0)
        ∙ ap (λ (o : Option (List ℕ)). cond (child.0 == p && v / 512 == r) (else_page o (page_in under p v)) (page_in under p v)) (sym head)
    by false not_of rest other =
        rest ∙ skipped not_of (child.0 == p) (x.pid.0 == parent && x.vpn.0 == v) (v / 512 == r) refl refl refl
        ∙ ap (λ (o : Option (List ℕ)). cond (child.0 == p && v / 512 == r) (else_page o (page_in under p v)) (page_in under p v)) (sym head)

one_region : (parent : ℕ) (child : Pid) (r : RegionNo) (pages : List PageImage) (p v : ℕ) → Rises page_key pages →
    page_in (with_pages child.0 r.0 (map (for_child child) (pages_of parent r.0 pages)) pages) p v ≡ cond (is_page_of child.0 r.0 (key_at p v)) (page_in pages parent v) (page_in pages p v)
one_region parent child r pages p v rise =
    put_for parent child r.0 pages (without page_key (is_page_of child.0 r.0) pages) p v rise
    ∙ (λ i. cond (eqb_sym child.0 p i && v / 512 == r.0) (else_page (page_in pages parent v) (page_without (is_page_of child.0 r.0) pages p v i)) (page_without (is_page_of child.0 r.0) pages p v i))
    ∙ by (p == child.0 && v / 512 == r.0) (page_in pages parent v)
  where
    by : (b : Bool) (o : Option (List ℕ)) → cond b (else_page o (cond b None (page_in pages p v))) (cond b None (page_in pages p v)) ≡ cond b o (page_in pages p v)
    by true None = refl
    by true (Some bytes) = refl
    by false o = refl

put_all_rise : (xs ys : List PageImage) → Rises page_key ys → Rises page_key (put_all page_key xs ys)
put_all_rise [] ys rise = rise
put_all_rise (x ∷ xs) ys rise = put_all_rise xs (put page_key x ys) (Rises-put page_key x ys rise)

put_all_whole : (xs ys : List PageImage) → AllByRecursion (λ (p : PageImage). length p.bytes ≡ 4096) xs → AllByRecursion (λ (p : PageImage). length p.bytes ≡ 4096) ys → AllByRecursion (λ (p : PageImage). length p.bytes ≡ 4096) (put_all page_key xs ys)
put_all_whole [] ys first all = all
put_all_whole (x ∷ xs) ys first all = put_all_whole xs (put page_key x ys) first.1 (all_put page_key (λ (p : PageImage). length p.bytes ≡ 4096) x ys first.0 all)

for_child_whole : (child : Pid) (pages : List PageImage) → AllByRecursion (λ (p : PageImage). length p.bytes ≡ 4096) pages → AllByRecursion (λ (p : PageImage). length p.bytes ≡ 4096) (map (for_child child) pages)
for_child_whole child [] all = tt
for_child_whole child (x ∷ pages) all = (all.0, for_child_whole child pages all.1)

one_fits : (parent : ℕ) (child : Pid) (r : RegionNo) (pages : List PageImage) → PagesFit pages → PagesFit (with_pages child.0 r.0 (map (for_child child) (pages_of parent r.0 pages)) pages)
one_fits parent child r pages fits =
    let left = pages_left_fit (is_page_of child.0 r.0) pages fits in
    record {
      rise = put_all_rise (map (for_child child) (pages_of parent r.0 pages)) (without page_key (is_page_of child.0 r.0) pages) left.rise;
      whole = put_all_whole (map (for_child child) (pages_of parent r.0 pages)) (without page_key (is_page_of child.0 r.0) pages) (for_child_whole child (pages_of parent r.0 pages) (all_those page_key (λ (p : PageImage). length p.bytes ≡ 4096) (is_page_of parent r.0) pages fits.whole)) left.whole;
    }

pub copied_fit : (parent : ℕ) (child : Pid) (regions : List RegionNo) (pages : List PageImage) → PagesFit pages → PagesFit (copied_pages parent child regions pages)
copied_fit parent child [] pages fits = fits
copied_fit parent child (r ∷ regions) pages fits = copied_fit parent child regions (with_pages child.0 r.0 (map (for_child child) (pages_of parent r.0 pages)) pages) (one_fits parent child r pages fits)

pub pages_copied_in : (parent : ℕ) (child : Pid) → (child.0 == parent) ≡ false → (regions : List RegionNo) (pages : List PageImage) (p v : ℕ) → PagesFit pages → page_in (copied_pages parent child regions pages) p v ≡ cond (child.0 == p && is_region_in (v / 512) regions) (page_in pages parent v) (page_in pages p v)
pages_copied_in parent child apart regions pages p v fits = steps_of regions pages p v fits ∙ page_steps_are parent child.0 apart regions (page_in pages) p v
  where
    steps_of : (regions : List RegionNo) (pages : List PageImage) (p v : ℕ) → PagesFit pages → page_in (copied_pages parent child regions pages) p v ≡ page_steps parent child.0 apart regions (page_in pages) p v
    steps_of [] pages p v fits = refl
    steps_of (r ∷ regions) pages p v fits =
        steps_of regions (with_pages child.0 r.0 (map (for_child child) (pages_of parent r.0 pages)) pages) p v (one_fits parent child r pages fits)
        ∙ ap (λ (h : ℕ → ℕ → Option (List ℕ)). page_steps parent child.0 apart regions h p v) (λ i p v. one_region parent child r pages p v fits.rise i)
