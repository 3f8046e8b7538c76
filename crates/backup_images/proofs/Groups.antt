-- Segments: what one more makes of the images, that images rise, and that images made anew are the same.
use Rattle.std.proofs.Common.{◌≡◌, ◌⊎◌, ◌/◌, ◌<◌, ◌≤◌, [], ◌∷◌, ◌++◌, ◌∙◌, ℕ, Bool, List, ap, arith, cond, eqb, false, inl, inr, length, not, refl, sym, true}
use Rattle.std.proofs.lemmas.Bool.{and_from, and_parts, eq-eqb, eqb-true, false≢true}
use Rattle.std.proofs.lemmas.List.{append-nil, append_assoc}
use Rattle.std.specs.List.{AllByRecursion}
use Rattle.lego_base.specs.Keys.{Rises, is_below, is_of, is_page_from, is_page_of, put, same_key, without}
use Rattle.lego_base.specs.Pieces.{laid_over}
use Rattle.lego_base.specs.declared.ids.Pid.{Pid}
use Rattle.lego_base.specs.declared.ids.RegionNo.{RegionNo}
use Rattle.lego_base.specs.declared.records.PageImage.{PageImage}
use Rattle.lego_base.specs.declared.records.Patch.{Patch}
use Rattle.lego_msg.specs.Maps.{copied_pages, overlaid, page_at, page_key, patched}
use Rattle.backup_images.specs.Segments.{after_segment, alone, compacted, copied, copied_region, extended, images_after, images_in, is_in, joined, joined_to, regions_reset, weights, is_heavy}
use Rattle.backup_images.specs.declared.segment.Seg.{Seg}
use Rattle.backup_images.specs.declared.segment.Seg.TheVariants.{Dropped, Freed, Patches, Reset}
use Rattle.backup_images.proofs.Order.{Below, below_is, below_same, between, same_is}
use Rattle.backup_images.proofs.Rising.{AllBelow, put_all_push, put_all_rises, put_last, put_rises, those_rise}

-- IMAGES RISE
pub overlaid_rise : (patches : List Patch) (pages : List PageImage) → Rises page_key pages → Rises page_key (overlaid patches pages)
overlaid_rise [] pages r = r
overlaid_rise (p ∷ patches) pages r = overlaid_rise patches (patched p pages) (put_rises page_key (record { pid = p.pid; vpn = p.vpn; bytes = laid_over (page_at pages p.pid.0 p.vpn.0) p.off p.bytes }) pages r)

pub segment_rises : (s : Seg) (pages : List PageImage) → Rises page_key pages → Rises page_key (after_segment pages s)
segment_rises (Patches patches) pages r = overlaid_rise patches pages r
segment_rises (Dropped pid first count) pages r = those_rise page_key (λ k. not (is_page_from pid.0 first.0 count k)) pages r
segment_rises (Freed pid) pages r = those_rise page_key (λ k. not (is_of pid.0 k)) pages r
segment_rises (Reset pid region new) pages r =
    put_all_rises page_key new (without page_key (is_page_of pid.0 region.0) pages) (those_rise page_key (λ k. not (is_page_of pid.0 region.0 k)) pages r)

pub images_rise : (segments : List Seg) (pages : List PageImage) → Rises page_key pages → Rises page_key (images_after segments pages)
images_rise [] pages r = r
images_rise (s ∷ segments) pages r = images_rise segments (after_segment pages s) (segment_rises s pages r)

-- segments after segments
pub images_append : (a b : List Seg) (pages : List PageImage) → images_after (a ++ b) pages ≡ images_after b (images_after a pages)
images_append [] b pages = refl
images_append (s ∷ a) b pages = images_append a b (after_segment pages s)

pub extended_last : (front : List Seg) (s : Seg) (p : PageImage) → extended (front ++ s ∷ []) p ≡ front ++ joined_to s p
extended_last [] s p = refl
extended_last (f ∷ []) s p = refl
extended_last (f ∷ g ∷ front) s p = ap (λ t. f ∷ t) (extended_last (g ∷ front) s p)

-- REGIONS: an image up to one that is in the last region isn't in another region above that
abbrev UpTo : PageImage → PageImage → Type 0
UpTo q0 q = (is_below (page_key q) (page_key q0) ≡ true) ⊎ (same_key (page_key q) (page_key q0) ≡ true)

abbrev AllUpTo : PageImage → List PageImage → Type 0
AllUpTo q0 pages = AllByRecursion (UpTo q0) pages

not_in : (pid : Pid) (region : RegionNo) (q0 p q : PageImage) → is_in pid region q0 ≡ true → is_in pid region p ≡ false → is_below (page_key q0) (page_key p) ≡ true → UpTo q0 q →
    is_page_of p.pid.0 (p.vpn.0 / 512) (page_key q) ≡ false
not_in pid region q0 p q a b less up = by (is_page_of p.pid.0 (p.vpn.0 / 512) (page_key q)) refl
  where
    -- in numbers
    up_is : UpTo q0 q → (q.pid.0 < q0.pid.0) ⊎ ((q.pid.0 ≡ q0.pid.0) × (q.vpn.0 ≤ q0.vpn.0))
    up_is (inl e) = cases (below_is (page_key q) (page_key q0) e)
      where
        cases : Below (page_key q) (page_key q0) → (q.pid.0 < q0.pid.0) ⊎ ((q.pid.0 ≡ q0.pid.0) × (q.vpn.0 ≤ q0.vpn.0))
        cases (inl f) = inl f
        cases (inr f) = let g = f.1 in inr (f.0, omega (arith, g))
    up_is (inr e) = let s = same_is (page_key q) (page_key q0) e in let g = s.1 in inr (s.0, omega (arith, g))

    inside : (q.pid.0 ≡ p.pid.0) × (q.vpn.0 / 512 ≡ p.vpn.0 / 512) → (q.pid.0 < q0.pid.0) ⊎ ((q.pid.0 ≡ q0.pid.0) × (q.vpn.0 ≤ q0.vpn.0)) → Below (page_key q0) (page_key p) →
        (p.pid.0 ≡ q0.pid.0) × (p.vpn.0 / 512 ≡ q0.vpn.0 / 512)
    inside e (inl f) (inl g) = let x = e.0 in absurd (omega (arith, x, f, g))
    inside e (inl f) (inr g) = let x = e.0 in let y = g.0 in absurd (omega (arith, x, f, y))
    inside e (inr f) (inl g) = let x = e.0 in let y = f.0 in absurd (omega (arith, x, y, g))
    inside e (inr f) (inr g) = let x = e.1 in let y = f.1 in let z = g.1 in (sym g.0, omega (arith, x, y, z))

    by : (c : Bool) → is_page_of p.pid.0 (p.vpn.0 / 512) (page_key q) ≡ c → c ≡ false
    by false e = refl
    by true e =
        let parts = and_parts (eqb q.pid.0 p.pid.0) (eqb (q.vpn.0 / 512) (p.vpn.0 / 512)) e in
        let same = inside (eqb-true q.pid.0 p.pid.0 parts.0, eqb-true (q.vpn.0 / 512) (p.vpn.0 / 512) parts.1) (up_is up) (below_is (page_key q0) (page_key p) less) in
        let held = and_parts (eqb q0.pid.0 pid.0) (eqb (q0.vpn.0 / 512) region.0) a in
        absurd (false≢true (sym b ∙ and_from (eqb p.pid.0 pid.0) (eqb (p.vpn.0 / 512) region.0)
        (eq-eqb p.pid.0 pid.0 (same.0 ∙ eqb-true q0.pid.0 pid.0 held.0)) (eq-eqb (p.vpn.0 / 512) region.0 (same.1 ∙ eqb-true (q0.vpn.0 / 512) region.0 held.1))))

none_in : (pid : Pid) (region : RegionNo) (q0 p : PageImage) (done : List PageImage) → is_in pid region q0 ≡ true → is_in pid region p ≡ false → is_below (page_key q0) (page_key p) ≡ true → AllUpTo q0 done →
    without page_key (is_page_of p.pid.0 (p.vpn.0 / 512)) done ≡ done
none_in pid region q0 p [] a b less up = refl
none_in pid region q0 p (q ∷ done) a b less up =
    ap (λ c. cond (not c) (q ∷ without page_key (is_page_of p.pid.0 (p.vpn.0 / 512)) done) (without page_key (is_page_of p.pid.0 (p.vpn.0 / 512)) done)) (not_in pid region q0 p q a b less up.0)
    ∙ ap (λ t. q ∷ t) (none_in pid region q0 p done a b less up.1)

all_below : (q0 p : PageImage) (done : List PageImage) → is_below (page_key q0) (page_key p) ≡ true → AllUpTo q0 done → AllBelow page_key (page_key p) done
all_below q0 p [] less up = tt
all_below q0 p (q ∷ done) less up = (by up.0, all_below q0 p done less up.1)
  where
    by : UpTo q0 q → is_below (page_key q) (page_key p) ≡ true
    by (inl e) = between (page_key q) (page_key q0) (page_key p) e less
    by (inr e) = below_same (page_key q) (page_key q0) (page_key p) e less

up_to_push : (p : PageImage) (done : List PageImage) → AllBelow page_key (page_key p) done → AllUpTo p (done ++ p ∷ [])
up_to_push p [] h = (inr (and_from (eqb p.pid.0 p.pid.0) (eqb p.vpn.0 p.vpn.0) (eq-eqb p.pid.0 p.pid.0 refl) (eq-eqb p.vpn.0 p.vpn.0 refl)), tt)
up_to_push p (q ∷ done) h = (inl h.0, up_to_push p done h.1)

own : (p : PageImage) → is_in p.pid (record { 0 = p.vpn.0 / 512 }) p ≡ true
own p = and_from (eqb p.pid.0 p.pid.0) (eqb (p.vpn.0 / 512) (p.vpn.0 / 512)) (eq-eqb p.pid.0 p.pid.0 refl) (eq-eqb (p.vpn.0 / 512) (p.vpn.0 / 512) refl)

-- ANEW
grouped : (imgs : List PageImage) (front : List Seg) (pid : Pid) (region : RegionNo) (pages : List PageImage) (done : List PageImage) (q0 : PageImage) →
    images_in (front ++ Reset pid region pages ∷ []) ≡ done → Rises page_key (q0 ∷ imgs) → is_in pid region q0 ≡ true → AllUpTo q0 done →
    images_in (joined (front ++ Reset pid region pages ∷ []) imgs) ≡ done ++ imgs
grouped [] front pid region pages done q0 is r held up = is ∙ sym (append-nil done)
grouped (p ∷ imgs) front pid region pages done q0 is r held up =
    ap (λ segs. images_in (joined segs imgs)) (extended_last front (Reset pid region pages) p)
    ∙ by (is_in pid region p) refl (λ e. grouped imgs front pid region (pages ++ p ∷ []) (done ++ p ∷ []) p) (grouped imgs (front ++ Reset pid region pages ∷ []) p.pid (record { 0 = p.vpn.0 / 512 }) (p ∷ []) (done ++ p ∷ []) p)
    ∙ append_assoc done (p ∷ []) imgs
  where
    low : AllBelow page_key (page_key p) done
    low = all_below q0 p done r.0 up

    into : images_in (front ++ Reset pid region (pages ++ p ∷ []) ∷ []) ≡ done ++ p ∷ []
    into =
        images_append front (Reset pid region (pages ++ p ∷ []) ∷ []) []
        ∙ put_all_push page_key pages p (without page_key (is_page_of pid.0 region.0) (images_in front))
        ∙ ap (put page_key p) (sym (images_append front (Reset pid region pages ∷ []) []) ∙ is)
        ∙ put_last page_key p done low

    apart : is_in pid region p ≡ false → images_in (front ++ Reset pid region pages ∷ [] ++ alone p ∷ []) ≡ done ++ p ∷ []
    apart e =
        images_append (front ++ Reset pid region pages ∷ []) (alone p ∷ []) []
        ∙ ap (λ X. put page_key p (without page_key (is_page_of p.pid.0 (p.vpn.0 / 512)) X)) is
        ∙ ap (put page_key p) (none_in pid region q0 p done held e r.0 up)
        ∙ put_last page_key p done low

    by : (b : Bool) → is_in pid region p ≡ b →
        (is_in pid region p ≡ true → images_in (front ++ Reset pid region (pages ++ p ∷ []) ∷ []) ≡ done ++ p ∷ [] → Rises page_key (p ∷ imgs) → is_in pid region p ≡ true → AllUpTo p (done ++ p ∷ []) →
        images_in (joined (front ++ Reset pid region (pages ++ p ∷ []) ∷ []) imgs) ≡ done ++ p ∷ [] ++ imgs) →
        (images_in (front ++ Reset pid region pages ∷ [] ++ alone p ∷ []) ≡ done ++ p ∷ [] → Rises page_key (p ∷ imgs) → is_in p.pid (record { 0 = p.vpn.0 / 512 }) p ≡ true → AllUpTo p (done ++ p ∷ []) →
        images_in (joined (front ++ Reset pid region pages ∷ [] ++ alone p ∷ []) imgs) ≡ done ++ p ∷ [] ++ imgs) →
        images_in (joined (front ++ cond b (Reset pid region (pages ++ p ∷ []) ∷ []) (Reset pid region pages ∷ alone p ∷ [])) imgs) ≡ done ++ p ∷ [] ++ imgs
    by true e more other = more e into r.1 e (up_to_push p done low)
    by false e more other =
        ap (λ segs. images_in (joined segs imgs)) (sym (append_assoc front (Reset pid region pages ∷ []) (alone p ∷ [])))
        ∙ other (apart e) r.1 (own p) (up_to_push p done low)

pub made_anew : (imgs : List PageImage) → Rises page_key imgs → images_in (regions_reset imgs) ≡ imgs
made_anew [] r = refl
made_anew (p ∷ imgs) r = grouped imgs [] p.pid (record { 0 = p.vpn.0 / 512 }) (p ∷ []) (p ∷ []) p refl r (own p) (up_to_push p [] tt)

-- what is compacted has the same images
pub compacted_images : (segments : List Seg) → images_in (compacted segments) ≡ images_in segments
compacted_images segments = by (is_heavy (weights segments) (length (images_in segments)))
  where
    by : (b : Bool) → images_in (cond b (regions_reset (images_in segments)) segments) ≡ images_in segments
    by true = made_anew (images_in segments) (images_rise segments [] tt)
    by false = refl

-- a copy is what it makes of the images
pub copied_images : (parent child : Pid) (regions : List RegionNo) (images : List PageImage) → images_after (copied parent child regions images) images ≡ copied_pages parent.0 child regions images
copied_images parent child [] images = refl
copied_images parent child (region ∷ regions) images = copied_images parent child regions (after_segment images (copied_region parent child images region))

-- what a list that is to be compacted becomes, given its weight and its images
pub compacted_is : (segments : List Seg) (weight n : ℕ) (images : List PageImage) (heavy : Bool) → weight ≡ weights segments → images ≡ images_in segments → n ≡ length images → heavy ≡ is_heavy weight n →
    compacted segments ≡ cond heavy (regions_reset images) segments
compacted_is segments weight n images heavy w is size h =
    (λ i. cond (is_heavy (sym w i) (sym (size ∙ ap length is) i)) (regions_reset (sym is i)) segments) ∙ ap (λ b. cond b (regions_reset images) segments) (sym h)
