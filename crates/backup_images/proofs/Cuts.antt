-- A list with one segment more, which drops the images from one place to before another or puts some: what it weighs, and
-- what it becomes.
use Rattle.std.proofs.Common.{◌≡◌, ◌+◌, ◌-◌, ◌≤◌, [], ◌∷◌, ◌++◌, ◌∙◌, ℕ, Bool, List, ap, arith, cond, drop, false, length, refl, subst, sym, take}
use Rattle.std.proofs.lemmas.List.{length-append, length-drop, length-take}
use Rattle.std.proofs.lemmas.List.Sums.{sum_by-append}
use Rattle.lego_base.specs.Keys.{put_all}
use Rattle.lego_base.specs.declared.records.PageImage.{PageImage}
use Rattle.lego_msg.specs.Maps.{page_key}
use Rattle.backup_images.specs.Segments.{after_segment, compacted, images_in, is_heavy, regions_reset, weight_of, weights}
use Rattle.backup_images.specs.declared.segment.Seg.{Seg}
use Rattle.backup_images.proofs.Fresh.{light_for_more, put_all_fewest}
use Rattle.backup_images.proofs.Groups.{compacted_is, images_append}

-- the images of the list with one segment more
pub all_images : (old : List Seg) (s : Seg) → after_segment (images_in old) s ≡ images_in (old ++ s ∷ [])
all_images old s = sym (images_append old (s ∷ []) [])

-- and what it weighs
pub all_weigh : (old : List Seg) (s : Seg) (before weight : ℕ) → before ≡ weights old → weight ≡ before + weight_of s → weight ≡ weights (old ++ s ∷ [])
all_weigh old s before weight own more =
    let all : weights (old ++ s ∷ []) ≡ weights old + weights (s ∷ []) = sum_by-append weight_of old (s ∷ []) in
    omega (arith, own, more, all)

cut_length : (images rest : List PageImage) (start end : ℕ) → start ≤ end → end ≤ length images → rest ≡ take start images ++ drop end images → length images - (end - start) ≡ length rest
cut_length images rest start end order within e =
    let both = length-append (take start images) (drop end images) in
    let front = length-take start images in
    let back = length-drop end images in
    let whole : length rest ≡ length (take start images ++ drop end images) = ap length e in
    omega (arith, both, front, back, whole)

pub list_is : (old : List Seg) (s : Seg) (before weight len start end : ℕ) (heavy : Bool) → before ≡ weights old → weight ≡ before + weight_of s → len ≡ length (images_in old) → start ≤ end → end ≤ length (images_in old) →
    after_segment (images_in old) s ≡ take start (images_in old) ++ drop end (images_in old) → heavy ≡ is_heavy weight (len - (end - start)) →
    compacted (old ++ s ∷ []) ≡ cond heavy (regions_reset (after_segment (images_in old) s)) (old ++ s ∷ [])
list_is old s before weight len start end heavy own more size order within rest h =
    compacted_is (old ++ s ∷ []) weight (len - (end - start)) (after_segment (images_in old) s) heavy (all_weigh old s before weight own more) (all_images old s)
    (ap (λ n. n - (end - start)) size ∙ cut_length (images_in old) (after_segment (images_in old) s) start end order within rest) h

-- a list that isn't too heavy for the images that there were isn't either for more of them
pub light_list_is : (old : List Seg) (s : Seg) (fresh : List PageImage) (before weight len : ℕ) → before ≡ weights old → weight ≡ before + weight_of s → len ≡ length (images_in old) →
    put_all page_key fresh (images_in old) ≡ after_segment (images_in old) s → is_heavy weight len ≡ false → compacted (old ++ s ∷ []) ≡ old ++ s ∷ []
light_list_is old s fresh before weight len own more size images light =
    let most : length (images_in old) ≤ length (after_segment (images_in old) s) = subst (λ (l : List PageImage). length (images_in old) ≤ length l) images (put_all_fewest fresh (images_in old)) in
    let still = light_for_more weight (length (images_in old)) (length (after_segment (images_in old) s)) most (ap (is_heavy weight) (sym size) ∙ light) in
    compacted_is (old ++ s ∷ []) weight (length (after_segment (images_in old) s)) (after_segment (images_in old) s) false (all_weigh old s before weight own more) (all_images old s) refl (sym still)
