-- What segments weigh once they were made anew.
use Rattle.std.proofs.Common.{◌≡◌, ◌+◌, ◌*◌, ◌≤◌, [], ◌∷◌, ◌++◌, Bool, List, arith, cond, false, length, refl, sum_by, true}
use Rattle.std.proofs.lemmas.Bool.{ltb-false}
use Rattle.std.proofs.lemmas.List.Sums.{sum_by-append}
use Rattle.std.specs.List.{AllByRecursion}
use Rattle.lego_base.specs.declared.records.PageImage.{PageImage}
use Rattle.backup_images.specs.Laws.{CompactedIsLight, CompactedKeepsImages}
use Rattle.backup_images.specs.Segments.{alone, extended, images_in, is_heavy, is_in, joined, joined_to, regions_reset, weight_of, weights}
use Rattle.backup_images.specs.declared.segment.Seg.{Seg}
use Rattle.backup_images.specs.declared.segment.Seg.TheVariants.{Dropped, Freed, Patches, Reset}
use Rattle.backup_images.proofs.Groups.{compacted_images}

-- one image more weighs its bytes and at most a segment
joined_to_weighs : (s : Seg) (p : PageImage) → weights (joined_to s p) ≤ weight_of s + 64 + length p.bytes
joined_to_weighs (Patches patches) p = omega arith
joined_to_weighs (Dropped pid first count) p = omega arith
joined_to_weighs (Freed pid) p = omega arith
joined_to_weighs (Reset pid region pages) p = by (is_in pid region p)
  where
    by : (b : Bool) → weights (cond b (Reset pid region (pages ++ p ∷ []) ∷ []) (Reset pid region pages ∷ alone p ∷ [])) ≤ 64 + sum_by (λ (q : PageImage). length q.bytes) pages + 64 + length p.bytes
    by true = omega (arith, sum_by-append (λ (q : PageImage). length q.bytes) pages (p ∷ []))
    by false = omega arith

extended_weighs : (segments : List Seg) (p : PageImage) → weights (extended segments p) ≤ weights segments + 64 + length p.bytes
extended_weighs [] p = omega arith
extended_weighs (s ∷ []) p = omega (arith, joined_to_weighs s p)
extended_weighs (s ∷ t ∷ segments) p =
    let old : weights (s ∷ t ∷ segments) ≡ weights (s ∷ []) + weights (t ∷ segments) = sum_by-append weight_of (s ∷ []) (t ∷ segments) in
    let new : weights (extended (s ∷ t ∷ segments) p) ≡ weights (s ∷ []) + weights (extended (t ∷ segments) p) = sum_by-append weight_of (s ∷ []) (extended (t ∷ segments) p) in
    omega (arith, old, new, extended_weighs (t ∷ segments) p)

joined_weigh : (images : List PageImage) (segments : List Seg) → AllByRecursion (λ (p : PageImage). length p.bytes ≤ 4096) images → weights (joined segments images) ≤ weights segments + 4160 * length images
joined_weigh [] segments h = omega arith
joined_weigh (p ∷ images) segments h = let short = h.0 in omega (arith, short, extended_weighs segments p, joined_weigh images (extended segments p) h.1)

pub light : CompactedIsLight
light segments h = by (is_heavy (weights segments) (length (images_in segments))) refl
  where
    by : (b : Bool) → is_heavy (weights segments) (length (images_in segments)) ≡ b → weights (cond b (regions_reset (images_in segments)) segments) ≤ 8192 * length (images_in segments) + 1048576
    by true e = omega (arith, joined_weigh (images_in segments) [] h)
    by false e = ltb-false (8192 * length (images_in segments) + 1048576) (weights segments) e

pub keeps : CompactedKeepsImages
keeps segments = compacted_images segments
