-- Segments: what was done to the images of pages, in order. The images are what the segments make of none.
use Rattle.std.specs.Prelude.{◌+◌, ◌*◌, ◌/◌, ◌==◌, ◌&&◌, if◌then◌else◌, [], ◌∷◌, ◌++◌, ℕ, Bool, List, false, length, map, nat_lt, sum_by}
use Rattle.lego_base.specs.Keys.{is_of, is_page_from, without}
use Rattle.lego_base.specs.declared.ids.Pid.{Pid}
use Rattle.lego_base.specs.declared.ids.RegionNo.{RegionNo}
use Rattle.lego_base.specs.declared.records.PageImage.{PageImage}
use Rattle.lego_base.specs.declared.records.Patch.{Patch}
use Rattle.lego_msg.specs.Maps.{for_child, overlaid, page_key, pages_of, with_pages}
use Rattle.backup_images.specs.declared.segment.Seg.{Seg}
use Rattle.backup_images.specs.declared.segment.Seg.TheVariants.{Dropped, Freed, Patches, Reset}

-- what a segment makes of images
abbrev pub after_segment : List PageImage → Seg → List PageImage
after_segment images (Patches patches) = overlaid patches images
after_segment images (Dropped pid first pages) = without page_key (is_page_from pid.0 first.0 pages) images
after_segment images (Freed pid) = without page_key (is_of pid.0) images
after_segment images (Reset pid region pages) = with_pages pid.0 region.0 pages images

abbrev pub images_after : List Seg → List PageImage → List PageImage
images_after [] images = images
images_after (s ∷ segments) images = images_after segments (after_segment images s)

-- the images of segments
abbrev pub images_in : List Seg → List PageImage
images_in segments = images_after segments []

-- WEIGHT: 64 a segment, and the bytes of its patches or pages
abbrev pub weight_of : Seg → ℕ
weight_of (Patches patches) = 64 + sum_by (λ (p : Patch). length p.bytes) patches
weight_of (Dropped pid first pages) = 64
weight_of (Freed pid) = 64
weight_of (Reset pid region pages) = 64 + sum_by (λ (p : PageImage). length p.bytes) pages

abbrev pub weights : List Seg → ℕ
weights segments = sum_by weight_of segments

-- segments that weigh too much for a number of images
abbrev pub is_heavy : ℕ → ℕ → Bool
is_heavy weight images = nat_lt (8192 * images + 1048576) weight

-- COMPACTION: images as one segment a region, in order

-- whether an image is of a region
abbrev pub is_in : Pid → RegionNo → PageImage → Bool
is_in pid region p = p.pid.0 == pid.0 && p.vpn.0 / 512 == region.0

-- the segment of one image
abbrev pub alone : PageImage → Seg
alone p = Reset p.pid (record { 0 = p.vpn.0 / 512 }) (p ∷ [])

-- whether an image belongs to a segment of its region, and that segment with it
abbrev pub belongs_to : Seg → PageImage → Bool
belongs_to (Reset pid region pages) p = is_in pid region p
belongs_to s p = false

abbrev pub with_image : Seg → PageImage → Seg
with_image (Reset pid region pages) p = Reset pid region (pages ++ p ∷ [])
with_image s p = s

-- segments with one image more, which goes to the last one where it belongs to it
abbrev pub joined_to : Seg → PageImage → List Seg
joined_to s p = if belongs_to s p then with_image s p ∷ [] else s ∷ alone p ∷ []

abbrev pub extended : List Seg → PageImage → List Seg
extended [] p = alone p ∷ []
extended (s ∷ []) p = joined_to s p
extended (s ∷ s' ∷ segments) p = s ∷ extended (s' ∷ segments) p

abbrev pub joined : List Seg → List PageImage → List Seg
joined segments [] = segments
joined segments (p ∷ images) = joined (extended segments p) images

-- one segment for each region that has images, in rising order
abbrev pub regions_reset : List PageImage → List Seg
regions_reset images = joined [] images

-- segments that are not too heavy for their images
abbrev pub compacted : List Seg → List Seg
compacted segments = if is_heavy (weights segments) (length (images_in segments)) then regions_reset (images_in segments) else segments

-- one segment for each of some regions: the child's images become the parent's
abbrev pub copied_region : Pid → Pid → List PageImage → RegionNo → Seg
copied_region parent child images region = Reset child region (map (for_child child) (pages_of parent.0 region.0 images))

abbrev pub copied : Pid → Pid → List RegionNo → List PageImage → List Seg
copied parent child [] images = []
copied parent child (region ∷ regions) images =
    copied_region parent child images region ∷ copied parent child regions (after_segment images (copied_region parent child images region))
