-- Laws of segments.
use Rattle.std.specs.Prelude.{◌≡◌, ◌+◌, ◌*◌, ◌≤◌, List, length}
use Rattle.std.specs.List.{AllByRecursion}
use Rattle.lego_base.specs.declared.records.PageImage.{PageImage}
use Rattle.lego_base.specs.declared.records.Patch.{Patch}
use Rattle.lego_msg.specs.Maps.{overlaid}
use Rattle.backup_images.specs.Segments.{compacted, images_in, weights}
use Rattle.backup_images.specs.declared.segment.Seg.{Seg}

-- Segments that are compacted aren't too heavy, where no image has more bytes than a page.
abbrev pub CompactedIsLight : Type 0
CompactedIsLight =
    (segments : List Seg) → AllByRecursion (λ (p : PageImage). length p.bytes ≤ 4096) (images_in segments)
    → weights (compacted segments) ≤ 8192 * length (images_in segments) + 1048576

-- and they have the images that they had
abbrev pub CompactedKeepsImages : Type 0
CompactedKeepsImages = (segments : List Seg) → images_in (compacted segments) ≡ images_in segments

-- A batch that is applied twice gives the images that it gives once, where each patch lies within its page and each image is
-- a whole page.
abbrev pub ABatchTwice : Type 0
ABatchTwice =
    (segments : List Seg) (batch : List Patch) → AllByRecursion (λ (p : Patch). p.off + length p.bytes ≤ 4096) batch
    → AllByRecursion (λ (p : PageImage). length p.bytes ≡ 4096) (images_in segments)
    → overlaid batch (overlaid batch (images_in segments)) ≡ overlaid batch (images_in segments)
