use Rattle.std.proofs.Common.{◌≡◌, ◌++◌, drop}
use Rattle.lego_base.specs.Keys.{Rises}
use Rattle.lego_msg.specs.Maps.{page_key}
use Rattle.backup_images.specs.Segments.{copied, images_after}
use Rattle.backup_images.proofs.regions.copy_regions.Given as goal

abbrev pub invariant-loop-region : goal.invariant-loop-region
invariant-loop-region l =
    Rises page_key l.pages.items
    × (l.segments.items ++ copied l.parent l.child (drop l.region-index l.regions) l.pages.items ≡ copied l.parent l.child l.regions l.initial.pages.items)
    × (l.pages.items ≡ images_after l.segments.items l.initial.pages.items)
