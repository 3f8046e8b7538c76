use Rattle.std.proofs.Common.{◌≡◌, drop}
use Rattle.backup_images.specs.Segments.{joined, regions_reset}
use Rattle.backup_images.proofs.regions.regions_reset.Given as goal

abbrev pub invariant-loop-page : goal.invariant-loop-page
invariant-loop-page l = joined l.segments.items (drop l.page-index l.pages) ≡ regions_reset l.pages
