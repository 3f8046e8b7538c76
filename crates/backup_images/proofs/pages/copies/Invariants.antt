use Rattle.std.proofs.Common.{◌≡◌, ◌++◌, drop, map}
use Rattle.lego_msg.specs.Maps.{for_child}
use Rattle.backup_images.proofs.pages.copies.Given as goal

abbrev pub invariant-loop-page : goal.invariant-loop-page
invariant-loop-page l = l.images.items ++ map (for_child l.child) (drop l.page-index l.pages) ≡ map (for_child l.child) l.pages
