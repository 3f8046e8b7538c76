use Rattle.std.proofs.Common.{◌≡◌, drop}
use Rattle.lego_base.specs.Keys.{Rises, put_all}
use Rattle.lego_msg.specs.Maps.{page_key}
use Rattle.backup_images.proofs.pages.put_all.Given as goal

abbrev pub invariant-loop-image : goal.invariant-loop-image
invariant-loop-image l = Rises page_key l.pages.items × (put_all page_key (drop l.image-index l.images) l.pages.items ≡ put_all page_key l.images l.initial.pages.items)
