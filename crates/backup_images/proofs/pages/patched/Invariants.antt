use Rattle.std.proofs.Common.{◌≡◌, drop}
use Rattle.lego_base.specs.Keys.{Rises, put_all}
use Rattle.lego_msg.specs.Maps.{overlaid, page_key}
use Rattle.backup_images.proofs.pages.patched.Given as goal

abbrev pub invariant-loop-patch : goal.invariant-loop-patch
invariant-loop-patch l =
    Rises page_key l.fresh.items × (overlaid (drop l.patch-index l.patches) (put_all page_key l.fresh.items l.pages) ≡ overlaid l.patches l.pages)
