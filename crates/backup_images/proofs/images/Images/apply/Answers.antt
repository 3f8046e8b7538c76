use Rattle.std.proofs.Common.{◌∙◌, [], subst, sym}
use Rattle.lego_base.specs.Keys.{Rises}
use Rattle.lego_msg.specs.Maps.{page_key}
use Rattle.backup_images.proofs.Groups.{images_rise}
use Rattle.backup_images.proofs.images.Images.apply.Goals as goal

pub patched-requires : goal.patched-requires
patched-requires c = subst (Rises page_key) (sym (c.as_slice.ensures.value ∙ c.self.invariant.1)) (images_rise c.self.inside.segments.items [] tt)
