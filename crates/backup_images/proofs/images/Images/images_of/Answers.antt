use Rattle.std.proofs.Common.{◌≡◌, ◌∙◌, [], ap, map, subst, sym}
use Rattle.std.proofs.lemmas.Result.{IfOk-weaker}
use Rattle.lego_base.specs.Keys.{Rises}
use Rattle.lego_msg.specs.Maps.{for_child, page_key, pages_of}
use Rattle.backup_images.specs.Segments.{images_in}
use Rattle.backup_images.proofs.Filters.{own_images}
use Rattle.backup_images.proofs.Groups.{images_rise}
use Rattle.backup_images.proofs.images.Images.images_of.Goals as goal

pub returns : goal.returns
returns c =
    let pid = c.args.pid in
    let region = c.args.region.0 in
    let is : c.as_slice.result.now ≡ images_in c.args.self.now = c.as_slice.ensures.value ∙ c.self.invariant.1 ∙ ap images_in c.self.view_is in
    IfOk-weaker c.images_as.result (λ v. v.items ≡ map (for_child pid) (pages_of pid.0 region c.as_slice.result.now)) (λ v. v.items ≡ pages_of pid.0 region (images_in c.args.self.now))
    (λ v e. e ∙ own_images pid region c.as_slice.result.now ∙ ap (pages_of pid.0 region) is) c.images_as.ensures

pub images_as-requires : goal.images_as-requires
images_as-requires c = subst (Rises page_key) (sym (c.as_slice.ensures.value ∙ c.self.invariant.1)) (images_rise c.self.inside.segments.items [] tt)
