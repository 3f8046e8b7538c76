use Rattle.std.proofs.Common.{◌≡◌, ◌∙◌, [], ap, subst, sym}
use Rattle.std.proofs.lemmas.Result.{on_ok_weaker}
use Rattle.lego_base.specs.Keys.{Rises}
use Rattle.lego_msg.specs.Maps.{copied_pages, page_key}
use Rattle.backup_images.specs.Segments.{images_after, images_in}
use Rattle.backup_images.proofs.Groups.{copied_images, images_rise}
use Rattle.backup_images.proofs.images.Images.copy_space.Goals as goal

pub copy_regions-requires : goal.copy_regions-requires
copy_regions-requires c = subst (Rises page_key) (sym (c.in_ok-pages.ensures ∙ c.as_slice.ensures.value ∙ c.self.invariant.1)) (images_rise c.self.inside.segments.items [] tt)

pub returns-clause-images : goal.returns-clause-images
returns-clause-images c =
    let before : c.in_ok-pages.pages.items ≡ images_in c.args.self.now = c.in_ok-pages.ensures ∙ c.as_slice.ensures.value ∙ c.self.invariant.1 ∙ ap images_in c.self.view_is in
    let made : c.copy_regions.new.pages.items ≡ copied_pages c.args.parent.0 c.args.child c.args.regions.now (images_in c.args.self.now) =
    c.in_ok-segments.ensures.pages ∙ ap (λ s. images_after s c.in_ok-pages.pages.items) c.in_ok-segments.ensures.segments
    ∙ copied_images c.args.parent c.args.child c.args.regions.now c.in_ok-pages.pages.items ∙ ap (copied_pages c.args.parent.0 c.args.child c.args.regions.now) before in
    on_ok_weaker c.commit.result (λ e. e ∙ made) c.commit.ensures.images
