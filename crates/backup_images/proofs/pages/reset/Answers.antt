use Rattle.std.proofs.Common.{◌≡◌, ◌++◌, ◌∙◌, List, ap, drop, not, subst, sym, take}
use Rattle.lego_base.specs.Keys.{Rises, is_page_of, without}
use Rattle.lego_base.specs.declared.records.PageImage.{PageImage}
use Rattle.lego_msg.specs.Maps.{page_key}
use Rattle.backup_images.proofs.Rising.{those_rise}
use Rattle.backup_images.proofs.pages.reset.Goals as goal

pub put_all-requires : goal.put_all-requires
put_all-requires c =
    let old = c.args.pages.now.items in
    let gone : c.cut.new.pages.items ≡ without page_key (is_page_of c.args.pid.0 c.args.region.0) old =
    c.cut.ensures ∙ ap (λ (l : List PageImage). take c.region_span-start.result.0 l ++ drop c.region_span-start.result.1 l) (sym c.deref.ensures.value)
    ∙ sym c.region_span-start.ensures.others ∙ ap (without page_key (is_page_of c.args.pid.0 c.args.region.0)) c.deref.ensures.value in
    subst (Rises page_key) (sym gone) (those_rise page_key (λ k. not (is_page_of c.args.pid.0 c.args.region.0 k)) old c.requires)
