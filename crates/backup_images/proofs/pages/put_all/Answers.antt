use Rattle.std.proofs.Common.{◌≡◌, ◌+◌, ◌∙◌, ap, drop, subst, sym}
use Rattle.std.proofs.lemmas.List.{at_drop_more}
use Rattle.lego_base.specs.Keys.{Rises, put, put_all}
use Rattle.lego_base.specs.declared.records.PageImage.{PageImage}
use Rattle.lego_msg.specs.Maps.{page_key}
use Rattle.backup_images.proofs.Rising.{put_rises}
use Rattle.backup_images.proofs.pages.put_all.Goals as goal

pub loop-image-preserved : goal.loop-image-preserved
loop-image-preserved c =
    let p = c.image-item.result in
    let X = c.loop-image.pages.items in
    let rest = drop (c.loop-image.image-index + 1) c.args.images.now in
    let is : c.put.new.pages.items ≡ put page_key p X = c.in_ok-put.ensures ∙ ap (λ b. put page_key (record { pid = p.pid; vpn = p.vpn; bytes = b }) X) c.in_ok-clone.ensures.cases in (
      subst (Rises page_key) (sym is) (put_rises page_key p X c.loop-image.invariant.0),
      ap (put_all page_key rest) (is ∙ ap (λ (q : PageImage). put page_key q X) c.image-item.is)
          ∙ sym (at_drop_more (λ ps. put_all page_key ps X) c.args.images.now c.loop-image.image-index p c.loop-image-test.true) ∙ c.loop-image.invariant.1,
    )
