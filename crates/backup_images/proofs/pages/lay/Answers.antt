use Rattle.std.proofs.Common.{◌≡◌, ◌∙◌, List, ap, subst, sym}
use Rattle.std.proofs.lemmas.Result.{on_ok_weaker}
use Rattle.lego_base.specs.Keys.{Rises, put, put_all}
use Rattle.lego_base.specs.Pieces.{laid_over}
use Rattle.lego_base.specs.declared.records.PageImage.{PageImage}
use Rattle.lego_msg.specs.Maps.{page_at, page_key}
use Rattle.backup_images.proofs.Fresh.{put_over}
use Rattle.backup_images.proofs.Rising.{put_rises}
use Rattle.backup_images.proofs.pages.lay.Goals as goal

pub returns-clause-rises : goal.returns-clause-rises
returns-clause-rises c =
    let p = c.args.patch.now in
    let page : PageImage = record { pid = p.pid; vpn = p.vpn; bytes = c.in_ok-bytes.bytes } in
    on_ok_weaker c.put.result (λ e. subst (Rises page_key) (sym e) (put_rises page_key page c.args.fresh.now.items c.requires.fresh)) c.put.ensures

pub returns-clause-pages : goal.returns-clause-pages
returns-clause-pages c =
    let p = c.args.patch.now in
    let pages = c.args.pages.now in
    let fresh = c.args.fresh.now.items in
    let page : PageImage = record { pid = p.pid; vpn = p.vpn; bytes = c.in_ok-bytes.bytes } in
    let bytes : c.in_ok-bytes.bytes ≡ laid_over (page_at (put_all page_key fresh pages) p.pid.0 p.vpn.0) p.off p.bytes =
    c.in_ok-bytes.ensures ∙ ap (λ (l : List PageImage). laid_over (page_at (put_all page_key l pages) p.pid.0 p.vpn.0) p.off p.bytes) c.deref.ensures.value in
    on_ok_weaker c.put.result
    (λ e. ap (λ (l : List PageImage). put_all page_key l pages) e ∙ put_over page fresh pages c.requires.fresh c.requires.pages
    ∙ (λ i. put page_key (record { pid = p.pid; vpn = p.vpn; bytes = bytes i }) (put_all page_key fresh pages))) c.put.ensures
