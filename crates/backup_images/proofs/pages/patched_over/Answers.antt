use Rattle.std.proofs.Common.{◌≡◌, ◌∙◌, List, ap, sym, ℕ}
use Rattle.std.proofs.lemmas.Result.{IfOk-weaker}
use Rattle.lego_base.specs.Keys.{put_all}
use Rattle.lego_base.specs.Pieces.{laid_over}
use Rattle.lego_msg.specs.Maps.{page_at, page_key}
use Rattle.backup_images.proofs.Fresh.{bytes_below, bytes_on_top}
use Rattle.backup_images.proofs.pages.patched_over.Goals as goal

pub returns-in-Some : goal.returns-in-Some
returns-in-Some c =
    let p = c.args.patch.now in
    let top : page_at (put_all page_key c.args.fresh.now c.args.pages.now) p.pid.0 p.vpn.0 ≡ c.in-Some.old.now =
    bytes_on_top c.args.fresh.now c.args.pages.now p.pid.0 p.vpn.0 c.in-Some.old.now c.requires.fresh c.in-Some.ensures in
    IfOk-weaker c.laid_over.result (λ b. b ≡ laid_over c.in-Some.old.now p.off c.as_slice.result.now) (λ b. b ≡ laid_over (page_at (put_all page_key c.args.fresh.now c.args.pages.now) p.pid.0 p.vpn.0) p.off p.bytes)
    (λ b e. e ∙ (λ i. laid_over (sym top i) p.off (c.as_slice.ensures i))) c.laid_over.ensures

pub returns-in-None : goal.returns-in-None
returns-in-None c =
    let p = c.args.patch.now in
    let below = bytes_below c.args.fresh.now c.args.pages.now p.pid.0 p.vpn.0 c.requires.fresh c.in-None.ensures in
    IfOk-weaker c.patched_bytes.result (λ b. b ≡ laid_over (page_at c.args.pages.now p.pid.0 p.vpn.0) p.off p.bytes)
    (λ b. b ≡ laid_over (page_at (put_all page_key c.args.fresh.now c.args.pages.now) p.pid.0 p.vpn.0) p.off p.bytes) (λ b e. e ∙ ap (λ (old : List ℕ). laid_over old p.off p.bytes) (sym below)) c.patched_bytes.ensures
