use Rattle.std.proofs.Common.{◌≡◌, ◌∙◌, ap, rules, sym}
use Rattle.std.proofs.lemmas.Result.{IfOk-weaker}
use Rattle.lego_base.specs.Pieces.{laid_over}
use Rattle.lego_msg.specs.Maps.{bytes_or_zeros, page_at}
use Rattle.backup_images.proofs.pages.patched_bytes.Goals as goal

-- a page that isn't there
pub returns-in_ok-zeros-in-None : goal.returns-in_ok-zeros-in-None
returns-in_ok-zeros-in-None c =
    let p = c.args.patch.now in
    let old : c.as_slice.result.now ≡ page_at c.args.pages.now p.pid.0 p.vpn.0 = c.as_slice.ensures.value ∙ c.in_ok-zeros-in-None.ensures.items_if_clones_equal (λ y h. search rules) ∙ sym (ap bytes_or_zeros c.in-None.ensures) in
    IfOk-weaker c.laid_over-in-None.result (λ b. b ≡ laid_over c.as_slice.result.now p.off c.as_slice-piece.result.now) (λ b. b ≡ laid_over (page_at c.args.pages.now p.pid.0 p.vpn.0) p.off p.bytes)
    (λ b e. e ∙ (λ i. laid_over (old i) p.off (c.as_slice-piece.ensures i))) c.laid_over-in-None.ensures
