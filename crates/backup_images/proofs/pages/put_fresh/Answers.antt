use Rattle.std.proofs.Common.{◌≡◌, ◌+◌, ◌≤◌, ◌∷◌, ◌∙◌, List, ap, arith, length, suc, sym}
use Rattle.std.specs.Prelude.{vec_capacity}
use Rattle.std.specs.Vec.Iter.{into_iter_items}
use Rattle.lego_base.specs.Keys.{put, put_all}
use Rattle.lego_base.specs.declared.records.PageImage.{PageImage}
use Rattle.lego_msg.specs.Maps.{page_key}
use Rattle.backup_images.proofs.Fresh.{put_most}
use Rattle.backup_images.proofs.pages.put_fresh.Goals as goal

pub loop-page-preserved : goal.loop-page-preserved
loop-page-preserved c =
    let page = c.in-Some.page in
    let pages = c.loop-page.pages.items in
    let rest = into_iter_items c.next.new.self in
    let split : into_iter_items c.loop-page.page-iterator ≡ page ∷ rest = c.in-Some.ensures.steps.0 in
    let is : c.put.new.items.items ≡ put page_key page pages = c.in-Ok.ensures.ok in
    let before : length pages + length (into_iter_items c.loop-page.page-iterator) ≤ vec_capacity c.loop-page.pages = c.loop-page.invariant.3 in
    let left : length (into_iter_items c.loop-page.page-iterator) ≡ suc (length rest) = ap length split in
    let most : length (put page_key page pages) ≤ suc (length pages) = put_most page pages in
    let size : length c.put.new.items.items ≡ length (put page_key page pages) = ap length is in
    let room : vec_capacity c.loop-page.pages ≤ vec_capacity c.put.new.items = c.put.ensures.room in (
      tt,
      tt,
      c.put.ensures.rises,
      omega (arith, before, left, most, size, room),
      ap (put_all page_key rest) is ∙ sym (ap (λ (l : List PageImage). put_all page_key l pages) split) ∙ c.loop-page.invariant.4,
    )
