use Rattle.std.proofs.Common.{◌≡◌, ◌+◌, ◌≤◌, ◌∷◌, ◌∙◌, List, ap, drop, length, ltb, subst, sym, ℕ}
use Rattle.std.proofs.lemmas.List.{drop_more}
use Rattle.lego_base.specs.Keys.{put, put_all}
use Rattle.lego_base.specs.declared.records.PageImage.{PageImage}
use Rattle.lego_msg.specs.Maps.{page_key}
use Rattle.page_store.proofs.Replaced.{not_full}
use Rattle.page_store.specs.Spots.{images, page_image}
use Rattle.page_store.proofs.store.put_each.Goals as goal

pub unreachable-requires : goal.unreachable-requires
unreachable-requires c =
    let i = c.loop-page.page-index in
    let rest = drop (i + 1) c.args.pages.now in
    let pages = images c.loop-page.frames.slots c.loop-page.spots.items in
    let page = c.page-item.result in
    let split : drop i c.args.pages.now ≡ page ∷ rest = drop_more c.args.pages.now i page c.loop-page-test.true ∙ ap (λ (p : PageImage). p ∷ rest) (sym c.page-item.is) in
    let all = ap (λ (l : List PageImage). put_all page_key l pages) (sym split) ∙ c.loop-page.invariant.pages in
    let room : length (put_all page_key (page ∷ rest) pages) ≤ c.args.most = subst (λ (l : List PageImage). length l ≤ c.args.most) (sym all) c.requires.room in
    let full = c.in-Err.ensures.full ∙ ap (λ (b : List ℕ). ltb c.args.most (length (put page_key (page_image page.pid page.vpn b) pages))) c.as_slice.ensures in
    not_full page rest pages c.args.most room full
