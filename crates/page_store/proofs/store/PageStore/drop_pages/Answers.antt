use Rattle.std.proofs.Common.{◌≡◌, ◌∙◌, arith, ap, sym, ℕ}
use Rattle.lego_base.specs.Keys.{is_page_from, without}
use Rattle.lego_msg.specs.Maps.{page_key}
use Rattle.page_store.proofs.Freed.{without_none}
use Rattle.page_store.specs.Store.{holding}
use Rattle.page_store.proofs.store.PageStore.drop_pages.Goals as goal

pub returns-else-pages-gt0 : goal.returns-else-pages-gt0
returns-else-pages-gt0 c =
    let zero_ : 0 ≡ c.args.pages = omega arith in
    let same = ap (λ (n : ℕ). without page_key (is_page_from c.args.pid.0 c.args.first.0 n) c.args.self.now.pages) (sym zero_) ∙ without_none c.args.pid.0 c.args.first.0 c.args.self.now.pages in
    sym (ap (λ pages. holding c.args.self.now pages) same)
