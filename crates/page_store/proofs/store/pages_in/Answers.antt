use Rattle.std.proofs.Common.{◌≡◌, ◌∙◌, List, ap, subst, sym}
use Rattle.std.specs.Prelude.{IfOk}
use Rattle.lego_base.specs.Keys.{is_page_of}
use Rattle.lego_base.specs.declared.records.PageImage.{PageImage}
use Rattle.page_store.proofs.Places.{those-images}
use Rattle.page_store.proofs.Formed.{are_pages}
use Rattle.page_store.specs.Spots.{images}
use Rattle.page_store.proofs.store.pages_in.Goals as goal

pub returns-clause-pages : goal.returns-clause-pages
returns-clause-pages c =
    let same = ap (images c.args.frames.now.slots) (sym c.region_span-start.ensures.those) ∙ sym (those-images c.args.frames.now.slots (is_page_of c.args.pid.0 c.args.region.0) c.args.spots.now) in
    subst (λ (l : List PageImage). IfOk c.copies.result (λ pages. pages ≡ l)) same c.copies.ensures

pub returns-clause-form : goal.returns-clause-form
returns-clause-form c = are_pages c.args.frames.now.slots c.args.pid.0 c.args.region.0 c.args.spots.now c.requires.rises c.requires.held
