use Rattle.std.proofs.Common.{◌∙◌, ap, arith, length}
use Rattle.lego_msg.specs.Maps.{copied_pages}
use Rattle.mem_monitor.proofs.Cleared.{counts_cleared}
use Rattle.mem_monitor.proofs.Copying.{copied_cleared}
use Rattle.mem_monitor.specs.Counted.{counts}
use Rattle.page_store.specs.Store.{Store, holding}
use Rattle.mem_monitor.proofs.copies.copy_pages.Goals as goal

pub copy_regions-requires-clause-none : goal.copy_regions-requires-clause-none
copy_regions-requires-clause-none c =
    ap (λ (s : Store). counts c.args.child.0 c.args.regions.now s.pages) c.drop_regions.ensures ∙ counts_cleared c.args.child.0 c.args.regions.now c.args.pages.now.pages

pub copy_regions-requires-clause-fits : goal.copy_regions-requires-clause-fits
copy_regions-requires-clause-fits c =
    let same =
    ap (λ (s : Store). length (copied_pages c.args.parent.0 c.args.child c.args.regions.now s.pages)) c.drop_regions.ensures
    ∙ ap length (copied_cleared c.args.parent c.args.child c.requires.copy.0 c.args.regions.now c.args.pages.now.pages (c.used-used.ensures.form c.args.parent.0) c.used-used.ensures.rises c.requires.copy.1) in
    let frames = ap (λ (s : Store). s.frames) c.drop_regions.ensures in
    let fits = c.requires.fits in
    omega (arith, same, frames, fits)

pub returns : goal.returns
returns c =
    c.copy_regions.ensures
    ∙ (ap (λ (s : Store). holding s (copied_pages c.args.parent.0 c.args.child c.args.regions.now s.pages)) c.drop_regions.ensures
    ∙ ap (holding c.args.pages.now) (copied_cleared c.args.parent c.args.child c.requires.copy.0 c.args.regions.now c.args.pages.now.pages (c.used-used.ensures.form c.args.parent.0) c.used-used.ensures.rises c.requires.copy.1))
