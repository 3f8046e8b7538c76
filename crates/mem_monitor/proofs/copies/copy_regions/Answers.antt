use Rattle.std.proofs.Common.{◌≡◌, ◌+◌, ◌≤◌, ◌∷◌, ◌∙◌, List, ap, arith, drop, get_or, length, subst, sym}
use Rattle.std.proofs.lemmas.Bool.{ltb-true}
use Rattle.std.proofs.lemmas.List.{drop_more}
use Rattle.lego_base.specs.declared.ids.RegionNo.{RegionNo}
use Rattle.lego_base.specs.declared.records.PageImage.{PageImage}
use Rattle.lego_msg.specs.Form.{RegionsRise}
use Rattle.lego_msg.specs.Maps.{copied_pages}
use Rattle.mem_monitor.proofs.Copying.{AreFormed, counts_child, step_fits, step_formed}
use Rattle.mem_monitor.specs.Counted.{counts}
use Rattle.page_store.specs.Store.{Store, copied}
use Rattle.mem_monitor.proofs.copies.copy_regions.Goals as goal

pub unreachable-requires : goal.unreachable-requires
unreachable-requires c =
    let none : RegionNo = record { 0 = 0 } in
    let i = c.loop-region.region-index in
    let r = get_or c.args.regions.now i none in
    let rest = drop (i + 1) c.args.regions.now in
    let pages = c.loop-region.pages.pages in
    let split = drop_more c.args.regions.now i none c.loop-region-test.true in
    let rise : RegionsRise (r ∷ rest) = subst RegionsRise split c.loop-region.invariant.rise in
    let gone : counts c.args.child.0 (r ∷ rest) pages ≡ 0 = ap (λ (l : List RegionNo). counts c.args.child.0 l pages) (sym split) ∙ c.loop-region.invariant.none in
    let all = ap length (ap (λ (l : List RegionNo). copied_pages c.args.parent.0 c.args.child l pages) (sym split) ∙ c.loop-region.invariant.rest) in
    let fits = c.requires.fits in
    let frames = c.loop-region.invariant.frames in
    let room : length (copied_pages c.args.parent.0 c.args.child (r ∷ rest) pages) ≤ c.loop-region.pages.frames = omega (arith, all, fits, frames) in
    let step = step_fits c.args.parent c.args.child c.requires.copy.0 r rest pages c.loop-region.pages.frames c.loop-region.invariant.formed rise gone room in
    let full = ltb-true c.loop-region.pages.frames (length (copied c.args.parent c.args.child r pages)) (sym c.in-Err.ensures.full) in
    omega (arith, step, full)

pub loop-region-preserved : goal.loop-region-preserved
loop-region-preserved c =
    let none : RegionNo = record { 0 = 0 } in
    let i = c.loop-region.region-index in
    let r = get_or c.args.regions.now i none in
    let rest = drop (i + 1) c.args.regions.now in
    let pages = c.loop-region.pages.pages in
    let split = drop_more c.args.regions.now i none c.loop-region-test.true in
    let rise : RegionsRise (r ∷ rest) = subst RegionsRise split c.loop-region.invariant.rise in
    let gone : counts c.args.child.0 (r ∷ rest) pages ≡ 0 = ap (λ (l : List RegionNo). counts c.args.child.0 l pages) (sym split) ∙ c.loop-region.invariant.none in
    let new : c.copy_pages.new.self.pages ≡ copied c.args.parent c.args.child r pages = ap (λ (s : Store). s.pages) c.in-Ok.ensures.ok in
    let mine = counts_child c.args.parent c.args.child c.requires.copy.0 r rest pages c.loop-region.invariant.formed rise.0 in
    let moved = ap (counts c.args.child.0 rest) new in
    record {
      rest =
          ap (λ (l : List PageImage). copied_pages c.args.parent.0 c.args.child rest l) new
          ∙ (ap (λ (l : List RegionNo). copied_pages c.args.parent.0 c.args.child l pages) (sym split) ∙ c.loop-region.invariant.rest);
      rise = rise.1;
      none = omega (arith, gone, mine, moved);
      formed = subst (AreFormed c.args.parent.0) (sym new) (step_formed c.args.parent c.args.child c.requires.copy.0 r pages c.loop-region.invariant.formed);
      frames = ap (λ (s : Store). s.frames) c.in-Ok.ensures.ok ∙ c.loop-region.invariant.frames;
    }
