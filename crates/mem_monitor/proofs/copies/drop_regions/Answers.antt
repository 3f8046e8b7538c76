use Rattle.std.proofs.Common.{◌+◌, ◌∙◌, List, ap, drop, sym}
use Rattle.std.proofs.lemmas.List.{drop_more}
use Rattle.lego_base.specs.declared.ids.RegionNo.{RegionNo}
use Rattle.mem_monitor.specs.Counted.{cleared}
use Rattle.page_store.specs.Store.{Store}
use Rattle.mem_monitor.proofs.copies.drop_regions.Goals as goal

pub loop-region-preserved : goal.loop-region-preserved
loop-region-preserved c =
    let none : RegionNo = record { 0 = 0 } in
    let i = c.loop-region.region-index in
    let split = drop_more c.args.regions.now i none c.loop-region-test.true in
    record {
      rest =
          ap (λ (s : Store). cleared c.args.pid.0 (drop (i + 1) c.args.regions.now) s.pages) c.drop_region.ensures
          ∙ (ap (λ (l : List RegionNo). cleared c.args.pid.0 l c.loop-region.pages.pages) (sym split) ∙ c.loop-region.invariant.rest);
      frames = ap (λ (s : Store). s.frames) c.drop_region.ensures ∙ c.loop-region.invariant.frames;
    }
