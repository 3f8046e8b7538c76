use Rattle.std.proofs.Common.{◌≡◌, drop}
use Rattle.lego_msg.specs.Form.{RegionsRise}
use Rattle.lego_msg.specs.Maps.{copied_pages}
use Rattle.mem_monitor.proofs.Copying.{AreFormed}
use Rattle.mem_monitor.specs.Counted.{counts}
use Rattle.mem_monitor.proofs.copies.copy_regions.Given as goal

abbrev pub invariant-loop-region : goal.invariant-loop-region
invariant-loop-region l = record {
  rest : copied_pages l.parent.0 l.child (drop l.region-index l.regions) l.pages.pages ≡ copied_pages l.parent.0 l.child l.initial.regions l.initial.pages.pages;
  rise : RegionsRise (drop l.region-index l.regions);
  none : counts l.child.0 (drop l.region-index l.regions) l.pages.pages ≡ 0;
  formed : AreFormed l.parent.0 l.pages.pages;
  frames : l.pages.frames ≡ l.initial.pages.frames;
}
