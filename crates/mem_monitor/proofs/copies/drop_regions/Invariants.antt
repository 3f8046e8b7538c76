use Rattle.std.proofs.Common.{◌≡◌, drop}
use Rattle.mem_monitor.specs.Counted.{cleared}
use Rattle.mem_monitor.proofs.copies.drop_regions.Given as goal

abbrev pub invariant-loop-region : goal.invariant-loop-region
invariant-loop-region l = record {
  rest : cleared l.pid.0 (drop l.region-index l.regions) l.pages.pages ≡ cleared l.pid.0 l.regions l.initial.pages.pages;
  frames : l.pages.frames ≡ l.initial.pages.frames;
}
