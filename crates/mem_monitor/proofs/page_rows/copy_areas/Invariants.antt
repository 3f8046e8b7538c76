use Rattle.std.proofs.Common.{◌≡◌, drop}
use Rattle.lego_msg.specs.Maps.{copied_areas}
use Rattle.mem_monitor.proofs.page_rows.copy_areas.Given as goal

abbrev pub invariant-loop-region : goal.invariant-loop-region
invariant-loop-region l =
    (copied_areas l.parent.0 l.child (drop l.region-index l.regions) l.keeper.areas ≡ copied_areas l.parent.0 l.child l.initial.regions l.initial.keeper.areas)
    × (l.keeper.homes ≡ l.initial.keeper.homes)
