use Rattle.std.proofs.Common.{◌≡◌, ◌-◌, ◌<◌, ◌≤◌, length, get_or, drop}
use Rattle.lego_base.specs.Space.{perms_of}
use Rattle.area_list.proofs.Lengths.{no_area}
use Rattle.area_list.proofs.search.perms_at.Given as goal

-- the runs from low on say of the page what all say, and those from high on begin above it
abbrev pub invariant-loop-low : goal.invariant-loop-low
invariant-loop-low l = record {
  order : l.low ≤ l.high;
  inside : l.high ≤ length l.runs;
  left : perms_of (drop l.low l.runs) l.page ≡ perms_of l.runs l.page;
  above : l.high < length l.runs → l.page < (get_or l.runs l.high no_area).first.0;
}

abbrev pub decreases-loop-low : goal.decreases-loop-low
decreases-loop-low l = l.high - l.low
