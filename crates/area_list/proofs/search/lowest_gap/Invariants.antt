use Rattle.std.proofs.Common.{◌≡◌, ◌≤◌, drop}
use Rattle.lego_base.specs.declared.sizes.TheConstants.{PAGES_END}
use Rattle.area_list.specs.Runs.{IsCanonical}
use Rattle.area_list.specs.Gap.{gap_between}
use Rattle.area_list.proofs.search.lowest_gap.Given as goal

-- the gap from here on among the runs that are left is that from the start on among all
abbrev pub invariant-loop-run : goal.invariant-loop-run
invariant-loop-run l = record {
  canonical : IsCanonical (drop l.run-index l.runs);
  within : l.at ≤ PAGES_END;
  rest : gap_between (drop l.run-index l.runs) l.at l.pages ≡ gap_between l.runs l.first l.pages;
}
