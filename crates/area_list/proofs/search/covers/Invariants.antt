use Rattle.std.proofs.Common.{◌≡◌, drop}
use Rattle.area_list.specs.Runs.{IsCanonical}
use Rattle.area_list.specs.Cover.{covered}
use Rattle.area_list.proofs.search.covers.Given as goal

-- what is left of the range in the runs that are left decides
abbrev pub invariant-loop-run : goal.invariant-loop-run
invariant-loop-run l = record {
  canonical : IsCanonical (drop l.run-index l.runs);
  rest : covered (drop l.run-index l.runs) l.at l.left l.need ≡ covered l.runs l.first l.pages l.need;
}
