use Rattle.std.proofs.Common.{◌≡◌, drop}
use Rattle.area_list.specs.Runs.{IsCanonical, above, joined}
use Rattle.area_list.proofs.runs.Runs.append_above.Given as goal

-- the runs that are left, appended to what there is, give what all of them give
abbrev pub invariant-loop-run : goal.invariant-loop-run
invariant-loop-run l = record {
  canonical : IsCanonical (drop l.run-index l.runs);
  rest : joined l.self (above l.page (drop l.run-index l.runs)) ≡ joined l.fn.self (above l.page l.runs);
}
