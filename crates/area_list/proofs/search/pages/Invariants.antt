use Rattle.std.proofs.Common.{◌≡◌, ◌+◌, drop}
use Rattle.area_list.specs.Runs.{page_count}
use Rattle.area_list.proofs.search.pages.Given as goal

abbrev pub invariant-loop-run : goal.invariant-loop-run
invariant-loop-run l = l.total + page_count (drop l.run-index l.runs) ≡ page_count l.runs
