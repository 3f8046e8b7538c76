use Rattle.std.proofs.Common.{arith}
use Rattle.std.proofs.lemmas.List.Sums.{sum_by-drop_more}
use Rattle.lego_base.specs.declared.records.Area.{Area}
use Rattle.area_list.proofs.Lengths.{no_area}
use Rattle.area_list.proofs.Canonical.{pages_fit}
use Rattle.area_list.proofs.search.pages.Goals as goal

pub overflow_add-total : goal.overflow_add-total
overflow_add-total c = omega (arith, sum_by-drop_more (λ (run : Area). run.pages) c.args.runs.now c.loop-run.run-index no_area c.loop-run-test.true, pages_fit c.args.runs.now c.requires)
