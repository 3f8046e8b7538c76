use Rattle.std.proofs.Common.{List, ap, arith}
use Rattle.std.proofs.lemmas.List.{drop_more}
use Rattle.lego_base.specs.declared.ids.RegionNo.{RegionNo}
use Rattle.mem_monitor.proofs.Copying.{counts_few}
use Rattle.mem_monitor.specs.Counted.{counts}
use Rattle.mem_monitor.proofs.copies.count_all.Goals as goal

pub overflow_add-total : goal.overflow_add-total
overflow_add-total c =
    let none : RegionNo = record { 0 = 0 } in
    let i = c.loop-region.region-index in
    let split = ap (λ (l : List RegionNo). counts c.args.pid.0 l c.args.pages.now.pages) (drop_more c.args.regions.now i none c.loop-region-test.true) in
    let few = counts_few c.args.pid.0 c.args.regions.now c.args.pages.now.pages c.requires in
    let total = c.loop-region.invariant in
    let count = c.count.ensures in
    let used = c.used-used.ensures.used in
    let fits = c.used-used.type_inv in
    omega (arith, split, few, total, count, used, fits)

pub returns-clause-few : goal.returns-clause-few
returns-clause-few c =
    let few = counts_few c.args.pid.0 c.args.regions.now c.args.pages.now.pages c.requires in
    let total = c.loop-region.invariant in
    omega (arith, few, total)
