use Rattle.std.proofs.Common.{◌≡◌, ◌<◌, refl}
use Rattle.area_list.specs.declared.TheConstants.{MOST_RUNS}
use Rattle.ex_memory.proofs.Joining.{run_ends, run_fits, run_goes_on}
use Rattle.ex_memory.proofs.areas.joined.Goals as goal

pub put-requires : goal.put-requires
put-requires c = run_ends c.loop-run.areas c.args.runs.now c.args.runs.now c.loop-run.run-index c.loop-run-test.true c.loop-run.invariant

pub unreachable-requires : goal.unreachable-requires
unreachable-requires c =
    run_fits c.loop-run.areas c.args.runs.now c.args.runs.now c.loop-run.run-index c.loop-run-test.true c.loop-run.invariant MOST_RUNS c.requires.few (c.in-Err.ensures.too_many.0 refl)

pub loop-run-preserved : goal.loop-run-preserved
loop-run-preserved c = run_goes_on c.loop-run.areas c.args.runs.now c.args.runs.now c.loop-run.run-index c.loop-run-test.true c.loop-run.invariant c.put.new.self c.in-Ok.ensures.ok
