use Rattle.std.proofs.Common.{◌+◌, [], refl}
use Rattle.area_list.specs.Runs.{below, above, cut_runs}
use Rattle.area_list.proofs.Lengths.{still_more, at_err, in_two, over_two}
use Rattle.area_list.proofs.runs.Runs.build_cut.Goals as goal
use Rattle.area_list.specs.declared.TheConstants.{MOST_RUNS}

pub returns-in_err-append_below-clause-err : goal.returns-in_err-append_below-clause-err
unfolding cut_runs
returns-in_err-append_below-clause-err c =
    at_err c.from_residual.result (over_two MOST_RUNS _ (below c.args.first c.args.runs.now) (above (c.args.first + c.args.pages) c.args.runs.now) c.clear.ensures c.in_err-append_below.ensures.err)

pub returns-in_err-append_above-clause-err : goal.returns-in_err-append_above-clause-err
unfolding cut_runs
returns-in_err-append_above-clause-err c =
    at_err c.from_residual-in_err-append_above.result (still_more MOST_RUNS _ [] _ c.in_err-append_above.ensures.err (in_two _ (below c.args.first c.args.runs.now) (above (c.args.first + c.args.pages) c.args.runs.now) _ _ c.clear.ensures c.in_ok-append_below.ensures.ok refl))

pub returns-clause-ok : goal.returns-clause-ok
unfolding cut_runs
returns-clause-ok c =
    in_two _ (below c.args.first c.args.runs.now) (above (c.args.first + c.args.pages) c.args.runs.now) _ _ c.clear.ensures c.in_ok-append_below.ensures.ok c.in_ok-append_above.ensures.ok
