use Rattle.std.proofs.Common.{◌+◌, ◌++◌, [], refl, sym}
use Rattle.area_list.specs.Runs.{between, below, above, put_runs}
use Rattle.area_list.proofs.Lengths.{joined-append, still_more, at_err, in_three, over_two}
use Rattle.area_list.proofs.runs.Runs.build_put.Goals as goal
use Rattle.area_list.specs.declared.TheConstants.{MOST_RUNS}

pub returns-in_err-append_below-clause-err : goal.returns-in_err-append_below-clause-err
unfolding put_runs
returns-in_err-append_below-clause-err c =
    let left = below c.args.first c.args.runs.now in
    let middle = between c.args.first (c.args.first + c.args.pages) c.args.perms in
    let right = above (c.args.first + c.args.pages) c.args.runs.now in
    at_err c.from_residual.result (still_more MOST_RUNS _ right _ (over_two MOST_RUNS _ left middle c.clear.ensures c.in_err-append_below.ensures.err) (sym (joined-append [] (left ++ middle) right)))

pub returns-in_err-append-clause-err : goal.returns-in_err-append-clause-err
unfolding put_runs
returns-in_err-append-clause-err c =
    let left = below c.args.first c.args.runs.now in
    let middle = between c.args.first (c.args.first + c.args.pages) c.args.perms in
    let right = above (c.args.first + c.args.pages) c.args.runs.now in
    at_err c.from_residual-in_err-append.result (still_more MOST_RUNS _ right _ c.in_err-append.ensures.err (in_three _ left middle right _ _ _ c.clear.ensures c.in_ok-append_below.ensures.ok refl refl))

pub returns-in_err-append_above-clause-err : goal.returns-in_err-append_above-clause-err
unfolding put_runs
returns-in_err-append_above-clause-err c =
    let left = below c.args.first c.args.runs.now in
    let middle = between c.args.first (c.args.first + c.args.pages) c.args.perms in
    let right = above (c.args.first + c.args.pages) c.args.runs.now in
    at_err c.from_residual-in_err-append_above.result (still_more MOST_RUNS _ [] _ c.in_err-append_above.ensures.err (in_three _ left middle right _ _ _ c.clear.ensures c.in_ok-append_below.ensures.ok c.in_ok-append.ensures.ok refl))

pub returns-clause-ok : goal.returns-clause-ok
unfolding put_runs
returns-clause-ok c =
    let left = below c.args.first c.args.runs.now in
    let middle = between c.args.first (c.args.first + c.args.pages) c.args.perms in
    let right = above (c.args.first + c.args.pages) c.args.runs.now in
    in_three _ left middle right _ _ _ c.clear.ensures c.in_ok-append_below.ensures.ok c.in_ok-append.ensures.ok c.in_ok-append_above.ensures.ok
