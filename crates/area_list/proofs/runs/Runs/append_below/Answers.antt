use Rattle.std.proofs.Common.{◌≡◌, ◌+◌, min, ◌∷◌, drop, get_or, ◌∙◌, arith, rules}
use Rattle.area_list.specs.declared.TheConstants.{MOST_RUNS}
use Rattle.area_list.specs.Runs.{end_of, IsCanonical, below}
use Rattle.area_list.proofs.Lengths.{no_area, below_more, still_more, first_left, at_err}
use Rattle.area_list.proofs.runs.Runs.append_below.Goals as goal

pub overflow_add-end : goal.overflow_add-end
overflow_add-end c =
    let first : IsCanonical (get_or c.args.runs.now c.loop-run.run-index no_area ∷ drop (c.loop-run.run-index + 1) c.args.runs.now) = first_left c.args.runs.now c.loop-run.run-index no_area c.loop-run-test.true c.loop-run.invariant.canonical in
    omega (arith, first.1)

pub returns-in_err-append-clause-err : goal.returns-in_err-append-clause-err
returns-in_err-append-clause-err c =
    let is : c.min.result ≡ min (end_of (get_or c.args.runs.now c.loop-run.run-index no_area)) c.args.page = search rules in
    let more = below_more c.args.page c.loop-run.self c.args.runs.now c.loop-run.run-index no_area c.min.result c.loop-run-test.true is in
    at_err c.from_residual.result (still_more MOST_RUNS _ (below c.args.page (drop (c.loop-run.run-index + 1) c.args.runs.now)) _ c.in_err-append.ensures.err (more ∙ c.loop-run.invariant.rest))
