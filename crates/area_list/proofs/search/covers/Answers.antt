use Rattle.std.proofs.Common.{◌≡◌, ◌+◌, true, false, ◌∷◌, Some, get_or, drop, sym, ◌∙◌, ap, arith, rules}
use Rattle.std.proofs.lemmas.List.{drop_all}
use Rattle.area_list.specs.Runs.{IsCanonical}
use Rattle.area_list.specs.Cover.{has_all, covered}
use Rattle.area_list.proofs.Lengths.{no_area, first_left}
use Rattle.area_list.proofs.Covers.{covered_left, covered-none, covered-nothing, covered-behind, covered-below, covered-lacking, covered-whole, covered-rest}
use Rattle.area_list.proofs.search.covers.Goals as goal
use Rattle.area_list.proofs.search.covers.Goals.{then-at-run-via-then-at-run, then-at-run-via-else-at-run+then-not-contains}

pub overflow_add-end : goal.overflow_add-end
overflow_add-end c =
    let first : IsCanonical (get_or c.args.runs.now c.loop-run.run-index no_area ∷ drop (c.loop-run.run-index + 1) c.args.runs.now) = first_left c.args.runs.now c.loop-run.run-index no_area c.loop-run-test.true c.loop-run.invariant.canonical in
    omega (arith, first.1)

pub returns-then-left-eq0 : goal.returns-then-left-eq0
returns-then-left-eq0 c = sym (covered-none _ c.loop-run.at c.loop-run.left c.args.need c.if-left-eq0.true) ∙ c.loop-run.invariant.rest

pub loop-run-preserved-then-end-at : goal.loop-run-preserved-then-end-at
loop-run-preserved-then-end-at c =
    let run = get_or c.args.runs.now c.loop-run.run-index no_area in
    let more = drop (c.loop-run.run-index + 1) c.args.runs.now in
    let first : IsCanonical (run ∷ more) = first_left c.args.runs.now c.loop-run.run-index no_area c.loop-run-test.true c.loop-run.invariant.canonical in
    record {
      canonical = first.3;
      rest = sym (covered_left c.args.runs.now c.loop-run.run-index no_area c.loop-run.at c.loop-run.left c.args.need c.loop-run-test.true ∙ covered-behind run more c.loop-run.at c.loop-run.left c.args.need c.if-end-at.true) ∙ c.loop-run.invariant.rest;
    }

pub returns-then-at-run : goal.returns-then-at-run
returns-then-at-run c =
    let run = get_or c.args.runs.now c.loop-run.run-index no_area in
    let more = drop (c.loop-run.run-index + 1) c.args.runs.now in
    let first : IsCanonical (run ∷ more) = first_left c.args.runs.now c.loop-run.run-index no_area c.loop-run-test.true c.loop-run.invariant.canonical in
    let left : covered (drop c.loop-run.run-index c.args.runs.now) c.loop-run.at c.loop-run.left c.args.need ≡ covered (run ∷ more) c.loop-run.at c.loop-run.left c.args.need = covered_left c.args.runs.now c.loop-run.run-index no_area c.loop-run.at c.loop-run.left c.args.need c.loop-run-test.true in
    let lacks : covered (run ∷ more) c.loop-run.at c.loop-run.left c.args.need ≡ false =
    elim c.then-at-run.branch [
      | then-at-run-via-then-at-run w ↦ covered-below run more c.loop-run.at c.loop-run.left c.args.need first w.if-at-run.true c.if-left-eq0.false
      | then-at-run-via-else-at-run+then-not-contains w ↦ covered-lacking run more c.loop-run.at c.loop-run.left c.args.need w.if-at-run.false c.if-end-at.false (search rules) c.if-left-eq0.false
    ] in
    sym (left ∙ lacks) ∙ c.loop-run.invariant.rest

pub returns-then-left-end : goal.returns-then-left-end
returns-then-left-end c =
    let run = get_or c.args.runs.now c.loop-run.run-index no_area in
    let more = drop (c.loop-run.run-index + 1) c.args.runs.now in
    let has : has_all (Some run.perms) c.args.need ≡ true = search rules in
    sym (covered_left c.args.runs.now c.loop-run.run-index no_area c.loop-run.at c.loop-run.left c.args.need c.loop-run-test.true ∙ covered-whole run more c.loop-run.at c.loop-run.left c.args.need c.if-at-run.false (omega arith) has) ∙ c.loop-run.invariant.rest

pub loop-run-preserved : goal.loop-run-preserved
loop-run-preserved c =
    let run = get_or c.args.runs.now c.loop-run.run-index no_area in
    let more = drop (c.loop-run.run-index + 1) c.args.runs.now in
    let first : IsCanonical (run ∷ more) = first_left c.args.runs.now c.loop-run.run-index no_area c.loop-run-test.true c.loop-run.invariant.canonical in
    let has : has_all (Some run.perms) c.args.need ≡ true = search rules in
    record {
      canonical = first.3;
      rest = sym (covered_left c.args.runs.now c.loop-run.run-index no_area c.loop-run.at c.loop-run.left c.args.need c.loop-run-test.true ∙ covered-rest run more c.loop-run.at c.loop-run.left c.args.need c.if-at-run.false c.if-end-at.false c.if-left-end.false has) ∙ c.loop-run.invariant.rest;
    }

pub returns : goal.returns
returns c =
    sym (ap (λ r. covered r c.loop-run.at c.loop-run.left c.args.need) (drop_all c.loop-run.run-index c.args.runs.now c.loop-run-test.false) ∙ covered-nothing c.loop-run.at c.loop-run.left c.args.need) ∙ c.loop-run.invariant.rest
