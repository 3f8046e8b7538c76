use Rattle.std.proofs.Common.{◌≡◌, ◌++◌, [], ◌∷◌, sym, ◌∙◌, ap, arith, length-append}
use Rattle.area_list.specs.Runs.{extended}
use Rattle.area_list.proofs.Lengths.{push-longer, push-apart}
use Rattle.area_list.proofs.runs.Runs.push.Goals as goal
use Rattle.area_list.proofs.runs.Runs.push.Goals.{After-len}

-- where the run doesn't go on, it's one more
apart : (c : After-len) → extended c.args.self.now c.args.next ≡ c.push_reserved-2.new.self.items ++ c.args.next ∷ []
apart c = push-apart _ _ c.in-Some.last c.args.next (sym c.self.view_is ∙ c.in-Some.ensures.items) (sym c.if-goes_on.ensures) ∙ ap (λ r. r ++ c.args.next ∷ []) (sym c.push_reserved-2.ensures.items)

pub returns-then-goes_on-clause-ok : goal.returns-then-goes_on-clause-ok
returns-then-goes_on-clause-ok c = push-longer _ _ _ c.in-Some.last c.args.next (sym c.self.view_is ∙ c.in-Some.ensures.items) (sym c.if-goes_on.ensures) c.push_reserved-then-goes_on.ensures.items

pub returns-then-len-eq-MOST_RUNS-clause-err : goal.returns-then-len-eq-MOST_RUNS-clause-err
returns-then-len-eq-MOST_RUNS-clause-err c =
    let e = apart (goal.at.returns-then-len-eq-MOST_RUNS-clause-err c).After-len in rw e (omega (arith, length-append c.push_reserved-2.new.self.items (c.args.next ∷ [])))

pub returns-clause-ok : goal.returns-clause-ok
returns-clause-ok c = c.push_reserved-3.ensures.items ∙ sym (apart (goal.at.returns-clause-ok c).After-len)
