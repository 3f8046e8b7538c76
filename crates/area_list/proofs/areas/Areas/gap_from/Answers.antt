use Rattle.std.proofs.Common.{◌≡◌, ℕ, List, Option, Some, None, sym, ◌∙◌, ap, subst}
use Rattle.lego_base.specs.declared.records.Area.{Area}
use Rattle.area_list.specs.Runs.{IsCanonical}
use Rattle.area_list.specs.Gap.{lowest_gap}
use Rattle.area_list.proofs.Gaps.{Found, gap-lowest}
use Rattle.area_list.proofs.areas.Areas.gap_from.Goals as goal
use Rattle.area_list.proofs.areas.Areas.gap_from.Goals.{After-lowest_gap}

same : (c : After-lowest_gap) → c.as_slice.result.now ≡ c.args.self.now
same c = c.as_slice.ensures.items ∙ c.self.view_is

-- what was found is the lowest gap of these runs
found : (c : After-lowest_gap) → (answer : Option ℕ) → answer ≡ lowest_gap c.as_slice.result.now c.args.first.0 c.args.pages → Found c.args.self.now c.args.first.0 c.args.pages answer
found c answer e =
    let P : Option ℕ → Type 0 = Found c.args.self.now c.args.first.0 c.args.pages in
    let Q : List Area → Type 0 = IsCanonical in
    subst P (sym (e ∙ ap (λ runs. lowest_gap runs c.args.first.0 c.args.pages) (same c))) (gap-lowest c.args.self.now c.args.first.0 c.args.pages (subst Q c.self.view_is c.self.invariant))

pub returns-in-Some-clause-lowest : goal.returns-in-Some-clause-lowest
returns-in-Some-clause-lowest c = found (goal.at.returns-in-Some-clause-lowest c).After-lowest_gap (Some c.in-Some.at) c.in-Some.ensures

pub returns-in-None-clause-lowest : goal.returns-in-None-clause-lowest
returns-in-None-clause-lowest c = found (goal.at.returns-in-None-clause-lowest c).After-lowest_gap None c.in-None.ensures
