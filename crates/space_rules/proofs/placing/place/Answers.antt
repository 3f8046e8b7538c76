use Rattle.std.proofs.Common.{ℕ, ◌≤◌, Some, None, subst, rules}
use Rattle.area_list.specs.Gap.{IsGap}
use Rattle.space_rules.proofs.LowestPlace.{lowest_of}
use Rattle.space_rules.proofs.placing.place.Goals as goal

pub returns-in-Some-clause-lowest : goal.returns-in-Some-clause-lowest
returns-in-Some-clause-lowest c = lowest_of c.args.areas.now c.args.len (Some c.in-Some.page.0) (search rules)

pub returns-in-None-clause-lowest : goal.returns-in-None-clause-lowest
returns-in-None-clause-lowest c = lowest_of c.args.areas.now c.args.len None (subst (λ (pages : ℕ). (page : ℕ) → 0x2000000 ≤ page → IsGap c.args.areas.now page pages → ⊥) c.pages_for.ensures c.in-None.ensures.lowest)
