use Rattle.std.proofs.Common.{◌∙◌, ap, arith, sym}
use Rattle.std.proofs.lemmas.List.{get_or_default}
use Rattle.lego_base.specs.Keys.{key_at, same_key}
use Rattle.keyed_list.proofs.Found.{at_place, goes_to}
use Rattle.keyed_list.proofs.search.position.Goals as goal

pub returns-then-place-items-clause-err : goal.returns-then-place-items-clause-err
returns-then-place-items-clause-err g c =
    goes_to g.T.Keyed.key (key_at c.args.pid.0 c.args.number) c.args.items.now c.count_below-place.result c.requires c.count_below-place.ensures.below (λ d less. absurd (omega (arith, less)))

pub returns-then-has_key-clause-ok : goal.returns-then-has_key-clause-ok
returns-then-has_key-clause-ok g c =
    at_place g.T.Keyed.key (key_at c.args.pid.0 c.args.number) c.args.items.now c.count_below-place.result c.index-items-place.result c.requires c.count_below-place.ensures.below (omega arith) c.index-items-place.is (sym c.has_key.ensures ∙ c.if-has_key.true)

pub returns-clause-err : goal.returns-clause-err
returns-clause-err g c =
    goes_to g.T.Keyed.key (key_at c.args.pid.0 c.args.number) c.args.items.now c.count_below-place.result c.requires c.count_below-place.ensures.below
    (λ d less. ap (λ x. same_key (g.T.Keyed.key x) (key_at c.args.pid.0 c.args.number)) (get_or_default c.args.items.now c.count_below-place.result d c.index-items-place.result less ∙ sym c.index-items-place.is) ∙ (sym c.has_key.ensures ∙ c.if-has_key.false))
