use Rattle.std.proofs.Common.{◌∙◌, subst, sym}
use Rattle.lego_base.specs.Keys.{Rises, is_at, key_at}
use Rattle.keyed_list.proofs.Listed.{Rises-without}
use Rattle.keyed_list.specs.Places.{IsAt}
use Rattle.keyed_list.proofs.edit.remove.Goals as goal

pub returns-in-Ok-clause-rises : goal.returns-in-Ok-clause-rises
returns-in-Ok-clause-rises g c =
    let at = subst (λ xs. IsAt g.T.Keyed.key (key_at c.args.pid.0 c.args.number) xs c.in-Ok.place) c.as_slice.ensures.value c.in-Ok.ensures.ok in
    subst (Rises g.T.Keyed.key) (at.removed ∙ sym c.remove-gone.ensures.items) (Rises-without g.T.Keyed.key (is_at c.args.pid.0 c.args.number) c.args.items.now.items c.requires)
