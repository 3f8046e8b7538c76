use Rattle.std.proofs.Common.{◌≡◌, ◌∙◌, subst, sym}
use Rattle.lego_base.specs.Keys.{Rises, key_at}
use Rattle.keyed_list.proofs.Listed.{Rises-put}
use Rattle.keyed_list.specs.Places.{Belongs, IsAt}
use Rattle.keyed_list.proofs.edit.put.Goals as goal

pub returns-in-Ok-clause-rises : goal.returns-in-Ok-clause-rises
returns-in-Ok-clause-rises g c =
    let same : g.T.Keyed.key c.args.item ≡ key_at c.pid.result.0 c.number.result = λ i. record { pid = sym c.pid.ensures i; number = sym c.number.ensures i } in
    let at = subst (λ xs. IsAt g.T.Keyed.key (key_at c.pid.result.0 c.number.result) xs c.in-Ok.place) c.as_slice.ensures.value c.in-Ok.ensures.ok in
    subst (Rises g.T.Keyed.key) (at.replaced c.args.item same) (Rises-put g.T.Keyed.key c.args.item c.args.items.now.items c.requires)

pub returns-in_ok-insert-in-Err-clause-rises : goal.returns-in_ok-insert-in-Err-clause-rises
returns-in_ok-insert-in-Err-clause-rises g c =
    let same : g.T.Keyed.key c.args.item ≡ key_at c.pid.result.0 c.number.result = λ i. record { pid = sym c.pid.ensures i; number = sym c.number.ensures i } in
    let to = subst (λ xs. Belongs g.T.Keyed.key (key_at c.pid.result.0 c.number.result) xs c.in-Err.place) c.as_slice.ensures.value c.in-Err.ensures.err in
    subst (Rises g.T.Keyed.key) (to.inserted c.args.item same ∙ sym c.in_ok-insert-in-Err.ensures.items) (Rises-put g.T.Keyed.key c.args.item c.args.items.now.items c.requires)
