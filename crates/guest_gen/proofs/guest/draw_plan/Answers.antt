use Rattle.std.proofs.Common.{◌≡◌, ◌∙◌, ℕ, IfOk, ap, subst}
use Rattle.desc_read.specs.declared.plan.Plan.{Plan}
use Rattle.guest_gen.specs.Draws.{after, draws}
use Rattle.guest_gen.specs.Guests.{plan_drawn, plan_with, shape_for}
use Rattle.guest_gen.proofs.guest.draw_plan.Goals as goal

pub returns : goal.returns
returns c =
    let s = c.args.draws.now.state in
    let deliveries : c.in_ok-deliveries.deliveries.items ≡ draws 16 64 (after 16 (after 8 s)) =
    c.in_ok-deliveries.ensures.values ∙ ap (λ (t : ℕ). draws 16 64 t) (c.in_ok-turns.ensures.state ∙ ap (λ (t : ℕ). after 16 t) c.in_ok-places.ensures.state) in
    let places : c.as_slice.result.now ≡ draws 8 3 s = c.as_slice.ensures.value ∙ c.in_ok-places.ensures.values in
    let shape : c.in_ok-shape.shape ≡ shape_for (draws 8 3 s) (draws 16 64 (after 16 (after 8 s))) =
    c.in_ok-shape.ensures ∙ (λ i. shape_for (places i) (deliveries i)) in
    let turns : c.in_ok-turns.turns.items ≡ draws 16 64 (after 8 s) = c.in_ok-turns.ensures.values ∙ ap (λ (t : ℕ). draws 16 64 t) c.in_ok-places.ensures.state in
    let plan : plan_with c.args.prefix.now c.in_ok-shape.shape c.in_ok-turns.turns.items ≡ plan_drawn c.args.prefix.now s =
    λ i. plan_with c.args.prefix.now (shape i) (turns i) in
    subst (λ (q : Plan). IfOk c.plan_with.result (λ p. p ≡ q)) plan c.plan_with.ensures
