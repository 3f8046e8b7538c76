use Rattle.std.proofs.Common.{arith, ◌≡◌, ◌+◌, ◌∙◌, ap, length}
use Rattle.kernel_objects.specs.Slots.{held}
use Rattle.manager.proofs.Held.{held_next}
use Rattle.manager.proofs.descs.Descs.add.Goals as goal

pub invariant_of-self : goal.invariant_of-self
invariant_of-self c =
    let more : length (held c.put_next-desc.new.slots.items) ≡ length (held c.self.inside.slots.items) + 1 =
    ap (λ s. length (held s)) c.put_next-desc.ensures.items ∙ held_next c.args.description c.self.inside.slots.items in
    (c.put_next-desc.ensures.length, c.put_next-desc.ensures.capacity, omega (arith, more, c.self.invariant.2))
