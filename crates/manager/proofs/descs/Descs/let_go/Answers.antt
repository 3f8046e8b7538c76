use Rattle.std.proofs.Common.{arith, ◌≡◌, ◌+◌, ◌==◌, ◌∙◌, ap, rules, true, is_some, length, slice_index}
use Rattle.kernel_objects.specs.Slots.{held, slot, freed}
use Rattle.manager.proofs.Held.{held_freed, slot_within, slot_is}
use Rattle.manager.proofs.descs.Descs.let_go.Goals as goal

pub overflow_sub-self : goal.overflow_sub-self
overflow_sub-self c =
    let there : is_some (slot c.self.inside.slots.items c.args.desc) ≡ true = search rules in
    let left = held_freed c.self.inside.slots.items c.args.desc there in
    omega (arith, left, c.self.invariant.2)

pub index-description-requires : goal.index-description-requires
index-description-requires c =
    let there : is_some (slot c.self.inside.slots.items c.args.desc) ≡ true = search rules in
    let within = slot_within c.self.inside.slots.items c.args.desc there in
    search (rules, within)

pub index_mut-requires : goal.index_mut-requires
index_mut-requires c =
    let there : is_some (slot c.self.inside.slots.items c.args.desc) ≡ true = search rules in
    let within = slot_within c.self.inside.slots.items c.args.desc there in
    search (rules, within)

pub invariant_of-self-2 : goal.invariant_of-self-2
invariant_of-self-2 c =
    let there : is_some (slot c.self.inside.slots.items c.args.desc) ≡ true = search rules in
    let left : length (held (freed c.self.inside.slots.items c.args.desc)) + 1 ≡ length (held c.self.inside.slots.items) = held_freed c.self.inside.slots.items c.args.desc there in
    ((search rules), c.self.invariant.1, omega (arith, left, c.self.invariant.2))

pub returns-clause-ended : goal.returns-clause-ended
returns-clause-ended c =
    let there : is_some (slot c.self.inside.slots.items c.args.desc) ≡ true = search rules in
    let read = slot_is c.self.inside.slots.items c.args.desc c.index-description.result.now (slot_within c.self.inside.slots.items c.args.desc there) in
    let last : (slice_index c.args.self.now.refs c.args.desc == 1) ≡ true = search rules in
    rw last (c.index-description.ensures ∙ read ∙ ap (λ t. slot t.descs c.args.desc) c.self.view_is)
