use Rattle.std.proofs.Common.{◌≡◌, ◌∙◌, sym, ap, rules, true, is_some, Option, Some, None, refl}
use Rattle.kernel_objects.specs.declared.descriptor.Description.{Description}
use Rattle.kernel_objects.specs.Slots.{slot}
use Rattle.linux_model.specs.Effects.{sought}
use Rattle.manager.proofs.Held.{held_same, slot_within, slot_is}
use Rattle.manager.proofs.descs.Descs.seek.Goals as goal

still : (offset : _) (d : Option Description) → is_some (sought offset d) ≡ is_some d
still offset None = refl
still offset (Some d) = refl

pub invariant_of-self : goal.invariant_of-self
invariant_of-self c =
    let items = c.self.inside.slots.items in
    let there : is_some (slot items c.args.desc) ≡ true = search rules in
    let read = slot_is items c.args.desc c.index.result.now (slot_within items c.args.desc there) in
    let at : c.index.result.now ≡ slot items c.args.desc = c.index.ensures ∙ read in
    let same = held_same items c.args.desc c.sought-sought.result (ap (λ d. is_some d) c.sought-sought.ensures ∙ still c.args.offset c.index.result.now ∙ ap (λ d. is_some d) at) in
    ((search rules), c.self.invariant.1, c.self.invariant.2 ∙ sym same)

pub returns-clause-descs : goal.returns-clause-descs
returns-clause-descs c =
    let items = c.self.inside.slots.items in
    let there : is_some (slot items c.args.desc) ≡ true = search rules in
    let read = slot_is items c.args.desc c.index.result.now (slot_within items c.args.desc there) in
    let at : c.index.result.now ≡ slot items c.args.desc = c.index.ensures ∙ read in
    let to : c.sought-sought.result ≡ sought c.args.offset (slot items c.args.desc) = c.sought-sought.ensures ∙ ap (sought c.args.offset) at in
    search (rules, to)
