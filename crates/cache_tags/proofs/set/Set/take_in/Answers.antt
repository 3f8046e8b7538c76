use Rattle.std.proofs.Common.{◌∷◌, ◌∙◌, List, ap, arith, subst}
use Rattle.cache_tags.specs.Lists.{held}
use Rattle.cache_tags.specs.Sets.{SetLines}
use Rattle.cache_tags.specs.declared.set.Held.{Held}
use Rattle.cache_tags.proofs.Ways.{TakesOldest, set_in, take-oldest}
use Rattle.cache_tags.proofs.set.Set.take_in.Goals as goal

pub returns-clause-slot : goal.returns-clause-slot
returns-clause-slot c =
    let took : TakesOldest c.args.pid c.args.line c.args.self.now c.remove-oldest.result (set_in c.self.inside.live c.insert_within-2.new.entries.items) =
    subst (λ (s : SetLines). TakesOldest c.args.pid c.args.line s c.remove-oldest.result (set_in c.self.inside.live c.insert_within-2.new.entries.items)) c.self.view_is
    (take-oldest c.args.pid c.args.line c.self.inside.entries.items c.insert_within-2.new.entries.items c.self.inside.live c.remove-oldest.result (omega arith) c.self.invariant.0 c.self.invariant.1 c.remove-oldest.ensures.value
    (c.insert_within-2.ensures ∙ ap (λ (es : List Held). held c.args.pid c.args.line c.remove-oldest.result.slot ∷ es) c.remove-oldest.ensures.items)) in
    took.slot_is

pub returns-clause-leaves : goal.returns-clause-leaves
returns-clause-leaves c =
    let took : TakesOldest c.args.pid c.args.line c.args.self.now c.remove-oldest.result (set_in c.self.inside.live c.insert_within-2.new.entries.items) =
    subst (λ (s : SetLines). TakesOldest c.args.pid c.args.line s c.remove-oldest.result (set_in c.self.inside.live c.insert_within-2.new.entries.items)) c.self.view_is
    (take-oldest c.args.pid c.args.line c.self.inside.entries.items c.insert_within-2.new.entries.items c.self.inside.live c.remove-oldest.result (omega arith) c.self.invariant.0 c.self.invariant.1 c.remove-oldest.ensures.value
    (c.insert_within-2.ensures ∙ ap (λ (es : List Held). held c.args.pid c.args.line c.remove-oldest.result.slot ∷ es) c.remove-oldest.ensures.items)) in
    took.leaves_is

pub returns-clause-set : goal.returns-clause-set
returns-clause-set c =
    let took : TakesOldest c.args.pid c.args.line c.args.self.now c.remove-oldest.result (set_in c.self.inside.live c.insert_within-2.new.entries.items) =
    subst (λ (s : SetLines). TakesOldest c.args.pid c.args.line s c.remove-oldest.result (set_in c.self.inside.live c.insert_within-2.new.entries.items)) c.self.view_is
    (take-oldest c.args.pid c.args.line c.self.inside.entries.items c.insert_within-2.new.entries.items c.self.inside.live c.remove-oldest.result (omega arith) c.self.invariant.0 c.self.invariant.1 c.remove-oldest.ensures.value
    (c.insert_within-2.ensures ∙ ap (λ (es : List Held). held c.args.pid c.args.line c.remove-oldest.result.slot ∷ es) c.remove-oldest.ensures.items)) in
    took.set_is
