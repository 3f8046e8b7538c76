use Rattle.std.proofs.Common.{◌≡◌, ◌-◌, ◌∷◌, ◌∙◌, List, ap, arith, get_or, refl}
use Rattle.std.specs.List.{remove}
use Rattle.lego_base.specs.declared.ids.LineNo.{LineNo}
use Rattle.lego_base.specs.declared.ids.Pid.{Pid}
use Rattle.cache_tags.specs.Lists.{coming, held}
use Rattle.cache_tags.specs.Sets.{SetLines}
use Rattle.cache_tags.specs.declared.set.Held.{Held}
use Rattle.cache_tags.proofs.Ways.{TakesOldest, set_in, take-oldest}
use Rattle.cache_tags.proofs.set.Set.next.Goals as goal

pub returns-clause-slot : goal.returns-clause-slot
returns-clause-slot c = λ pid line.
    let h : Held = c.index-oldest.result.now in
    let es : List Held = c.self.inside.entries.items in
    let new : List Held = held pid line h.slot ∷ remove es (c.self.inside.live - 1) in
    let read : h ≡ get_or es (c.self.inside.live - 1) h = c.index-oldest.ensures in
    let took : TakesOldest pid line (set_in c.self.inside.live es) h (set_in c.self.inside.live new) =
    take-oldest pid line es new c.self.inside.live h (omega arith) c.self.invariant.0 c.self.invariant.1 read refl in
    took.slot_is ∙ ap (λ (s : SetLines). (coming pid line s).slot) c.self.view_is

pub returns-clause-leaves : goal.returns-clause-leaves
returns-clause-leaves c = λ pid line.
    let h : Held = c.index-oldest.result.now in
    let es : List Held = c.self.inside.entries.items in
    let new : List Held = held pid line h.slot ∷ remove es (c.self.inside.live - 1) in
    let read : h ≡ get_or es (c.self.inside.live - 1) h = c.index-oldest.ensures in
    let took : TakesOldest pid line (set_in c.self.inside.live es) h (set_in c.self.inside.live new) =
    take-oldest pid line es new c.self.inside.live h (omega arith) c.self.invariant.0 c.self.invariant.1 read refl in
    took.leaves_is ∙ ap (λ (s : SetLines). (coming pid line s).leaves) c.self.view_is
