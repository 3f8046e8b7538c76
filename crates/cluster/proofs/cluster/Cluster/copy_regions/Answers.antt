use Rattle.std.proofs.Common.{◌≡◌, ◌<◌, ◌∙◌, [], ℕ, Err, List, None, Ok, ap, map, drop, subst, sym}
use Rattle.placement.specs.Owners.{for_child, handed_on}
use Rattle.cluster.specs.Copying.{copies_at}
use Rattle.cluster.specs.Sequences.{Asking, CallsEach, MayAskEach, ReadNoLine, served_each}
use Rattle.cluster.specs.Whole.{Whole, or_out_of_memory}
use Rattle.cluster.proofs.Cloned.{after_lines, inherited_brings, may_drain, played, same_where_none, some_memories}
use Rattle.cluster.proofs.Progress.{starts, then_lacks}
use Rattle.cluster.proofs.cluster.Cluster.copy_regions.Goals as goal

pub returns-in-Err : goal.returns-in-Err
returns-in-Err g c before inherits may =
    let asks = copies_at before c.args.parent c.args.child in
    let none : before.halt ≡ None = ap (λ (w : Whole). w.halt) (sym inherits.same) ∙ c.requires.none in
    then_lacks g.W.Watch.told g.W.Watch.faults before.table c.args.watch.now c.args.watch.now before before c.args.by []
    (starts g.W.Watch.told g.W.Watch.faults c.args.watch.now before c.args.by none)
    c.args.self.now.table c.out_of_memory.new.self asks (λ done. served_each c.args.by asks)
    (ap (λ (w : Whole). w.halt) c.out_of_memory.ensures ∙ ap (λ (w : Whole). or_out_of_memory w.halt) inherits.same)

pub after_drain-requires : goal.after_drain-requires
after_drain-requires g c =
    let may = c.requires.may in
    subst (λ (n : ℕ). 0 < n) (sym (c.memories-memories.ensures c.requires.none)) (some_memories may.before c.args.self.now c.args.by c.args.parent c.args.child c.args.entries.now may.inherits may.may)

pub returns-in-Err-after_drain : goal.returns-in-Err-after_drain
returns-in-Err-after_drain g c before inherits may =
    let asks = copies_at before c.args.parent c.args.child in
    let none : before.halt ≡ None = ap (λ (w : Whole). w.halt) (sym inherits.same) ∙ c.requires.none in
    then_lacks g.W.Watch.told g.W.Watch.faults before.table c.args.watch.now c.args.watch.now before before c.args.by []
    (starts g.W.Watch.told g.W.Watch.faults c.args.watch.now before c.args.by none)
    c.args.self.now.table c.out_of_memory-in-Err-after_drain.new.self asks (λ done. served_each c.args.by asks)
    (ap (λ (w : Whole). w.halt) c.out_of_memory-in-Err-after_drain.ensures ∙ ap (λ (w : Whole). or_out_of_memory w.halt) inherits.same)

pub drain_first-requires-clause-some : goal.drain_first-requires-clause-some
drain_first-requires-clause-some g c =
    let may = c.requires.may in
    subst (λ (n : ℕ). 0 < n) (sym (c.memories-memories.ensures c.requires.none)) (some_memories may.before c.args.self.now c.args.by c.args.parent c.args.child c.args.entries.now may.inherits may.may)

pub drain_first-requires-clause-may : goal.drain_first-requires-clause-may
drain_first-requires-clause-may g c =
    let may = c.requires.may in
    may_drain may.before c.args.self.now c.args.by c.args.parent c.args.child c.args.entries.now may.inherits c.memories-memories.result c.as_slice-whose.result.now c.in-Ok-after_drain.rest.items
    (c.memories-memories.ensures c.requires.none) (c.as_slice-whose.ensures ∙ c.in-Ok.ensures) c.in-Ok-after_drain.ensures may.may

pub drain_first-requires-clause-lines : goal.drain_first-requires-clause-lines
drain_first-requires-clause-lines g c = subst ReadNoLine (sym c.in-Ok-after_drain.ensures) (after_lines c.memories-memories.result (drop 1 c.as_slice-whose.result.now) (map (for_child c.args.child) c.args.entries.now) c.args.parent c.args.child c.args.entries.now c.as_slice-whose.result.now)

pub returns-in-Err-drain_first : goal.returns-in-Err-drain_first
returns-in-Err-drain_first g c before inherits may =
    let new = handed_on c.args.parent c.args.child before.table.owners in
    let list = played before c.args.self.now c.args.by c.args.parent c.args.child c.args.entries.now inherits c.memories-memories.result c.as_slice-whose.result.now c.in-Ok-after_drain.rest.items
    (c.memories-memories.ensures c.requires.none) (c.as_slice-whose.ensures ∙ c.in-Ok.ensures) c.in-Ok-after_drain.ensures in
    subst (λ (l : List Asking). CallsEach c.args.self.now.table {X = Unit {0}} g.W.Watch.told g.W.Watch.faults c.args.watch.now c.drain_first.new.watch before c.drain_first.new.self c.args.by l (λ done. served_each c.args.by l) (Err c.in-Err-drain_first.halt)) list
    (c.in-Err-drain_first.ensures new before (inherited_brings before c.args.self.now c.args.parent c.args.child c.args.entries.now inherits)
    (same_where_none before c.args.self.now c.args.by c.args.parent c.args.child c.args.entries.now inherits c.memories-memories.result c.as_slice-whose.result.now c.in-Ok-after_drain.rest.items (c.memories-memories.ensures c.requires.none) (c.as_slice-whose.ensures ∙ c.in-Ok.ensures) c.in-Ok-after_drain.ensures may)
    (subst (MayAskEach before c.args.by) (sym list) may))

pub returns-in-Ok-drain_first : goal.returns-in-Ok-drain_first
returns-in-Ok-drain_first g c before inherits may =
    let new = handed_on c.args.parent c.args.child before.table.owners in
    let list = played before c.args.self.now c.args.by c.args.parent c.args.child c.args.entries.now inherits c.memories-memories.result c.as_slice-whose.result.now c.in-Ok-after_drain.rest.items
    (c.memories-memories.ensures c.requires.none) (c.as_slice-whose.ensures ∙ c.in-Ok.ensures) c.in-Ok-after_drain.ensures in
    subst (λ (l : List Asking). CallsEach c.args.self.now.table {X = Unit {0}} g.W.Watch.told g.W.Watch.faults c.args.watch.now c.drain_first.new.watch before c.drain_first.new.self c.args.by l (λ done. served_each c.args.by l) (Ok tt)) list
    (c.in-Ok-drain_first.ensures new before (inherited_brings before c.args.self.now c.args.parent c.args.child c.args.entries.now inherits)
    (same_where_none before c.args.self.now c.args.by c.args.parent c.args.child c.args.entries.now inherits c.memories-memories.result c.as_slice-whose.result.now c.in-Ok-after_drain.rest.items (c.memories-memories.ensures c.requires.none) (c.as_slice-whose.ensures ∙ c.in-Ok.ensures) c.in-Ok-after_drain.ensures may)
    (subst (MayAskEach before c.args.by) (sym list) may))
