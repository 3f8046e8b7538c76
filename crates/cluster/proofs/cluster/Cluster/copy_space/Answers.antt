use Rattle.std.proofs.Common.{◌≡◌, ◌∙◌, [], Err, None, Ok, ap, subst, sym}
use Rattle.lego_msg.specs.Track.{memory_count}
use Rattle.placement.specs.Owners.{Owned, inherited}
use Rattle.cluster.specs.Copying.{HasInherited, copies_at}
use Rattle.cluster.specs.Sequences.{CallsEach, served_each}
use Rattle.cluster.specs.Standing.{StandsFor}
use Rattle.cluster.specs.Whole.{SameTurns, Whole, or_out_of_memory}
use Rattle.cluster.proofs.Cloned.{clones_granted, clones_owned, cloning_makes, may_clone}
use Rattle.cluster.proofs.Progress.{starts, then_lacks}
use Rattle.cluster.proofs.Telling.{same_table}
use Rattle.cluster.proofs.cluster.Cluster.copy_space.Goals as goal

pub returns-in-Err-clause-call : goal.returns-in-Err-clause-call
returns-in-Err-clause-call g c =
    let asks = copies_at c.args.self.now c.args.parent c.args.child in
    then_lacks g.W.Watch.told g.W.Watch.faults c.args.self.now.table c.args.watch.now c.args.watch.now c.args.self.now c.args.self.now c.args.by []
    (starts g.W.Watch.told g.W.Watch.faults c.args.watch.now c.args.self.now c.args.by (sym c.halted.ensures ∙ c.in-None.is))
    (inherited c.args.parent c.args.child c.args.self.now.table) c.out_of_memory.new.self asks (λ done. served_each c.args.by asks)
    (ap (λ (w : Whole). w.halt) c.out_of_memory.ensures)

pub returns-in-Err-inherit-clause-call : goal.returns-in-Err-inherit-clause-call
returns-in-Err-inherit-clause-call g c =
    let asks = copies_at c.args.self.now c.args.parent c.args.child in
    then_lacks g.W.Watch.told g.W.Watch.faults c.args.self.now.table c.args.watch.now c.args.watch.now c.args.self.now c.args.self.now c.args.by []
    (starts g.W.Watch.told g.W.Watch.faults c.args.watch.now c.args.self.now c.args.by (sym c.halted.ensures ∙ c.in-None.is))
    (inherited c.args.parent c.args.child c.args.self.now.table) c.out_of_memory-in-Err-inherit.new.self asks (λ done. served_each c.args.by asks)
    (ap (λ (w : Whole). w.halt) c.out_of_memory-in-Err-inherit.ensures ∙ ap (λ (w : Whole). or_out_of_memory w.halt) c.in-Err-inherit.ensures.err)

pub copy_regions-requires-clause-may : goal.copy_regions-requires-clause-may
copy_regions-requires-clause-may g c =
    let none : c.args.self.now.halt ≡ None = sym c.halted.ensures ∙ c.in-None.is in
    let rests = c.requires.rests none in
    record {
      before = c.args.self.now;
      inherits = record { same = c.in-Ok-inherit.ensures.ok; entries = c.as_slice.ensures ∙ c.in-Ok.ensures };
      may = may_clone c.args.self.now rests.0 c.args.by c.args.parent c.args.child (clones_granted c.args.self.now rests.0 c.args.by c.args.parent c.args.child c.requires.issuer c.requires.another (c.requires.bare none) rests.1);
    }

pub returns-in-Err-copy_regions-clause-call : goal.returns-in-Err-copy_regions-clause-call
returns-in-Err-copy_regions-clause-call g c =
    let none : c.args.self.now.halt ≡ None = sym c.halted.ensures ∙ c.in-None.is in
    let rests = c.requires.rests none in
    let asks = copies_at c.args.self.now c.args.parent c.args.child in
    let inherits : HasInherited c.args.self.now c.inherit.new.self c.args.parent c.args.child c.as_slice.result.now = record { same = c.in-Ok-inherit.ensures.ok; entries = c.as_slice.ensures ∙ c.in-Ok.ensures } in
    subst (λ (t : Owned). CallsEach t {X = Unit {0}} g.W.Watch.told g.W.Watch.faults c.args.watch.now c.copy_regions.new.watch c.args.self.now c.copy_regions.new.self c.args.by asks (λ done. served_each c.args.by asks) (Err c.in-Err-copy_regions.halt))
    (ap (λ (w : Whole). w.table) c.in-Ok-inherit.ensures.ok)
    (c.in-Err-copy_regions.ensures c.args.self.now inherits
    (may_clone c.args.self.now rests.0 c.args.by c.args.parent c.args.child (clones_granted c.args.self.now rests.0 c.args.by c.args.parent c.args.child c.requires.issuer c.requires.another (c.requires.bare none) rests.1)))

pub returns-in-Ok-copy_regions-clause-call : goal.returns-in-Ok-copy_regions-clause-call
returns-in-Ok-copy_regions-clause-call g c =
    let none : c.args.self.now.halt ≡ None = sym c.halted.ensures ∙ c.in-None.is in
    let rests = c.requires.rests none in
    let asks = copies_at c.args.self.now c.args.parent c.args.child in
    let inherits : HasInherited c.args.self.now c.inherit.new.self c.args.parent c.args.child c.as_slice.result.now = record { same = c.in-Ok-inherit.ensures.ok; entries = c.as_slice.ensures ∙ c.in-Ok.ensures } in
    subst (λ (t : Owned). CallsEach t {X = Unit {0}} g.W.Watch.told g.W.Watch.faults c.args.watch.now c.copy_regions.new.watch c.args.self.now c.copy_regions.new.self c.args.by asks (λ done. served_each c.args.by asks) (Ok tt))
    (ap (λ (w : Whole). w.table) c.in-Ok-inherit.ensures.ok)
    (c.in-Ok-copy_regions.ensures c.args.self.now inherits
    (may_clone c.args.self.now rests.0 c.args.by c.args.parent c.args.child (clones_granted c.args.self.now rests.0 c.args.by c.args.parent c.args.child c.requires.issuer c.requires.another (c.requires.bare none) rests.1)))

pub returns-in-Ok-copy_regions-clause-stands : goal.returns-in-Ok-copy_regions-clause-stands
returns-in-Ok-copy_regions-clause-stands g c f stands =
    let none : c.args.self.now.halt ≡ None = sym c.halted.ensures ∙ c.in-None.is in
    let granted = clones_granted c.args.self.now f c.args.by c.args.parent c.args.child c.requires.issuer c.requires.another (c.requires.bare none) stands in
    let calls = c.in-Ok-copy_regions.ensures c.args.self.now (record { same = c.in-Ok-inherit.ensures.ok; entries = c.as_slice.ensures ∙ c.in-Ok.ensures }) (may_clone c.args.self.now f c.args.by c.args.parent c.args.child granted) in
    subst (StandsFor c.copy_regions.new.self) (cloning_makes c.args.self.now f c.args.parent c.args.child c.requires.another (c.requires.bare none) stands) (calls.serves.stands f granted)

pub returns-in-Ok-copy_regions-clause-table : goal.returns-in-Ok-copy_regions-clause-table
returns-in-Ok-copy_regions-clause-table g c =
    let none : c.args.self.now.halt ≡ None = sym c.halted.ensures ∙ c.in-None.is in
    let rests = c.requires.rests none in
    let t : Owned = c.args.self.now.table in
    let granted = clones_granted c.args.self.now rests.0 c.args.by c.args.parent c.args.child c.requires.issuer c.requires.another (c.requires.bare none) rests.1 in
    let calls = c.in-Ok-copy_regions.ensures c.args.self.now (record { same = c.in-Ok-inherit.ensures.ok; entries = c.as_slice.ensures ∙ c.in-Ok.ensures }) (may_clone c.args.self.now rests.0 c.args.by c.args.parent c.args.child granted) in
    same_table (inherited c.args.parent c.args.child t) c.copy_regions.new.self.table
    (subst (λ (x : Owned). SameTurns x c.copy_regions.new.self.table) (ap (λ (w : Whole). w.table) c.in-Ok-inherit.ensures.ok) calls.turns)
    (calls.serves.owners ∙ clones_owned (memory_count c.args.self.now.shape) t rests.0 c.args.parent c.args.child rests.1.plain)
