use Rattle.std.proofs.Common.{◌∙◌, [], Err, Ok, ap, subst}
use Rattle.placement.specs.Owners.{Owned}
use Rattle.cluster.specs.Mapping.{table_with, tells_of}
use Rattle.cluster.specs.Sequences.{CallsEach, served_each}
use Rattle.cluster.specs.Whole.{Whole, or_out_of_memory}
use Rattle.cluster.proofs.Progress.{starts, then_lacks}
use Rattle.cluster.proofs.cluster.Cluster.place.Goals as goal

pub returns-in-Err : goal.returns-in-Err
returns-in-Err g c =
    let asks = tells_of c.args.self.now.table c.args.old.now c.args.pid c.args.want.now in
    then_lacks g.W.Watch.told g.W.Watch.faults c.args.self.now.table c.args.watch.now c.args.watch.now c.args.self.now c.args.self.now c.args.by []
    (starts g.W.Watch.told g.W.Watch.faults c.args.watch.now c.args.self.now c.args.by c.requires.none)
    (table_with c.args.self.now.table c.args.pid c.args.want.now) c.out_of_memory.new.self asks (λ done. served_each c.args.by asks)
    (ap (λ (w : Whole). w.halt) c.out_of_memory.ensures ∙ ap (λ (w : Whole). or_out_of_memory w.halt) c.in-Err.ensures.err)

pub tell-requires-clause-none : goal.tell-requires-clause-none
tell-requires-clause-none g c = ap (λ (w : Whole). w.halt) c.in-Ok.ensures.ok ∙ c.requires.none

pub tell-requires-clause-may : goal.tell-requires-clause-may
tell-requires-clause-may g c = record {
  before = c.args.self.now;
  placed = record { same = c.in-Ok.ensures.ok; entries = c.as_slice.ensures ∙ c.in-Ok.ensures.new };
  may = c.requires.may;
}

pub returns-in-Err-tell : goal.returns-in-Err-tell
returns-in-Err-tell g c =
    let asks = tells_of c.args.self.now.table c.args.old.now c.args.pid c.args.want.now in
    subst (λ (t : Owned). CallsEach t {X = Unit {0}} g.W.Watch.told g.W.Watch.faults c.args.watch.now c.tell.new.watch c.args.self.now c.tell.new.self c.args.by asks (λ done. served_each c.args.by asks) (Err c.in-Err-tell.halt))
    (ap (λ (w : Whole). w.table) c.in-Ok.ensures.ok)
    (c.in-Err-tell.ensures c.args.self.now (record { same = c.in-Ok.ensures.ok; entries = c.as_slice.ensures ∙ c.in-Ok.ensures.new }) c.requires.may)

pub returns-in-Ok-tell : goal.returns-in-Ok-tell
returns-in-Ok-tell g c =
    let asks = tells_of c.args.self.now.table c.args.old.now c.args.pid c.args.want.now in
    subst (λ (t : Owned). CallsEach t {X = Unit {0}} g.W.Watch.told g.W.Watch.faults c.args.watch.now c.tell.new.watch c.args.self.now c.tell.new.self c.args.by asks (λ done. served_each c.args.by asks) (Ok tt))
    (ap (λ (w : Whole). w.table) c.in-Ok.ensures.ok)
    (c.in-Ok-tell.ensures c.args.self.now (record { same = c.in-Ok.ensures.ok; entries = c.as_slice.ensures ∙ c.in-Ok.ensures.new }) c.requires.may)
