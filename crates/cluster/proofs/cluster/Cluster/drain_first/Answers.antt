use Rattle.std.proofs.Common.{List, Ok, subst, sym}
use Rattle.cluster.specs.Sequences.{Asking, CallsEach, MayAskEach, served_each}
use Rattle.cluster.proofs.Cloned.{first_some}
use Rattle.cluster.proofs.Telling.{some_is}
use Rattle.cluster.proofs.cluster.Cluster.drain_first.Goals as goal

pub returns-in-Ok-bring_all : goal.returns-in-Ok-bring_all
returns-in-Ok-bring_all g c new before brings same may =
    let list = first_some c.args.memories new c.args.owners.now c.args.rest.items c.drain_of.result _ (some_is c.args.owners.now c.if-is_empty.ensures) c.drain_of.ensures in
    subst (λ (l : List Asking). CallsEach c.args.self.now.table {X = Unit {0}} g.W.Watch.told g.W.Watch.faults c.args.watch.now c.bring_all.new.watch before c.bring_all.new.self c.args.by l (λ done. served_each c.args.by l) (Ok tt)) list
    (c.in-Ok-bring_all.ensures new before brings (subst (MayAskEach before c.args.by) (sym list) may))
