use Rattle.std.proofs.Common.{◌≡◌, ◌∙◌, [], Err, List, None, Ok, ap, refl, subst, sym}
use Rattle.cluster.specs.Mapping.{entries_in, tells_of}
use Rattle.cluster.specs.Sequences.{Asking, CallsEach, MayAskEach, ReadNoLine, all_free, served_each}
use Rattle.cluster.specs.Whole.{Whole, or_out_of_memory}
use Rattle.cluster.proofs.Progress.{hands_end, hands_halt, starts, then_lacks}
use Rattle.cluster.proofs.Telling.{changes_lines, empty_is, none_tells, placed_brings, placed_none, some_is, some_tells}
use Rattle.cluster.proofs.cluster.Cluster.tell.Goals as goal

pub returns-in-Err : goal.returns-in-Err
returns-in-Err g c before placed may =
    let asks = tells_of before.table c.args.old.now c.args.pid c.args.want.now in
    let none : before.halt ≡ None = ap (λ (w : Whole). w.halt) (sym placed.same) ∙ c.requires.none in
    then_lacks g.W.Watch.told g.W.Watch.faults before.table c.args.watch.now c.args.watch.now before before c.args.by []
    (starts g.W.Watch.told g.W.Watch.faults c.args.watch.now before c.args.by none)
    c.args.self.now.table c.out_of_memory.new.self asks (λ done. served_each c.args.by asks)
    (ap (λ (w : Whole). w.halt) c.out_of_memory.ensures ∙ ap (λ (w : Whole). or_out_of_memory w.halt) placed.same)

pub ask_all-requires-clause-may : goal.ask_all-requires-clause-may
ask_all-requires-clause-may g c unhalted =
    let may = c.requires.may in
    let none = empty_is c.args.new.now c.if-is_empty.ensures in
    let here : may.before ≡ c.args.self.now = sym (placed_none may.before c.args.self.now c.args.pid c.args.want.now c.args.new.now may.placed none) in
    let list = sym (none_tells may.before c.args.self.now c.args.pid c.args.want.now c.args.new.now c.args.old.now may.placed c.in-Ok.rest.items c.in-Ok.ensures none) in
    subst (λ (p : Whole × List Asking). MayAskEach p.0 c.args.by p.1) (λ i. (here i, list i)) may.may

pub ask_all-requires-clause-lines : goal.ask_all-requires-clause-lines
ask_all-requires-clause-lines g c = subst ReadNoLine (sym c.in-Ok.ensures) (changes_lines c.args.new.now c.args.old.now c.args.want.now (entries_in c.args.pid c.args.self.now.table))

pub returns-in-Err-ask_all : goal.returns-in-Err-ask_all
returns-in-Err-ask_all g c before placed may =
    let none = empty_is c.args.new.now c.if-is_empty.ensures in
    let here : c.args.self.now ≡ before = placed_none before c.args.self.now c.args.pid c.args.want.now c.args.new.now placed none in
    let list : all_free c.in-Ok.rest.items ≡ tells_of before.table c.args.old.now c.args.pid c.args.want.now = none_tells before c.args.self.now c.args.pid c.args.want.now c.args.new.now c.args.old.now placed c.in-Ok.rest.items c.in-Ok.ensures none in
    subst (λ (p : Whole × List Asking). CallsEach c.args.self.now.table {X = Unit {0}} g.W.Watch.told g.W.Watch.faults c.args.watch.now c.ask_all.new.watch p.0 c.ask_all.new.self c.args.by p.1 (λ done. served_each c.args.by p.1) (Err c.in-Err-ask_all.halt)) (λ i. (here i, list i))
    (hands_halt g.W.Watch.told g.W.Watch.faults c.args.self.now.table c.args.self.now.table c.args.watch.now c.ask_all.new.watch c.args.self.now c.ask_all.new.self c.args.by (all_free c.in-Ok.rest.items)
    (λ answers. served_each c.args.by (all_free c.in-Ok.rest.items)) (λ done. served_each c.args.by (all_free c.in-Ok.rest.items)) c.in-Err-ask_all.halt c.in-Err-ask_all.ensures.call)

pub returns-in-Ok-ask_all : goal.returns-in-Ok-ask_all
returns-in-Ok-ask_all g c before placed may =
    let none = empty_is c.args.new.now c.if-is_empty.ensures in
    let here : c.args.self.now ≡ before = placed_none before c.args.self.now c.args.pid c.args.want.now c.args.new.now placed none in
    let list : all_free c.in-Ok.rest.items ≡ tells_of before.table c.args.old.now c.args.pid c.args.want.now = none_tells before c.args.self.now c.args.pid c.args.want.now c.args.new.now c.args.old.now placed c.in-Ok.rest.items c.in-Ok.ensures none in
    subst (λ (p : Whole × List Asking). CallsEach c.args.self.now.table {X = Unit {0}} g.W.Watch.told g.W.Watch.faults c.args.watch.now c.ask_all.new.watch p.0 c.ask_all.new.self c.args.by p.1 (λ done. served_each c.args.by p.1) (Ok tt)) (λ i. (here i, list i))
    (hands_end g.W.Watch.told g.W.Watch.faults c.args.self.now.table c.args.watch.now c.ask_all.new.watch c.args.self.now c.ask_all.new.self c.args.by (all_free c.in-Ok.rest.items)
    (λ answers. served_each c.args.by (all_free c.in-Ok.rest.items)) (λ done. served_each c.args.by (all_free c.in-Ok.rest.items)) c.in-Ok-ask_all.field-0 tt (λ b. refl) c.in-Ok-ask_all.ensures.call)

pub bring_all-requires-clause-may : goal.bring_all-requires-clause-may
bring_all-requires-clause-may g c =
    let may = c.requires.may in
    record {
      new = c.args.new.now;
      before = may.before;
      brings = placed_brings may.before c.args.self.now c.args.pid c.args.want.now c.args.new.now may.placed;
      may = subst (MayAskEach may.before c.args.by) (sym (some_tells may.before c.args.self.now c.args.pid c.args.want.now c.args.new.now c.args.old.now may.placed c.in-Ok.rest.items c.in-Ok.ensures c.home_of.result _ (some_is c.args.new.now c.if-is_empty.ensures) c.home_of.ensures)) may.may;
    }

pub bring_all-requires-clause-lines : goal.bring_all-requires-clause-lines
bring_all-requires-clause-lines g c = subst ReadNoLine (sym c.in-Ok.ensures) (changes_lines c.args.new.now c.args.old.now c.args.want.now (entries_in c.args.pid c.args.self.now.table))

pub returns-in-Err-bring_all : goal.returns-in-Err-bring_all
returns-in-Err-bring_all g c before placed may =
    let list = some_tells before c.args.self.now c.args.pid c.args.want.now c.args.new.now c.args.old.now placed c.in-Ok.rest.items c.in-Ok.ensures c.home_of.result _ (some_is c.args.new.now c.if-is_empty.ensures) c.home_of.ensures in
    subst (λ (l : List Asking). CallsEach c.args.self.now.table {X = Unit {0}} g.W.Watch.told g.W.Watch.faults c.args.watch.now c.bring_all.new.watch before c.bring_all.new.self c.args.by l (λ done. served_each c.args.by l) (Err c.in-Err-bring_all.halt)) list
    (c.in-Err-bring_all.ensures c.args.new.now before (placed_brings before c.args.self.now c.args.pid c.args.want.now c.args.new.now placed) (subst (MayAskEach before c.args.by) (sym list) may))

pub returns-in-Ok-bring_all : goal.returns-in-Ok-bring_all
returns-in-Ok-bring_all g c before placed may =
    let list = some_tells before c.args.self.now c.args.pid c.args.want.now c.args.new.now c.args.old.now placed c.in-Ok.rest.items c.in-Ok.ensures c.home_of.result _ (some_is c.args.new.now c.if-is_empty.ensures) c.home_of.ensures in
    subst (λ (l : List Asking). CallsEach c.args.self.now.table {X = Unit {0}} g.W.Watch.told g.W.Watch.faults c.args.watch.now c.bring_all.new.watch before c.bring_all.new.self c.args.by l (λ done. served_each c.args.by l) (Ok tt)) list
    (c.in-Ok-bring_all.ensures c.args.new.now before (placed_brings before c.args.self.now c.args.pid c.args.want.now c.args.new.now placed) (subst (MayAskEach before c.args.by) (sym list) may))
