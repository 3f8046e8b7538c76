use Rattle.std.proofs.Common.{[], ◌∷◌, refl}
use Rattle.lego_msg.specs.declared.body.Body.{Body}
use Rattle.cluster.specs.Sequences.{all_free, brought, served_each}
use Rattle.cluster.proofs.Progress.{all_go_on, all_halt, ends_here, first_ends, first_halts, may_after, may_first}
use Rattle.cluster.proofs.cluster.Cluster.bring_all.Goals as goal

pub ask_with-requires : goal.ask_with-requires
ask_with-requires g c none =
    let may = c.requires.may in
    record { new = may.new; before = may.before; brings = may.brings; may = may_first g.W.Watch.told g.W.Watch.faults may.before c.args.by (record { operation = c.args.first; owners = may.new }) (all_free c.args.rest.items) may.may }

pub returns-in-Err : goal.returns-in-Err
returns-in-Err g c new before brings may =
    first_halts g.W.Watch.told g.W.Watch.faults c.args.self.now.table c.args.watch.now c.ask_with.new.watch before c.ask_with.new.self c.args.by (record { operation = c.args.first; owners = new }) (all_free c.args.rest.items)
    (λ (b : Body). b) (λ done. served_each c.args.by (brought new c.args.first c.args.rest.items)) c.in-Err.halt
    (c.in-Err.ensures new before brings (λ none. may_first g.W.Watch.told g.W.Watch.faults before c.args.by (record { operation = c.args.first; owners = new }) (all_free c.args.rest.items) may))

pub ask_all-requires-clause-may : goal.ask_all-requires-clause-may
ask_all-requires-clause-may g c none =
    let may = c.requires.may in
    let so = first_ends g.W.Watch.told g.W.Watch.faults c.args.self.now.table c.args.watch.now c.ask_with.new.watch may.before c.ask_with.new.self c.args.by (record { operation = c.args.first; owners = may.new })
    (λ (b : Body). b) c.in-Ok.field-0 c.requires.line
    (c.in-Ok.ensures may.new may.before may.brings (λ no. may_first g.W.Watch.told g.W.Watch.faults may.before c.args.by (record { operation = c.args.first; owners = may.new }) (all_free c.args.rest.items) may.may)) in
    may_after g.W.Watch.told g.W.Watch.faults c.args.self.now.table c.args.watch.now c.ask_with.new.watch may.before c.ask_with.new.self c.args.by (record { operation = c.args.first; owners = may.new } ∷ []) so (all_free c.args.rest.items) may.may

pub returns-in-Err-ask_all : goal.returns-in-Err-ask_all
returns-in-Err-ask_all g c new before brings may =
    let so = first_ends g.W.Watch.told g.W.Watch.faults c.args.self.now.table c.args.watch.now c.ask_with.new.watch before c.ask_with.new.self c.args.by (record { operation = c.args.first; owners = new })
    (λ (b : Body). b) c.in-Ok.field-0 c.requires.line
    (c.in-Ok.ensures new before brings (λ no. may_first g.W.Watch.told g.W.Watch.faults before c.args.by (record { operation = c.args.first; owners = new }) (all_free c.args.rest.items) may)) in
    all_halt g.W.Watch.told g.W.Watch.faults c.args.self.now.table c.args.watch.now c.ask_with.new.watch before c.ask_with.new.self c.args.by (record { operation = c.args.first; owners = new } ∷ []) so
    c.ask_with.new.self.table c.args.self.now.table c.ask_all.new.watch c.ask_all.new.self (all_free c.args.rest.items) (λ answers. served_each c.args.by (all_free c.args.rest.items)) (λ done. served_each c.args.by (brought new c.args.first c.args.rest.items)) c.in-Err-ask_all.halt c.in-Err-ask_all.ensures.call

pub returns-in-Ok-ask_all : goal.returns-in-Ok-ask_all
returns-in-Ok-ask_all g c new before brings may =
    let so = first_ends g.W.Watch.told g.W.Watch.faults c.args.self.now.table c.args.watch.now c.ask_with.new.watch before c.ask_with.new.self c.args.by (record { operation = c.args.first; owners = new })
    (λ (b : Body). b) c.in-Ok.field-0 c.requires.line
    (c.in-Ok.ensures new before brings (λ no. may_first g.W.Watch.told g.W.Watch.faults before c.args.by (record { operation = c.args.first; owners = new }) (all_free c.args.rest.items) may)) in
    let all = all_go_on g.W.Watch.told g.W.Watch.faults c.args.self.now.table c.args.watch.now c.ask_with.new.watch before c.ask_with.new.self c.args.by (record { operation = c.args.first; owners = new } ∷ []) so
    c.ask_all.new.watch c.ask_all.new.self (all_free c.args.rest.items) c.in-Ok-ask_all.field-0 c.in-Ok-ask_all.ensures.call in
    ends_here g.W.Watch.told g.W.Watch.faults c.args.self.now.table c.args.watch.now c.ask_all.new.watch before c.ask_all.new.self c.args.by (brought new c.args.first c.args.rest.items) all
    (λ done. served_each c.args.by (brought new c.args.first c.args.rest.items)) _ (λ b. refl)
