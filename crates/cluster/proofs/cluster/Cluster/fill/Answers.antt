use Rattle.std.proofs.Common.{◌≡◌, ◌∙◌, ◌/◌, [], ◌∷◌, List, Some, ap, arith, subst, sym, ℕ}
use Rattle.lego_base.specs.declared.records.Patch.{Patch}
use Rattle.lego_msg.specs.Maps.{owner_of}
use Rattle.lego_msg.specs.Watching.{ShownTo}
use Rattle.lego_msg.specs.declared.body.Body.TheVariants.{Done}
use Rattle.lego_msg.specs.declared.event.Event.TheVariants.{Fill}
use Rattle.lego_msg.specs.declared.operation.Operation.TheVariants.{Writes}
use Rattle.cluster.proofs.Filled.{fill_ends, fill_halts, fill_lacks, fill_stands}
use Rattle.cluster.specs.Calls.{ServeHalts, Serves}
use Rattle.cluster.specs.Filling.{fill_patch, owner_at}
use Rattle.cluster.proofs.cluster.Cluster.fill.Goals as goal
use Rattle.lego_msg.specs.declared.operation.Origin.TheVariants as origin

pub returns-in-Err-clause-halted : goal.returns-in-Err-clause-halted
returns-in-Err-clause-halted g c = fill_lacks g.W.Watch.told g.W.Watch.faults c.args.watch.now c.args.self.now c.args.by c.args.pid c.args.address c.args.bytes.now

pub returns-in-Err-write_fill-clause-halted : goal.returns-in-Err-write_fill-clause-halted
returns-in-Err-write_fill-clause-halted g c =
    let region : c.args.address / 4096 / 512 ≡ c.args.address / 2097152 = omega arith in
    let is : owner_at c.args.self.now c.args.pid c.args.address ≡ Some c.in-Some-owner.owner = ap (owner_of c.args.self.now.table.owners c.args.pid.0) region ∙ sym c.owner.ensures ∙ c.in-Some-owner.is in
    let patch : c.show_fill-patch.result ≡ fill_patch c.args.pid c.args.address c.args.bytes.now = c.show_fill-patch.ensures.patch ∙ ap (fill_patch c.args.pid c.args.address) c.in-Ok.ensures in
    let shown = subst (λ (b : List ℕ). ShownTo g.W.Watch.told g.W.Watch.faults c.args.watch.now c.show_fill-patch.new.watch (Fill c.args.pid c.args.address b ∷ [])) c.in-Ok.ensures c.show_fill-patch.ensures.shown in
    fill_halts g.W.Watch.told g.W.Watch.faults c.args.watch.now c.show_fill-patch.new.watch c.write_fill.new.watch c.args.self.now c.write_fill.new.self c.args.by c.args.pid c.args.address c.args.bytes.now c.in-Some-owner.owner is
    (c.is_calm.ensures (sym c.halted.ensures ∙ c.in-None.is)) shown c.in-Err-write_fill.halt
    (subst (λ (p : Patch). ServeHalts g.W.Watch.told g.W.Watch.faults c.show_fill-patch.new.watch c.write_fill.new.watch c.args.self.now c.args.by (Writes origin.Fill p c.in-Some-owner.owner) c.in-Err-write_fill.halt) patch c.in-Err-write_fill.ensures.call.halted)

pub returns-in-Ok-write_fill-clause-went : goal.returns-in-Ok-write_fill-clause-went
returns-in-Ok-write_fill-clause-went g c =
    let region : c.args.address / 4096 / 512 ≡ c.args.address / 2097152 = omega arith in
    let is : owner_at c.args.self.now c.args.pid c.args.address ≡ Some c.in-Some-owner.owner = ap (owner_of c.args.self.now.table.owners c.args.pid.0) region ∙ sym c.owner.ensures ∙ c.in-Some-owner.is in
    let patch : c.show_fill-patch.result ≡ fill_patch c.args.pid c.args.address c.args.bytes.now = c.show_fill-patch.ensures.patch ∙ ap (fill_patch c.args.pid c.args.address) c.in-Ok.ensures in
    let shown = subst (λ (b : List ℕ). ShownTo g.W.Watch.told g.W.Watch.faults c.args.watch.now c.show_fill-patch.new.watch (Fill c.args.pid c.args.address b ∷ [])) c.in-Ok.ensures c.show_fill-patch.ensures.shown in
    fill_ends g.W.Watch.told g.W.Watch.faults c.args.watch.now c.show_fill-patch.new.watch c.write_fill.new.watch c.args.self.now c.write_fill.new.self c.args.by c.args.pid c.args.address c.args.bytes.now c.in-Some-owner.owner is
    (c.is_calm.ensures (sym c.halted.ensures ∙ c.in-None.is)) shown
    (subst (λ (p : Patch). Serves g.W.Watch.told g.W.Watch.faults c.show_fill-patch.new.watch c.write_fill.new.watch c.args.self.now c.write_fill.new.self c.args.by (Writes origin.Fill p c.in-Some-owner.owner) Done) patch c.in-Ok-write_fill.ensures.call.serves)

pub returns-in-Ok-write_fill-clause-stands : goal.returns-in-Ok-write_fill-clause-stands
returns-in-Ok-write_fill-clause-stands g c =
    let region : c.args.address / 4096 / 512 ≡ c.args.address / 2097152 = omega arith in
    let is : owner_at c.args.self.now c.args.pid c.args.address ≡ Some c.in-Some-owner.owner = ap (owner_of c.args.self.now.table.owners c.args.pid.0) region ∙ sym c.owner.ensures ∙ c.in-Some-owner.is in
    let patch : c.show_fill-patch.result ≡ fill_patch c.args.pid c.args.address c.args.bytes.now = c.show_fill-patch.ensures.patch ∙ ap (fill_patch c.args.pid c.args.address) c.in-Ok.ensures in
    fill_stands g.W.Watch.told g.W.Watch.faults c.args.watch.now c.show_fill-patch.new.watch c.write_fill.new.watch c.args.self.now c.write_fill.new.self c.args.by c.args.pid c.args.address c.args.bytes.now c.in-Some-owner.owner is
    c.requires.issuer
    (subst (λ (p : Patch). Serves g.W.Watch.told g.W.Watch.faults c.show_fill-patch.new.watch c.write_fill.new.watch c.args.self.now c.write_fill.new.self c.args.by (Writes origin.Fill p c.in-Some-owner.owner) Done) patch c.in-Ok-write_fill.ensures.call.serves)
