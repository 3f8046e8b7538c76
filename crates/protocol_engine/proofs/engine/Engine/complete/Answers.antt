use Rattle.std.proofs.Common.{◌≡◌, ◌∙◌, [], ◌∷◌, Option, Some, ap, refl, rules, subst, true}
use Rattle.lego_base.specs.declared.ids.OpNo.{OpNo}
use Rattle.lego_msg.specs.Completions.{owners_after}
use Rattle.lego_msg.specs.Track.{healing_move, is_done}
use Rattle.lego_msg.specs.Watching.{ShownTo}
use Rattle.lego_msg.specs.declared.event.Event.TheVariants.{Complete}
use Rattle.lego_msg.specs.declared.operation.Open.{Open}
use Rattle.lego_msg.specs.declared.operation.Operation.{Operation}
use Rattle.placement.specs.Owners.{Owned}
use Rattle.healing_laws.specs.Playing.{OtherNumber}
use Rattle.protocol_engine.specs.Tracks.{track_of}
use Rattle.protocol_engine.proofs.Coming.{done_came}
use Rattle.protocol_engine.proofs.engine.Engine.complete.Goals as goal

pub returns-clause-came : goal.returns-clause-came
returns-clause-came g c =
    let is : c.args.self.now.current ≡ Some c.in-Some.running = search rules in
    λ b. done_came g.W.Watch.told g.W.Watch.faults _ _ (track_of c.args.self.now b) c.in-Some.running c.end_owners.new.table.owners c.take.new.self c.take.ensures.after
    (subst (λ (n : OpNo). ShownTo g.W.Watch.told g.W.Watch.faults c.args.watch.now c.show.new.watch (Complete n ∷ [])) c.number.ensures c.show.ensures)
    c.requires.owed refl is c.requires.other
    (subst (λ (o : Option Open). is_done c.args.self.now.net o ≡ true) is c.requires.done)
    (subst (λ (o : Option Open). OtherNumber o (healing_move c.args.self.now.healing)) is c.requires.numbers)
    (ap (λ (o : Owned). o.owners) c.end_owners.ensures ∙ ap (λ (p : Operation). owners_after p c.args.self.now.table.owners) c.operation.ensures)
