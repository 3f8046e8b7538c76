use Rattle.std.proofs.Common.{◌≡◌, ◌∙◌, Err, None, Result, Some, ap, subst, sym}
use Rattle.lego_base.specs.declared.stops.Halt.{Halt}
use Rattle.cluster.specs.Performing.{PerformHalts, Performs, WasPerformed}
use Rattle.cluster.specs.Standing.{MayBring}
use Rattle.cluster.specs.Whole.{SoundCall, Whole}
use Rattle.lego_msg.specs.declared.operation.Open.{Open}
use Rattle.protocol_engine.specs.Later.{called_by}
use Rattle.cluster.proofs.Asking.{halts, no_answer, serves, some_answers, sound}
use Rattle.cluster.proofs.Calling.{error_of, not_kept}
use Rattle.cluster.proofs.cluster.Cluster.ask_with.Goals as goal

pub perform-requires : goal.perform-requires
perform-requires g c = record {
  sound = λ none.
      let may : MayBring c.args.self.now c.args.by c.args.operation = c.requires none in
      subst (λ (w : Whole). SoundCall w c.args.by c.args.operation) (sym may.brings.same)
      (sound may.new may.before c.args.self.now.table may.brings.owned c.args.by c.args.operation may.may);
}

pub returns-in-Err : goal.returns-in-Err
returns-in-Err g c new before brings may =
    let same_halt : before.halt ≡ c.args.self.now.halt = ap (λ (w : Whole). w.halt) (sym brings.same) in
    record {
      serves = tt;
      turns = tt;
      halted = halts new before c.args.self.now.table brings.owned c.args.by c.args.operation g.W.Watch.told g.W.Watch.faults c.args.watch.now c.perform.new.watch c.in-Err.halt
          (λ none. (may none).granted.granted.issuer)
          (subst (λ (w : Whole). PerformHalts g.W.Watch.told g.W.Watch.faults c.args.watch.now c.perform.new.watch w c.args.by c.args.operation c.in-Err.halt) brings.same c.in-Err.ensures.halted);
      kept = λ h is.
          let all = c.in-Err.ensures.kept h (sym same_halt ∙ is) in
          (ap (λ (x : Halt). Err x) (ap (λ (r : Result Open Halt). error_of h r) all.0), all.1, all.2);
      keeps = c.in-Err.ensures.keeps;
      goes = tt;
    }

pub unreachable-requires : goal.unreachable-requires
unreachable-requires g c =
    let may : MayBring c.args.self.now c.args.by c.args.operation = c.requires c.in-Ok.ensures.goes.0 in
    no_answer c.in-Ok.running.answers (sym c.in-None.is ∙ c.into_answer.ensures)
    (some_answers may.new may.before c.args.self.now.table may.brings.owned c.args.by c.args.operation may.may c.in-Ok.running
    (subst (λ (w : Whole). WasPerformed w c.args.by c.args.operation c.in-Ok.running) may.brings.same c.in-Ok.ensures.opened))

pub returns-in-Some : goal.returns-in-Some
returns-in-Some g c new before brings may =
    let none : before.halt ≡ None = ap (λ (w : Whole). w.halt) (sym brings.same) ∙ c.in-Ok.ensures.goes.0 in
    record {
      serves = serves new before c.args.self.now.table brings.owned c.args.by c.args.operation g.W.Watch.told g.W.Watch.faults c.args.watch.now c.perform.new.watch c.perform.new.self c.in-Ok.running c.in-Some.body
          (subst (λ (w : Whole). Performs g.W.Watch.told g.W.Watch.faults c.args.watch.now c.perform.new.watch w c.perform.new.self c.args.by c.args.operation c.in-Ok.running) brings.same c.in-Ok.ensures.went)
          (subst (λ (w : Whole). WasPerformed w c.args.by c.args.operation c.in-Ok.running) brings.same c.in-Ok.ensures.opened)
          (subst (λ (w : Whole). called_by (Some c.in-Ok.running) ≡ Some (record { number = record { 0 = w.next }; by = c.args.by; operation = c.args.operation })) brings.same c.in-Ok.ensures.was)
          (sym c.in-Some.is ∙ c.into_answer.ensures) (may none);
      turns = c.in-Ok.ensures.turns;
      halted = tt;
      kept = λ h is. absurd (not_kept before.halt h none is);
      keeps = tt;
      goes = (none, c.in-Ok.ensures.goes.1);
    }
