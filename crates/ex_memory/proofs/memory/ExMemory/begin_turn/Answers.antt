use Rattle.std.proofs.Common.{◌≡◌, [], ◌∷◌, Err, Ok}
use Rattle.linux_model.specs.Effects.{Begins}
use Rattle.ex_memory.proofs.Doing.{does_at}
use Rattle.ex_memory.proofs.Turning.{began, began_not, issues, turned_order}
use Rattle.ex_memory.proofs.memory.ExMemory.begin_turn.Goals as goal

pub returns-in-Err : goal.returns-in-Err
returns-in-Err g c = record {
  does = does_at g.W.Watch.told g.W.Watch.faults _ _ _ _ _ (Begins c.args.number c.args.pid.0 ∷ []) (Err c.in-Err.halt) c.self.view_is
      (began_not g.W.Watch.told g.W.Watch.faults _ _ _ _ c.args.number c.args.pid c.in-Err.halt c.in-Err.ensures.halted c.in-Err.ensures.keeps c.in-Err.ensures.kept);
}

pub invariant_of-self-in-Ok : goal.invariant_of-self-in-Ok
invariant_of-self-in-Ok g c = turned_order _ _ c.self.inside.by c.self.invariant.issuer c.self.invariant c.in-Ok.ensures.stands c.in-Ok.ensures.shape c.in-Ok.ensures.table c.in-Ok.ensures.goes.0

pub invariant_of-self-in-Ok-2 : goal.invariant_of-self-in-Ok-2
invariant_of-self-in-Ok-2 g c = turned_order _ _ c.issuer-self-inside.result (issues c.args.number c.processor.result c.issuer-self-inside.result c.issuer-self-inside.ensures) c.self.invariant c.in-Ok.ensures.stands c.in-Ok.ensures.shape c.in-Ok.ensures.table c.in-Ok.ensures.goes.0

pub returns-in-Ok : goal.returns-in-Ok
returns-in-Ok g c = record {
  does = does_at g.W.Watch.told g.W.Watch.faults _ _ _ _ _ (Begins c.args.number c.args.pid.0 ∷ []) (Ok tt) c.self.view_is
      (began g.W.Watch.told g.W.Watch.faults _ _ _ _ c.args.number c.args.pid c.processor.result c.issuer-self-inside.result c.self.invariant c.in-Ok.ensures.stands c.in-Ok.ensures.shape c.in-Ok.ensures.table c.in-Ok.ensures.went c.in-Ok.ensures.goes c.issuer-self-inside.ensures (c.processor.ensures c.in-Ok.ensures.goes.1));
}
