use Rattle.std.proofs.Common.{Err, Ok}
use Rattle.ex_memory.proofs.Turning.{ended, ended_at, ended_not, turned_order}
use Rattle.ex_memory.proofs.memory.ExMemory.end_turn.Goals as goal

pub returns-in-Err-clause-ends : goal.returns-in-Err-clause-ends
returns-in-Err-clause-ends g c = ended_at g.W.Watch.told g.W.Watch.faults _ _ _ _ _ (Err c.in-Err.halt) c.self.view_is
    (ended_not g.W.Watch.told g.W.Watch.faults _ _ _ _ c.in-Err.halt c.in-Err.ensures.halted c.in-Err.ensures.keeps c.in-Err.ensures.kept)

pub invariant_of-self-in-Ok : goal.invariant_of-self-in-Ok
invariant_of-self-in-Ok g c = turned_order _ _ c.self.inside.by c.self.invariant.issuer c.self.invariant c.in-Ok.ensures.stands c.in-Ok.ensures.shape c.in-Ok.ensures.table c.in-Ok.ensures.goes.0

pub returns-in-Ok-clause-ends : goal.returns-in-Ok-clause-ends
returns-in-Ok-clause-ends g c = ended_at g.W.Watch.told g.W.Watch.faults _ _ _ _ _ (Ok tt) c.self.view_is
    (ended g.W.Watch.told g.W.Watch.faults _ _ _ _ c.self.invariant c.in-Ok.ensures.stands c.in-Ok.ensures.shape c.in-Ok.ensures.table c.in-Ok.ensures.went c.in-Ok.ensures.goes)
