use Rattle.std.proofs.Common.{◌≡◌, ◌∙◌, [], ◌∷◌, Err, Ok, ap}
use Rattle.linux_model.specs.Effects.{Unlinks}
use Rattle.ex_memory.proofs.Ending.{filed_as, filed_order, lacks_does}
use Rattle.ex_memory.proofs.Filing.{unlink_filed}
use Rattle.ex_memory.proofs.memory.ExMemory.unlink.Goals as goal

pub returns-in-Err : goal.returns-in-Err
returns-in-Err g c = record { does = lacks_does g.W.Watch.told g.W.Watch.faults _ _ _ (Unlinks c.args.name.now ∷ []) c.in-Err.halt c.in-Err.ensures.err }

pub returns-in-Err-unlink_name : goal.returns-in-Err-unlink_name
returns-in-Err-unlink_name g c = record { does = filed_as g.W.Watch.told g.W.Watch.faults _ _ _ _ _ _ _ (Err c.in-Err-unlink_name.halt) (c.self.view_is ∙ c.in-Ok.ensures.same) (ap Unlinks c.in-Ok.ensures.copy) (unlink_filed g.W.Watch.told g.W.Watch.faults _ _ _ _ c.self.invariant c.in-Ok.name (Err c.in-Err-unlink_name.halt) c.in-Err-unlink_name.ensures.call) }

pub invariant_of-self-in-Ok-unlink_name : goal.invariant_of-self-in-Ok-unlink_name
invariant_of-self-in-Ok-unlink_name g c = filed_order g.W.Watch.told g.W.Watch.faults _ _ _ _ (Unlinks c.in-Ok.name) (Ok tt) c.self.invariant (unlink_filed g.W.Watch.told g.W.Watch.faults _ _ _ _ c.self.invariant c.in-Ok.name (Ok tt) c.in-Ok-unlink_name.ensures.call)

pub returns-in-Ok-unlink_name : goal.returns-in-Ok-unlink_name
returns-in-Ok-unlink_name g c = record { does = filed_as g.W.Watch.told g.W.Watch.faults _ _ _ _ _ _ _ (Ok tt) (c.self.view_is ∙ c.in-Ok.ensures.same) (ap Unlinks c.in-Ok.ensures.copy) (unlink_filed g.W.Watch.told g.W.Watch.faults _ _ _ _ c.self.invariant c.in-Ok.name (Ok tt) c.in-Ok-unlink_name.ensures.call) }
