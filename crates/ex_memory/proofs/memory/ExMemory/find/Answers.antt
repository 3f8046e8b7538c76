use Rattle.std.proofs.Common.{◌≡◌, ◌∙◌, [], ◌∷◌, Err, Ok, ap}
use Rattle.linux_model.specs.Effects.{LooksUp}
use Rattle.lego_base.specs.Files.{named}
use Rattle.ex_memory.specs.Split.{Split}
use Rattle.ex_memory.proofs.Ending.{filed_as, filed_order, lacks_does}
use Rattle.ex_memory.proofs.Filing.{find_filed}
use Rattle.ex_memory.proofs.memory.ExMemory.find.Goals as goal

pub returns-in-Err-clause-does : goal.returns-in-Err-clause-does
returns-in-Err-clause-does g c = lacks_does g.W.Watch.told g.W.Watch.faults _ _ _ (LooksUp c.args.name.now ∷ []) c.in-Err.halt c.in-Err.ensures.err

pub returns-in-Err-find_name-clause-does : goal.returns-in-Err-find_name-clause-does
returns-in-Err-find_name-clause-does g c = filed_as g.W.Watch.told g.W.Watch.faults _ _ _ _ _ _ _ (Err c.in-Err-find_name.halt) (c.self.view_is ∙ c.in-Ok.ensures.same) (ap LooksUp c.in-Ok.ensures.copy) (find_filed g.W.Watch.told g.W.Watch.faults _ _ _ _ c.self.invariant c.in-Ok.name (Err c.in-Err-find_name.halt) c.in-Err-find_name.ensures.call)

pub invariant_of-self-in-Ok-find_name : goal.invariant_of-self-in-Ok-find_name
invariant_of-self-in-Ok-find_name g c = filed_order g.W.Watch.told g.W.Watch.faults _ _ _ _ (LooksUp c.in-Ok.name) (Ok c.in-Ok-find_name.file) c.self.invariant (find_filed g.W.Watch.told g.W.Watch.faults _ _ _ _ c.self.invariant c.in-Ok.name (Ok c.in-Ok-find_name.file) c.in-Ok-find_name.ensures.call)

pub returns-in-Ok-find_name-clause-does : goal.returns-in-Ok-find_name-clause-does
returns-in-Ok-find_name-clause-does g c = filed_as g.W.Watch.told g.W.Watch.faults _ _ _ _ _ _ _ (Ok c.in-Ok-find_name.file) (c.self.view_is ∙ c.in-Ok.ensures.same) (ap LooksUp c.in-Ok.ensures.copy) (find_filed g.W.Watch.told g.W.Watch.faults _ _ _ _ c.self.invariant c.in-Ok.name (Ok c.in-Ok-find_name.file) c.in-Ok-find_name.ensures.call)

pub returns-in-Ok-find_name-clause-answer : goal.returns-in-Ok-find_name-clause-answer
returns-in-Ok-find_name-clause-answer g c =
    c.in-Ok-find_name.ensures.file _ (c.self.invariant.sound c.in-Ok-find_name.ensures.call.goes.0).rests
    ∙ ap (named c.self.inside.cluster.disk.files.names) c.in-Ok.ensures.copy
    ∙ ap (λ (m : Split). named m.whole.disk.files.names c.args.name.now) (c.self.view_is ∙ c.in-Ok.ensures.same)
