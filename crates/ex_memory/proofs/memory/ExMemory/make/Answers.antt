use Rattle.std.proofs.Common.{◌≡◌, ◌∙◌, [], ◌∷◌, Err, None, Ok, ap, subst, sym}
use Rattle.lego_base.specs.Files.{named}
use Rattle.call_machine.specs.Effects.{made_file}
use Rattle.linux_model.specs.Effects.{MakesFile}
use Rattle.ex_memory.proofs.Ending.{filed_as, filed_order, lacks_does}
use Rattle.ex_memory.proofs.Filing.{make_filed, made_answer}
use Rattle.ex_memory.specs.Seen.{held_of}
use Rattle.ex_memory.specs.Split.{Split}
use Rattle.ex_memory.proofs.memory.ExMemory.make.Goals as goal

pub returns-in-Err-clause-does : goal.returns-in-Err-clause-does
returns-in-Err-clause-does g c = lacks_does g.W.Watch.told g.W.Watch.faults _ _ _ (MakesFile c.args.name.now ∷ []) c.in-Err.halt c.in-Err.ensures.err

pub returns-in-Err-make_name-clause-does : goal.returns-in-Err-make_name-clause-does
returns-in-Err-make_name-clause-does g c = filed_as g.W.Watch.told g.W.Watch.faults _ _ _ _ _ _ _ (Err c.in-Err-make_name.halt) (c.self.view_is ∙ c.in-Ok.ensures.same) (ap MakesFile c.in-Ok.ensures.copy) (make_filed g.W.Watch.told g.W.Watch.faults _ _ _ _ c.self.invariant c.in-Ok.name (Err c.in-Err-make_name.halt) (subst (λ (m : Split). named m.whole.disk.files.names c.in-Ok.name ≡ None) (sym (c.self.view_is ∙ c.in-Ok.ensures.same)) (ap (named c.args.self.now.whole.disk.files.names) c.in-Ok.ensures.copy ∙ c.requires.absent)) c.in-Err-make_name.ensures.call)

pub invariant_of-self-in-Ok-make_name : goal.invariant_of-self-in-Ok-make_name
invariant_of-self-in-Ok-make_name g c = filed_order g.W.Watch.told g.W.Watch.faults _ _ _ _ (MakesFile c.in-Ok.name) (Ok c.in-Ok-make_name.file) c.self.invariant (make_filed g.W.Watch.told g.W.Watch.faults _ _ _ _ c.self.invariant c.in-Ok.name (Ok c.in-Ok-make_name.file) (subst (λ (m : Split). named m.whole.disk.files.names c.in-Ok.name ≡ None) (sym (c.self.view_is ∙ c.in-Ok.ensures.same)) (ap (named c.args.self.now.whole.disk.files.names) c.in-Ok.ensures.copy ∙ c.requires.absent)) c.in-Ok-make_name.ensures.call)

pub returns-in-Ok-make_name-clause-does : goal.returns-in-Ok-make_name-clause-does
returns-in-Ok-make_name-clause-does g c = filed_as g.W.Watch.told g.W.Watch.faults _ _ _ _ _ _ _ (Ok c.in-Ok-make_name.file) (c.self.view_is ∙ c.in-Ok.ensures.same) (ap MakesFile c.in-Ok.ensures.copy) (make_filed g.W.Watch.told g.W.Watch.faults _ _ _ _ c.self.invariant c.in-Ok.name (Ok c.in-Ok-make_name.file) (subst (λ (m : Split). named m.whole.disk.files.names c.in-Ok.name ≡ None) (sym (c.self.view_is ∙ c.in-Ok.ensures.same)) (ap (named c.args.self.now.whole.disk.files.names) c.in-Ok.ensures.copy ∙ c.requires.absent)) c.in-Ok-make_name.ensures.call)

pub returns-in-Ok-make_name-clause-answer : goal.returns-in-Ok-make_name-clause-answer
returns-in-Ok-make_name-clause-answer g c =
    made_answer (record { whole = c.self.inside.cluster; caches = c.self.inside.caches.items; by = c.self.inside.by }) c.in-Ok.name c.in-Ok-make_name.file (subst (λ (m : Split). named m.whole.disk.files.names c.in-Ok.name ≡ None) (sym (c.self.view_is ∙ c.in-Ok.ensures.same)) (ap (named c.args.self.now.whole.disk.files.names) c.in-Ok.ensures.copy ∙ c.requires.absent)) (c.in-Ok-make_name.ensures.file _ (c.self.invariant.sound c.in-Ok-make_name.ensures.call.goes.0).rests)
    ∙ ap (λ (m : Split). made_file (held_of m)) (c.self.view_is ∙ c.in-Ok.ensures.same)
