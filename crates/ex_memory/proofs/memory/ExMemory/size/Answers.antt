use Rattle.std.proofs.Common.{◌≡◌, ◌∙◌, [], ◌∷◌, Err, Ok, ap, length, refl, subst, sym, true}
use Rattle.lego_base.specs.Files.{file_bytes, is_file}
use Rattle.ex_memory.proofs.Ending.{filed_at, filed_order}
use Rattle.ex_memory.proofs.Filing.{size_filed}
use Rattle.ex_memory.specs.Split.{Split}
use Rattle.ex_memory.proofs.memory.ExMemory.size.Goals as goal

pub file_size-requires-clause-issuer : goal.file_size-requires-clause-issuer
file_size-requires-clause-issuer g c = c.self.invariant.issuer

pub returns-in-Err-clause-does : goal.returns-in-Err-clause-does
returns-in-Err-clause-does g c = filed_at g.W.Watch.told g.W.Watch.faults _ _ _ _ _ _ (Err c.in-Err.halt) c.self.view_is (size_filed g.W.Watch.told g.W.Watch.faults _ _ _ _ c.self.invariant c.args.file (Err c.in-Err.halt) (subst (λ (m : Split). is_file m.whole.disk.files.files c.args.file.0 ≡ true) (sym c.self.view_is) c.requires.there) c.in-Err.ensures.call)

pub invariant_of-self-in-Ok : goal.invariant_of-self-in-Ok
invariant_of-self-in-Ok g c = filed_order g.W.Watch.told g.W.Watch.faults _ _ _ _ _ (Ok c.in-Ok.size) c.self.invariant (size_filed g.W.Watch.told g.W.Watch.faults _ _ _ _ c.self.invariant c.args.file (Ok c.in-Ok.size) (subst (λ (m : Split). is_file m.whole.disk.files.files c.args.file.0 ≡ true) (sym c.self.view_is) c.requires.there) c.in-Ok.ensures.call)

pub returns-in-Ok-clause-does : goal.returns-in-Ok-clause-does
returns-in-Ok-clause-does g c = filed_at g.W.Watch.told g.W.Watch.faults _ _ _ _ _ _ (Ok c.in-Ok.size) c.self.view_is (size_filed g.W.Watch.told g.W.Watch.faults _ _ _ _ c.self.invariant c.args.file (Ok c.in-Ok.size) (subst (λ (m : Split). is_file m.whole.disk.files.files c.args.file.0 ≡ true) (sym c.self.view_is) c.requires.there) c.in-Ok.ensures.call)

pub returns-in-Ok-clause-answer : goal.returns-in-Ok-clause-answer
returns-in-Ok-clause-answer g c =
    c.in-Ok.ensures.size _ (c.self.invariant.sound c.in-Ok.ensures.call.goes.0).rests (subst (λ (m : Split). is_file m.whole.disk.files.files c.args.file.0 ≡ true) (sym c.self.view_is) c.requires.there)
    ∙ ap (λ (m : Split). length (file_bytes m.whole.disk.files.files c.args.file.0)) c.self.view_is
