use Rattle.std.proofs.Common.{◌≡◌, ◌∙◌, [], ◌∷◌, ◌+◌, ◌<◌, ◌≤◌, Err, Ok, ap, length, refl, subst, sym, true}
use Rattle.lego_base.specs.Files.{file_bytes, is_file}
use Rattle.lego_base.specs.Pieces.{piece}
use Rattle.ex_memory.proofs.Ending.{filed_at, filed_order}
use Rattle.ex_memory.proofs.Filing.{read_filed, read_most, read_piece, read_within}
use Rattle.ex_memory.specs.Split.{Split}
use Rattle.ex_memory.proofs.memory.ExMemory.read.Goals as goal

pub read_file-requires-clause-issuer : goal.read_file-requires-clause-issuer
read_file-requires-clause-issuer g c = c.self.invariant.issuer

pub returns-in-Err-clause-does : goal.returns-in-Err-clause-does
returns-in-Err-clause-does g c = filed_at g.W.Watch.told g.W.Watch.faults _ _ _ _ _ _ (Err c.in-Err.halt) c.self.view_is (read_filed g.W.Watch.told g.W.Watch.faults _ _ _ _ c.self.invariant c.args.file c.args.off c.args.len c.start_of-start.result (Err c.in-Err.halt) (subst (λ (m : Split). is_file m.whole.disk.files.files c.args.file.0 ≡ true) (sym c.self.view_is) c.requires.there) (subst (λ (m : Split). 0 < c.args.len → c.args.off + c.args.len ≤ length (file_bytes m.whole.disk.files.files c.args.file.0)) (sym c.self.view_is) c.requires.within) c.start_of-start.ensures c.in-Err.ensures.call)

pub invariant_of-self-in-Ok : goal.invariant_of-self-in-Ok
invariant_of-self-in-Ok g c = filed_order g.W.Watch.told g.W.Watch.faults _ _ _ _ _ (Ok c.in-Ok.bytes) c.self.invariant (read_filed g.W.Watch.told g.W.Watch.faults _ _ _ _ c.self.invariant c.args.file c.args.off c.args.len c.start_of-start.result (Ok c.in-Ok.bytes) (subst (λ (m : Split). is_file m.whole.disk.files.files c.args.file.0 ≡ true) (sym c.self.view_is) c.requires.there) (subst (λ (m : Split). 0 < c.args.len → c.args.off + c.args.len ≤ length (file_bytes m.whole.disk.files.files c.args.file.0)) (sym c.self.view_is) c.requires.within) c.start_of-start.ensures c.in-Ok.ensures.call)

pub returns-in-Ok-clause-does : goal.returns-in-Ok-clause-does
returns-in-Ok-clause-does g c = filed_at g.W.Watch.told g.W.Watch.faults _ _ _ _ _ _ (Ok c.in-Ok.bytes) c.self.view_is (read_filed g.W.Watch.told g.W.Watch.faults _ _ _ _ c.self.invariant c.args.file c.args.off c.args.len c.start_of-start.result (Ok c.in-Ok.bytes) (subst (λ (m : Split). is_file m.whole.disk.files.files c.args.file.0 ≡ true) (sym c.self.view_is) c.requires.there) (subst (λ (m : Split). 0 < c.args.len → c.args.off + c.args.len ≤ length (file_bytes m.whole.disk.files.files c.args.file.0)) (sym c.self.view_is) c.requires.within) c.start_of-start.ensures c.in-Ok.ensures.call)

pub read_file-requires-clause-most : goal.read_file-requires-clause-most
read_file-requires-clause-most g c = read_most _ c.self.invariant c.args.file c.args.off c.args.len c.start_of-start.result (sym c.halted.ensures ∙ c.in-None.is) (subst (λ (m : Split). 0 < c.args.len → c.args.off + c.args.len ≤ length (file_bytes m.whole.disk.files.files c.args.file.0)) (sym c.self.view_is) c.requires.within) c.start_of-start.ensures

pub returns-in-Ok-clause-answer : goal.returns-in-Ok-clause-answer
returns-in-Ok-clause-answer g c =
    c.in-Ok.ensures.bytes _ (c.self.invariant.sound c.in-Ok.ensures.call.goes.0).rests (subst (λ (m : Split). is_file m.whole.disk.files.files c.args.file.0 ≡ true) (sym c.self.view_is) c.requires.there)
    (read_within _ c.self.invariant c.args.file c.args.off c.args.len c.start_of-start.result c.in-Ok.ensures.call.goes.0 (subst (λ (m : Split). 0 < c.args.len → c.args.off + c.args.len ≤ length (file_bytes m.whole.disk.files.files c.args.file.0)) (sym c.self.view_is) c.requires.within) c.start_of-start.ensures)
    ∙ read_piece _ c.args.off c.args.len c.start_of-start.result c.start_of-start.ensures
    ∙ ap (λ (m : Split). piece (file_bytes m.whole.disk.files.files c.args.file.0) c.args.off c.args.len) c.self.view_is
