use Rattle.std.proofs.Common.{◌≡◌, ◌∙◌, [], ◌∷◌, Err, Ok, ap, refl, subst, sym, true}
use Rattle.lego_base.specs.Files.{is_file}
use Rattle.ex_memory.proofs.Ending.{filed_at, filed_order}
use Rattle.ex_memory.proofs.Filing.{free_filed}
use Rattle.ex_memory.specs.Split.{Split}
use Rattle.ex_memory.proofs.memory.ExMemory.free.Goals as goal

pub file_free-requires-clause-issuer : goal.file_free-requires-clause-issuer
file_free-requires-clause-issuer g c = c.self.invariant.issuer

pub returns-in-Err : goal.returns-in-Err
returns-in-Err g c = record { does = filed_at g.W.Watch.told g.W.Watch.faults _ _ _ _ _ _ (Err c.in-Err.halt) c.self.view_is (free_filed g.W.Watch.told g.W.Watch.faults _ _ _ _ c.self.invariant c.args.file (Err c.in-Err.halt) c.in-Err.ensures.call) }

pub invariant_of-self-in-Ok : goal.invariant_of-self-in-Ok
invariant_of-self-in-Ok g c = filed_order g.W.Watch.told g.W.Watch.faults _ _ _ _ _ (Ok tt) c.self.invariant (free_filed g.W.Watch.told g.W.Watch.faults _ _ _ _ c.self.invariant c.args.file (Ok tt) c.in-Ok.ensures.call)

pub returns-in-Ok : goal.returns-in-Ok
returns-in-Ok g c = record { does = filed_at g.W.Watch.told g.W.Watch.faults _ _ _ _ _ _ (Ok tt) c.self.view_is (free_filed g.W.Watch.told g.W.Watch.faults _ _ _ _ c.self.invariant c.args.file (Ok tt) c.in-Ok.ensures.call) }
