use Rattle.std.proofs.Common.{◌≡◌, ◌∙◌, [], ◌∷◌, Err, List, Ok, ap, subst, sym}
use Rattle.lego_base.specs.declared.records.Area.{Area}
use Rattle.lego_base.specs.declared.sizes.TheConstants.{PAGES_END}
use Rattle.lego_base.specs.declared.stops.Halt.TheVariants.{NoMemory}
use Rattle.area_list.proofs.Canonical.{IsWithin}
use Rattle.area_list.specs.Runs.{joined}
use Rattle.linux_model.specs.Effects.{AsksSpace}
use Rattle.ex_memory.proofs.Asking.{areas_answer, areas_filed, areas_lack, areas_rise}
use Rattle.ex_memory.proofs.Doing.{does_at}
use Rattle.ex_memory.proofs.Ending.{filed_at, filed_order, valued}
use Rattle.ex_memory.proofs.memory.ExMemory.areas.Goals as goal

pub returns-in-Err-clause-does : goal.returns-in-Err-clause-does
returns-in-Err-clause-does g c = filed_at g.W.Watch.told g.W.Watch.faults _ _ _ _ _ _ (Err c.in-Err.halt) c.self.view_is (areas_filed g.W.Watch.told g.W.Watch.faults _ _ _ _ c.self.invariant c.args.pid (Err c.in-Err.halt) c.in-Err.ensures.call)

pub joined-requires-clause-rise : goal.joined-requires-clause-rise
joined-requires-clause-rise g c = subst (IsWithin 0 PAGES_END) (sym c.as_slice.ensures) (areas_rise _ c.args.pid c.in-Ok.runs c.self.invariant c.in-Ok.ensures.call.goes.0 c.in-Ok.ensures.areas)

pub returns-in-Err-joined-clause-does : goal.returns-in-Err-joined-clause-does
returns-in-Err-joined-clause-does g c = does_at g.W.Watch.told g.W.Watch.faults _ _ _ _ _ (AsksSpace c.args.pid.0 ∷ []) (Err NoMemory) c.self.view_is (areas_lack g.W.Watch.told g.W.Watch.faults _ _ _ _ c.self.invariant c.args.pid c.in-Ok.runs c.out_of_memory.new.self c.in-Ok.ensures.call c.out_of_memory.ensures)

pub invariant_of-self-in-Ok-joined : goal.invariant_of-self-in-Ok-joined
invariant_of-self-in-Ok-joined g c = filed_order g.W.Watch.told g.W.Watch.faults _ _ _ _ _ (Ok c.in-Ok.runs) c.self.invariant (areas_filed g.W.Watch.told g.W.Watch.faults _ _ _ _ c.self.invariant c.args.pid (Ok c.in-Ok.runs) c.in-Ok.ensures.call)

pub returns-in-Ok-joined-clause-does : goal.returns-in-Ok-joined-clause-does
returns-in-Ok-joined-clause-does g c = valued g.W.Watch.told g.W.Watch.faults _ _ _ _ (AsksSpace c.args.pid.0 ∷ []) c.in-Ok.runs c.in-Ok-joined.areas
    (filed_at g.W.Watch.told g.W.Watch.faults _ _ _ _ _ _ (Ok c.in-Ok.runs) c.self.view_is (areas_filed g.W.Watch.told g.W.Watch.faults _ _ _ _ c.self.invariant c.args.pid (Ok c.in-Ok.runs) c.in-Ok.ensures.call))
