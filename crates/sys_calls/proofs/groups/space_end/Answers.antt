use Rattle.std.proofs.Common.{subst, sym, IfSome}
use Rattle.linux_model.specs.Calls.{call_by, row}
use Rattle.linux_model.specs.Managed.{Managed}
use Rattle.linux_model.specs.Processes.{process}
use Rattle.call_machine.specs.declared.end.CallEnd.TheVariants.{Value}
use Rattle.call_machine.specs.Lent.{Ran, ended, kernel_of}
use Rattle.sys_calls.proofs.Breaks.{break_ends, break_stops}
use Rattle.sys_calls.proofs.groups.space_end.Goals as goal

pub returns-in_err-value-clause-stops : goal.returns-in_err-value-clause-stops
returns-in_err-value-clause-stops g c k =
    break_stops g.M.Machine.held g.M.Machine.does g.M.Machine.stops c.args.machine.now c.space_call.new.machine c.args.manager.now c.args.pid.0 c.cpu-cpu.result c.brk-brk.result c.cpu-cpu.ensures c.brk-brk.ensures c.requires.fit k c.space_call.ensures.stops

pub returns-clause-ends : goal.returns-clause-ends
returns-clause-ends g c k =
    subst (λ (m : Managed). IfSome (process c.args.manager.now.procs c.args.pid.0) (λ p. Ran g.M.Machine.does c.args.machine.now c.space_call.new.machine c.args.manager.now m (row (call_by p) p (kernel_of c.args.manager.now (g.M.Machine.held c.args.machine.now) k)) (ended (Value c.in-Some.value)))) (sym c.set_brk.ensures)
    (break_ends g.M.Machine.held g.M.Machine.does g.M.Machine.stops c.args.machine.now c.space_call.new.machine c.args.manager.now c.args.pid.0 c.cpu-cpu.result c.brk-brk.result c.cpu-cpu.ensures c.brk-brk.ensures c.requires.fit k c.space_call.new.brk c.in_ok-value.field-0 c.in-Some.value c.in-Some.is c.in_ok-value.ensures.answers)

pub returns-clause-stops : goal.returns-clause-stops
returns-clause-stops g c k =
    break_stops g.M.Machine.held g.M.Machine.does g.M.Machine.stops c.args.machine.now c.space_call.new.machine c.args.manager.now c.args.pid.0 c.cpu-cpu.result c.brk-brk.result c.cpu-cpu.ensures c.brk-brk.ensures c.requires.fit k c.space_call.ensures.stops
