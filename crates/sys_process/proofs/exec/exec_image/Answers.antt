use Rattle.std.proofs.Common.{◌∙◌, ◌∷◌, replicate}
use Rattle.linux_model.specs.Held.{with_held}
use Rattle.linux_model.specs.ProcessCalls.{executes}
use Rattle.call_machine.specs.declared.end.CallEnd.TheVariants.{Goes}
use Rattle.call_machine.specs.Laws.{effects_of}
use Rattle.call_machine.specs.Lent.{kernel_of}
use Rattle.call_machine.proofs.Rows.{each_process, ends_each}
use Rattle.sys_process.proofs.Executing.{close_stops, drop_stops, executes_ends, load_stops}
use Rattle.sys_process.proofs.exec.exec_image.Goals as goal

pub returns-in_err-close_all-clause-stops : goal.returns-in_err-close_all-clause-stops
returns-in_err-close_all-clause-stops g c k =
    each_process c.args.manager.now c.args.pid.0 (λ p. g.M.Machine.stops c.args.machine.now c.close_all.new.machine (effects_of (executes p (kernel_of c.args.manager.now (g.M.Machine.held c.args.machine.now) k) c.args.image.now c.args.args.now c.args.env.now)))
    (λ p is there. close_stops g.M.Machine.held g.M.Machine.does g.M.Machine.stops g.met.M.Machine.lawful c.args.pid.0 p is c.args.manager.now there k c.args.image.now c.args.args.now c.args.env.now c.args.machine.now c.close_all.new.machine (c.close_all.ensures.stops (with_held (g.M.Machine.held c.args.machine.now) k)))

pub returns-in_err-drop_space-clause-stops : goal.returns-in_err-drop_space-clause-stops
returns-in_err-drop_space-clause-stops g c k =
    each_process c.args.manager.now c.args.pid.0 (λ p. g.M.Machine.stops c.args.machine.now c.drop_space.new.self (effects_of (executes p (kernel_of c.args.manager.now (g.M.Machine.held c.args.machine.now) k) c.args.image.now c.args.args.now c.args.env.now)))
    (λ p is there. drop_stops g.M.Machine.held g.M.Machine.does g.M.Machine.stops g.met.M.Machine.lawful c.args.pid.0 p is c.args.manager.now there k c.args.image.now c.args.args.now c.args.env.now c.args.machine.now c.close_all.new.machine (c.in_ok-close_all.ensures.does (with_held (g.M.Machine.held c.args.machine.now) k)) c.drop_space.new.self c.drop_space.ensures.stops)

pub returns-in_err-sp-clause-stops : goal.returns-in_err-sp-clause-stops
returns-in_err-sp-clause-stops g c k =
    each_process c.args.manager.now c.args.pid.0 (λ p. g.M.Machine.stops c.args.machine.now c.load_program.new.machine (effects_of (executes p (kernel_of c.args.manager.now (g.M.Machine.held c.args.machine.now) k) c.args.image.now c.args.args.now c.args.env.now)))
    (λ p is there. load_stops g.M.Machine.held g.M.Machine.does g.M.Machine.stops g.met.M.Machine.lawful c.args.pid.0 p is c.args.manager.now there k c.args.image.now c.args.args.now c.args.env.now c.args.machine.now c.close_all.new.machine (c.in_ok-close_all.ensures.does (with_held (g.M.Machine.held c.args.machine.now) k)) c.drop_space.new.self c.in_ok-drop_space.ensures.does c.load_program.new.machine c.load_program.ensures.stops)

pub returns-clause-ends : goal.returns-clause-ends
returns-clause-ends g c k =
    let start = c.start_of.ensures ∙ λ i. record { pc = c.entry.ensures.value i; x = 0 ∷ 0 ∷ c.in_ok-sp.ensures.sp i ∷ replicate 29 0 } in
    ends_each g.M.Machine.held g.M.Machine.does g.M.Machine.stops g.met.M.Machine.lawful c.args.machine.now c.load_program.new.machine c.args.manager.now c.set_brk.new.self c.args.pid.0 (λ p k. executes p k c.args.image.now c.args.args.now c.args.env.now) (Goes c.start_of.result) k
    (λ p is there. executes_ends g.M.Machine.held g.M.Machine.does g.M.Machine.stops g.met.M.Machine.lawful c.args.pid.0 p is c.args.manager.now there k c.args.image.now c.args.args.now c.args.env.now c.args.machine.now c.close_all.new.machine (c.in_ok-close_all.ensures.does (with_held (g.M.Machine.held c.args.machine.now) k)) c.drop_space.new.self c.in_ok-drop_space.ensures.does c.load_program.new.machine c.close_all.new.manager c.set_brk.new.self c.brk.result c.brk-2.result c.start_of.result c.in_ok-sp.ensures.does (c.in_ok-close_all.ensures.managed (with_held (g.M.Machine.held c.args.machine.now) k)) c.set_brk.ensures c.brk.ensures.value c.brk-2.ensures.value start)

pub returns-clause-stops : goal.returns-clause-stops
returns-clause-stops g c k =
    each_process c.args.manager.now c.args.pid.0 (λ p. g.M.Machine.stops c.args.machine.now c.load_program.new.machine (effects_of (executes p (kernel_of c.args.manager.now (g.M.Machine.held c.args.machine.now) k) c.args.image.now c.args.args.now c.args.env.now)))
    (λ p is there. load_stops g.M.Machine.held g.M.Machine.does g.M.Machine.stops g.met.M.Machine.lawful c.args.pid.0 p is c.args.manager.now there k c.args.image.now c.args.args.now c.args.env.now c.args.machine.now c.close_all.new.machine (c.in_ok-close_all.ensures.does (with_held (g.M.Machine.held c.args.machine.now) k)) c.drop_space.new.self c.in_ok-drop_space.ensures.does c.load_program.new.machine c.load_program.ensures.stops)
