use Rattle.manager.proofs.Open.{found_alive}
use Rattle.sys_calls.proofs.Ending.{does_then, kernel_then, managed_then, stops_first, stops_then}
use Rattle.sys_calls.proofs.calls.do_call.Goals as goal

pub returns-in_err-end-clause-stops : goal.returns-in_err-end-clause-stops
returns-in_err-end-clause-stops g c k = stops_first g.M.Machine.held g.M.Machine.does g.M.Machine.stops g.met.M.Machine.lawful c.args.machine.now c.args.manager.now c.args.pid.0 (found_alive c.args.manager.now.procs c.args.pid.0 c.requires.can.alive) k c.call_end.new.machine (c.call_end.ensures.stops k)

pub returns-clause-does : goal.returns-clause-does
returns-clause-does g c k =
    does_then g.M.Machine.held g.M.Machine.does g.M.Machine.stops g.met.M.Machine.lawful c.args.machine.now c.args.manager.now c.args.pid.0 (found_alive c.args.manager.now.procs c.args.pid.0 c.requires.can.alive) k c.call_end.new.machine c.end_call.new.machine c.call_end.new.manager c.cpu-cpu.result c.cpu-cpu.ensures c.in_ok-end.end (c.in_ok-end.ensures.ends k) c.end_call.result
    (c.end_call.ensures.does (kernel_then g.M.Machine.held g.M.Machine.does g.M.Machine.stops g.met.M.Machine.lawful c.args.machine.now c.args.manager.now c.args.pid.0 (found_alive c.args.manager.now.procs c.args.pid.0 c.requires.can.alive) k c.call_end.new.machine c.end_call.new.machine c.call_end.new.manager c.cpu-cpu.result c.cpu-cpu.ensures c.in_ok-end.end (c.in_ok-end.ensures.ends k)))

pub returns-clause-managed : goal.returns-clause-managed
returns-clause-managed g c k =
    managed_then g.M.Machine.held g.M.Machine.does g.M.Machine.stops g.met.M.Machine.lawful c.args.machine.now c.args.manager.now c.args.pid.0 (found_alive c.args.manager.now.procs c.args.pid.0 c.requires.can.alive) k c.call_end.new.machine c.end_call.new.machine c.call_end.new.manager c.cpu-cpu.result c.cpu-cpu.ensures c.in_ok-end.end (c.in_ok-end.ensures.ends k) c.end_call.new.manager c.end_call.result
    (c.end_call.ensures.managed (kernel_then g.M.Machine.held g.M.Machine.does g.M.Machine.stops g.met.M.Machine.lawful c.args.machine.now c.args.manager.now c.args.pid.0 (found_alive c.args.manager.now.procs c.args.pid.0 c.requires.can.alive) k c.call_end.new.machine c.end_call.new.machine c.call_end.new.manager c.cpu-cpu.result c.cpu-cpu.ensures c.in_ok-end.end (c.in_ok-end.ensures.ends k)))

pub returns-clause-stops : goal.returns-clause-stops
returns-clause-stops g c k =
    stops_then g.M.Machine.held g.M.Machine.does g.M.Machine.stops g.met.M.Machine.lawful c.args.machine.now c.args.manager.now c.args.pid.0 (found_alive c.args.manager.now.procs c.args.pid.0 c.requires.can.alive) k c.call_end.new.machine c.end_call.new.machine c.call_end.new.manager c.cpu-cpu.result c.cpu-cpu.ensures c.in_ok-end.end (c.in_ok-end.ensures.ends k)
    (c.end_call.ensures.stops (kernel_then g.M.Machine.held g.M.Machine.does g.M.Machine.stops g.met.M.Machine.lawful c.args.machine.now c.args.manager.now c.args.pid.0 (found_alive c.args.manager.now.procs c.args.pid.0 c.requires.can.alive) k c.call_end.new.machine c.end_call.new.machine c.call_end.new.manager c.cpu-cpu.result c.cpu-cpu.ensures c.in_ok-end.end (c.in_ok-end.ensures.ends k)))
