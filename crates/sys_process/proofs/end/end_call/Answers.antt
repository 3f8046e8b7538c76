use Rattle.std.proofs.Common.{rules, refl}
use Rattle.linux_model.specs.Effects.{Keeps, Returns}
use Rattle.call_machine.proofs.Stops.{stops_follow}
use Rattle.sys_process.proofs.end.end_call.Goals as goal

pub returns-in-Value-clause-stops : goal.returns-in-Value-clause-stops
returns-in-Value-clause-stops g c k =
    let did = (stops_follow g.M.Machine.held g.M.Machine.does g.M.Machine.stops g.met.M.Machine.lawful).did _ _ _ (g.met.M.Machine.lawful.apart c.args.machine.now (Returns c.args.pid.0 c.answered.result) refl) in
    search (rules, did)

pub returns-in-Goes-clause-stops : goal.returns-in-Goes-clause-stops
returns-in-Goes-clause-stops g c k =
    let did = (stops_follow g.M.Machine.held g.M.Machine.does g.M.Machine.stops g.met.M.Machine.lawful).did _ _ _ (g.met.M.Machine.lawful.apart c.args.machine.now (Returns c.args.pid.0 c.in-Goes.registers) refl) in
    search (rules, did)

pub returns-in-Waits-clause-stops : goal.returns-in-Waits-clause-stops
returns-in-Waits-clause-stops g c k =
    let did = (stops_follow g.M.Machine.held g.M.Machine.does g.M.Machine.stops g.met.M.Machine.lawful).did _ _ _ (g.met.M.Machine.lawful.apart c.args.machine.now (Keeps c.args.pid.0 c.in-Waits.waiting.moved c.in-Waits.waiting.len) refl) in
    search (rules, did)
