use Rattle.std.proofs.Common.{[], arith}
use Rattle.linux_model.specs.State.{unbooted}
use Rattle.linux_model.proofs.fits.Processes.{process_fits}
use Rattle.manager.proofs.Open.{found_alive}
use Rattle.call_machine.proofs.Stops.{stops_follow}
use Rattle.sys_process.proofs.Closings.{all_did, all_managed, begins, goes_on, stopped}
use Rattle.sys_process.proofs.death.close_all.Goals as goal

pub loop-fd-init : goal.loop-fd-init
loop-fd-init g c =
    let q = found_alive c.args.manager.now.procs c.args.pid.0 c.requires.alive in
    let fits = process_fits c.args.manager.now.descs c.args.manager.now.procs c.args.pid.0 q.p (c.requires.fit (unbooted [])).procs_fit q.is in
    begins g.M.Machine.held g.M.Machine.does g.M.Machine.stops g.met.M.Machine.lawful c.args.all c.args.pid.0 c.args.manager.now c.args.machine.now q.p q.is fits.slots

pub returns-in_err-close_one-clause-stops : goal.returns-in_err-close_one-clause-stops
returns-in_err-close_one-clause-stops g c k =
    stopped g.M.Machine.held g.M.Machine.does g.M.Machine.stops g.met.M.Machine.lawful c.args.all c.args.pid.0 c.args.manager.now c.args.machine.now c.loop-fd.machine c.loop-fd.manager c.loop-fd.fd c.loop-fd.invariant (omega (arith, c.loop-fd-test.true)) c.close_one.new.machine k c.close_one.ensures.stops

pub loop-fd-preserved : goal.loop-fd-preserved
loop-fd-preserved g c =
    goes_on g.M.Machine.held g.M.Machine.does g.M.Machine.stops g.met.M.Machine.lawful c.args.all c.args.pid.0 c.args.manager.now c.args.machine.now c.loop-fd.machine c.loop-fd.manager c.loop-fd.fd c.loop-fd.invariant (omega (arith, c.loop-fd-test.true)) c.close_one.new.machine c.close_one.new.manager c.in_ok-close_one.ensures.does c.in_ok-close_one.ensures.managed

pub returns-clause-does : goal.returns-clause-does
returns-clause-does g c k = all_did g.M.Machine.held g.M.Machine.does g.M.Machine.stops g.met.M.Machine.lawful c.args.all c.args.pid.0 c.args.manager.now c.args.machine.now c.loop-fd.machine c.loop-fd.manager c.loop-fd.fd c.loop-fd.invariant (omega (arith, c.loop-fd-test.false)) k

pub returns-clause-managed : goal.returns-clause-managed
returns-clause-managed g c k = all_managed g.M.Machine.held g.M.Machine.does g.M.Machine.stops g.met.M.Machine.lawful c.args.all c.args.pid.0 c.args.manager.now c.args.machine.now c.loop-fd.machine c.loop-fd.manager c.loop-fd.fd c.loop-fd.invariant (omega (arith, c.loop-fd-test.false)) k

pub returns-clause-stops : goal.returns-clause-stops
returns-clause-stops g c k =
    (stops_follow g.M.Machine.held g.M.Machine.does g.M.Machine.stops g.met.M.Machine.lawful).did _ _ _ (all_did g.M.Machine.held g.M.Machine.does g.M.Machine.stops g.met.M.Machine.lawful c.args.all c.args.pid.0 c.args.manager.now c.args.machine.now c.loop-fd.machine c.loop-fd.manager c.loop-fd.fd c.loop-fd.invariant (omega (arith, c.loop-fd-test.false)) k)
