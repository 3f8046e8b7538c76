use Rattle.std.proofs.Common.{[]}
use Rattle.linux_model.specs.State.{unbooted}
use Rattle.manager.proofs.Open.{found_alive}
use Rattle.call_machine.proofs.Rows.{on_ok}
use Rattle.sys_process.proofs.Closings.{closed_all_stops, closing_stops, dies_does, dies_managed, drops_stops, none_open}
use Rattle.sys_process.proofs.death.die.Goals as goal

pub returns-in_err-close_all-clause-stops : goal.returns-in_err-close_all-clause-stops
returns-in_err-close_all-clause-stops g c k = closing_stops g.M.Machine.held g.M.Machine.does g.M.Machine.stops g.met.M.Machine.lawful c.args.pid.0 c.args.status c.args.manager.now k c.args.machine.now c.close_all.new.machine (c.close_all.ensures.stops k)

pub die-requires : goal.die-requires
die-requires g c =
    let q = found_alive c.args.manager.now.procs c.args.pid.0 c.requires.alive in
    record { closed = none_open c.args.pid.0 c.args.manager.now c.close_all.new.manager q.p q.is (c.in_ok-close_all.ensures.managed (unbooted [])) }

pub returns-in_err-die-clause-stops : goal.returns-in_err-die-clause-stops
returns-in_err-die-clause-stops g c k = closed_all_stops g.M.Machine.held g.M.Machine.does g.M.Machine.stops g.met.M.Machine.lawful c.args.pid.0 c.args.status c.args.manager.now k c.args.machine.now c.close_all.new.machine (c.in_ok-close_all.ensures.does k)

pub returns-clause-does : goal.returns-clause-does
returns-clause-does g c k =
    on_ok _ _ c.drop_space.result (dies_does g.M.Machine.held g.M.Machine.does g.M.Machine.stops g.met.M.Machine.lawful c.args.pid.0 c.args.status c.args.manager.now k c.args.machine.now c.close_all.new.machine (c.in_ok-close_all.ensures.does k) c.drop_space.new.self) c.drop_space.ensures.does

pub returns-clause-managed : goal.returns-clause-managed
returns-clause-managed g c k =
    on_ok _ _ c.drop_space.result (λ d. dies_managed g.M.Machine.held g.M.Machine.does g.M.Machine.stops g.met.M.Machine.lawful c.args.pid.0 c.args.status c.args.manager.now k c.args.machine.now c.close_all.new.machine c.close_all.new.manager c.die.new.self (c.in_ok-close_all.ensures.managed k) c.in_ok-die.ensures.ok) c.drop_space.ensures.does

pub returns-clause-stops : goal.returns-clause-stops
returns-clause-stops g c k = drops_stops g.M.Machine.held g.M.Machine.does g.M.Machine.stops g.met.M.Machine.lawful c.args.pid.0 c.args.status c.args.manager.now k c.args.machine.now c.close_all.new.machine (c.in_ok-close_all.ensures.does k) c.drop_space.new.self c.drop_space.ensures.stops
