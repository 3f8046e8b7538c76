use Rattle.std.proofs.Common.{refl, rules, ◌≡◌, Some}
use Rattle.kernel_objects.specs.Slots.{slot}
use Rattle.linux_model.specs.Descriptors.{closing, close_row}
use Rattle.linux_model.specs.Called.{Gives}
use Rattle.linux_model.specs.Held.{with_held}
use Rattle.linux_model.specs.Processes.{process}
use Rattle.call_machine.specs.Lent.{kernel_of}
use Rattle.call_machine.proofs.Rows.{ran_stops, each_process, stops_as}
use Rattle.call_parts.proofs.Opened.{entry_by}
use Rattle.manager.specs.Words.{entry_of}
use Rattle.sys_files.proofs.descriptors.sys_close.Goals as goal

pub returns-in_err-close_open-clause-stops : goal.returns-in_err-close_open-clause-stops
returns-in_err-close_open-clause-stops g c k = each_process c.args.man.now c.args.pid.0 _ (λ p own there.
    let K = kernel_of c.args.man.now (g.M.Machine.held c.args.machine.now) k in
    let is : slot p.fds c.args.fd ≡ Some (entry_of c.in-Some._open) = entry_by c.args.man.now c.args.pid.0 c.args.fd p (Some c.in-Some._open) there c.in-Some.ensures.entry in
    let row : close_row p K c.args.fd ≡ Gives (closing c.args.pid.0 c.args.fd K) 0 = search rules in
    stops_as g.M.Machine.held g.M.Machine.does g.M.Machine.stops g.met.M.Machine.lawful _ _ _ _ row (c.close_open.ensures.stops (with_held (g.M.Machine.held c.args.machine.now) k)))

pub returns-clause-answers : goal.returns-clause-answers
returns-clause-answers g c k = each_process c.args.man.now c.args.pid.0 _ (λ p own there.
    let K = kernel_of c.args.man.now (g.M.Machine.held c.args.machine.now) k in
    let is : slot p.fds c.args.fd ≡ Some (entry_of c.in-Some._open) = entry_by c.args.man.now c.args.pid.0 c.args.fd p (Some c.in-Some._open) there c.in-Some.ensures.entry in
    let row : close_row p K c.args.fd ≡ Gives (closing c.args.pid.0 c.args.fd K) 0 = search rules in
    record { effects = closing c.args.pid.0 c.args.fd K; row_is = row; did = c.in_ok-close_open.ensures.closes (with_held (g.M.Machine.held c.args.machine.now) k); managed = c.in_ok-close_open.ensures.managed (with_held (g.M.Machine.held c.args.machine.now) k) })

pub returns-clause-stops : goal.returns-clause-stops
returns-clause-stops g c k = ran_stops g.M.Machine.held g.M.Machine.does g.M.Machine.stops g.met.M.Machine.lawful _ _ _ _ (process c.args.man.now.procs c.args.pid.0) _ _ (λ es. refl) (returns-clause-answers g c k)
