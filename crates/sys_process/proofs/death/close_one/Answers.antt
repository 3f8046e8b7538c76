use Rattle.std.proofs.Common.{rules, ◌≡◌, sym, ◌∙◌, ap, subst, true, ◌||◌, Some, List}
use Rattle.kernel_objects.specs.Slots.{slot}
use Rattle.linux_model.specs.Effects.{Effect}
use Rattle.linux_model.specs.Managed.{managed_after_all}
use Rattle.linux_model.specs.Processes.{fds_of, process}
use Rattle.manager.specs.Words.{entry_of}
use Rattle.call_machine.proofs.Rows.{on_ok}
use Rattle.sys_process.specs.Words.{closing_of}
use Rattle.sys_process.proofs.Closings.{always, is_closed}
use Rattle.sys_process.proofs.death.close_one.Goals as goal

pub returns-clause-does : goal.returns-clause-does
returns-clause-does g c k =
    let there : slot (fds_of (process c.args.manager.now.procs c.args.pid.0)) c.args.fd ≡ Some (entry_of c.in-Some.open) = search rules in
    let picked : (c.args.all || c.in-Some.open.cloexec) ≡ true = search rules in
    let is = is_closed c.args.all (Some (entry_of c.in-Some.open)) c.args.pid.0 c.args.fd c.args.manager.now k there picked in
    on_ok _ _ c.close_open.result (subst (g.M.Machine.does c.args.machine.now c.close_open.new.machine) (sym is)) (c.close_open.ensures.closes k)

pub returns-clause-managed : goal.returns-clause-managed
returns-clause-managed g c k =
    let there : slot (fds_of (process c.args.manager.now.procs c.args.pid.0)) c.args.fd ≡ Some (entry_of c.in-Some.open) = search rules in
    let picked : (c.args.all || c.in-Some.open.cloexec) ≡ true = search rules in
    let is = is_closed c.args.all (Some (entry_of c.in-Some.open)) c.args.pid.0 c.args.fd c.args.manager.now k there picked in
    always (managed_after_all (closing_of c.args.all c.args.pid.0 c.args.fd c.args.manager.now k) c.args.manager.now ≡ c.close_open.new.man) c.close_open.result (ap (λ (es : List Effect). managed_after_all es c.args.manager.now) is ∙ c.close_open.ensures.managed k)

pub returns-clause-stops : goal.returns-clause-stops
returns-clause-stops g c k =
    let there : slot (fds_of (process c.args.manager.now.procs c.args.pid.0)) c.args.fd ≡ Some (entry_of c.in-Some.open) = search rules in
    let picked : (c.args.all || c.in-Some.open.cloexec) ≡ true = search rules in
    let is = is_closed c.args.all (Some (entry_of c.in-Some.open)) c.args.pid.0 c.args.fd c.args.manager.now k there picked in
    subst (g.M.Machine.stops c.args.machine.now c.close_open.new.machine) (sym is) (c.close_open.ensures.stops k)
