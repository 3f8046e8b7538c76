use Rattle.std.proofs.Common.{rules, ◌≡◌, ◌&&◌, not, eqb, length, false, IfOk}
use Rattle.linux_model.specs.Limits.{AT_FDCWD}
use Rattle.linux_model.specs.Managed.{with_managed}
use Rattle.linux_model.specs.Paths.{is_relative, parts_of, resolved, walked, without_root_parts}
use Rattle.call_machine.specs.Lent.{kernel_of}
use Rattle.call_machine.proofs.Rows.{each_process, stops_as, stops_at_once, stops_each}
use Rattle.sys_paths.specs.Reached.{Reached}
use Rattle.sys_paths.proofs.Walking.{reached_as, resolved_walks}
use Rattle.sys_paths.proofs.walk.find_resolved.Goals as goal

pub returns-in_default-clause-stops : goal.returns-in_default-clause-stops
returns-in_default-clause-stops g c f k =
    stops_each g.M.Machine.held g.M.Machine.does g.M.Machine.stops g.met.M.Machine.lawful c.args.machine.now c.args.machine.now c.args.manager.now c.args.pid.0 (λ p k. resolved p k c.args.dir c.args.path.now f) k
    (λ p is. stops_at_once g.M.Machine.held g.M.Machine.does g.M.Machine.stops g.met.M.Machine.lawful c.args.machine.now (resolved p (kernel_of c.args.manager.now (g.M.Machine.held c.args.machine.now) k) c.args.dir c.args.path.now f))

pub returns-clause-leads : goal.returns-clause-leads
returns-clause-leads g c k =
    let some : eqb (length c.args.path.now) 0 ≡ false = search rules in
    let here : (is_relative c.args.path.now && not (eqb c.args.dir AT_FDCWD)) ≡ false = search rules in
    let K = kernel_of c.args.manager.now (g.M.Machine.held c.args.machine.now) k in
    each_process c.args.manager.now c.args.pid.0 (λ p. IfOk c.find_name.result (Reached g.M.Machine.does c.args.machine.now c.find_name.new.machine (resolved p K c.args.dir c.args.path.now)))
    (λ p is there. reached_as g.M.Machine.does _ _ (resolved p K c.args.dir c.args.path.now) (walked (without_root_parts (parts_of c.args.path.now)) K) c.find_name.result
    (λ f. resolved_walks p K c.args.dir c.args.path.now f some here) (c.find_name.ensures.leads (with_managed c.args.manager.now k)))

pub returns-clause-stops : goal.returns-clause-stops
returns-clause-stops g c f k =
    let some : eqb (length c.args.path.now) 0 ≡ false = search rules in
    let here : (is_relative c.args.path.now && not (eqb c.args.dir AT_FDCWD)) ≡ false = search rules in
    let K = kernel_of c.args.manager.now (g.M.Machine.held c.args.machine.now) k in
    stops_each g.M.Machine.held g.M.Machine.does g.M.Machine.stops g.met.M.Machine.lawful c.args.machine.now c.find_name.new.machine c.args.manager.now c.args.pid.0 (λ p k. resolved p k c.args.dir c.args.path.now f) k
    (λ p is. stops_as g.M.Machine.held g.M.Machine.does g.M.Machine.stops g.met.M.Machine.lawful _ _ (resolved p K c.args.dir c.args.path.now f) (walked (without_root_parts (parts_of c.args.path.now)) K f)
    (resolved_walks p K c.args.dir c.args.path.now f some here) (c.find_name.ensures.stops f (with_managed c.args.manager.now k)))
