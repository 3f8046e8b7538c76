use Rattle.std.proofs.Common.{◌≡◌, subst, sym, ◌∙◌, ap, Err, IfOk}
use Rattle.linux_model.specs.Held.{Held}
use Rattle.linux_model.specs.Limits.{EFAULT, ENAMETOOLONG}
use Rattle.linux_model.specs.Paths.{at_path, resolved}
use Rattle.call_machine.specs.Laws.{effects_of}
use Rattle.call_machine.specs.Lent.{kernel_of}
use Rattle.call_machine.proofs.Rows.{each_process, of_process, on_ok, stops_each}
use Rattle.sys_paths.specs.Reached.{IsNamed, Reached}
use Rattle.sys_paths.specs.declared.text.Text.TheVariants.{Whole}
use Rattle.sys_paths.proofs.Walking.{denied_leads, long_leads, text_still, text_stops, whole_leads, whole_stops}
use Rattle.sys_paths.proofs.walk.find_path.Goals as goal

pub returns-in_err-path-clause-stops : goal.returns-in_err-path-clause-stops
returns-in_err-path-clause-stops g c f k =
    stops_each g.M.Machine.held g.M.Machine.does g.M.Machine.stops g.met.M.Machine.lawful c.args.machine.now c.read_text.new.machine c.args.manager.now c.args.pid.0 (λ p k. at_path p k c.args.dir c.args.address f) k
    (λ p is. text_stops g.M.Machine.held g.M.Machine.does g.M.Machine.stops g.met.M.Machine.lawful c.args.pid.0 p is c.args.manager.now k c.args.dir c.args.address _ _ f c.read_text.ensures.stops)

pub returns-in-Whole-clause-leads : goal.returns-in-Whole-clause-leads
returns-in-Whole-clause-leads g c k =
    let whole : Whole c.as_slice.result.now ≡ _ = ap Whole c.as_slice.ensures ∙ sym c.in-Whole.is ∙ c.in_ok-path.ensures.text in
    let K = kernel_of c.args.manager.now (g.M.Machine.held c.args.machine.now) k in
    each_process c.args.manager.now c.args.pid.0 (λ p. IfOk c.find_resolved.result (Reached g.M.Machine.does c.args.machine.now c.find_resolved.new.machine (at_path p K c.args.dir c.args.address)))
    (λ p is there. whole_leads g.M.Machine.held g.M.Machine.does g.M.Machine.stops g.met.M.Machine.lawful c.args.pid.0 p is c.args.manager.now k c.args.dir c.args.address c.args.machine.now c.read_text.new.machine c.in_ok-path.ensures.does c.as_slice.result.now c.find_resolved.new.machine c.find_resolved.result whole
    (of_process c.args.manager.now c.args.pid.0 (λ p. IfOk c.find_resolved.result (Reached g.M.Machine.does c.read_text.new.machine c.find_resolved.new.machine (resolved p (kernel_of c.args.manager.now (g.M.Machine.held c.read_text.new.machine) k) c.args.dir c.as_slice.result.now))) p there (c.find_resolved.ensures.leads k)))

pub returns-in-Whole-clause-still : goal.returns-in-Whole-clause-still
returns-in-Whole-clause-still g c =
    on_ok _ _ c.find_resolved.result (λ e. e ∙ text_still g.M.Machine.held g.M.Machine.does g.M.Machine.stops g.met.M.Machine.lawful c.args.pid.0 c.args.address c.args.machine.now c.read_text.new.machine c.in_ok-path.ensures.does) c.find_resolved.ensures.still

pub returns-in-Whole-clause-stops : goal.returns-in-Whole-clause-stops
returns-in-Whole-clause-stops g c f k =
    let whole : Whole c.as_slice.result.now ≡ _ = ap Whole c.as_slice.ensures ∙ sym c.in-Whole.is ∙ c.in_ok-path.ensures.text in
    each_process c.args.manager.now c.args.pid.0 (λ p. g.M.Machine.stops c.args.machine.now c.find_resolved.new.machine (effects_of (at_path p (kernel_of c.args.manager.now (g.M.Machine.held c.args.machine.now) k) c.args.dir c.args.address f)))
    (λ p is there. whole_stops g.M.Machine.held g.M.Machine.does g.M.Machine.stops g.met.M.Machine.lawful c.args.pid.0 p is c.args.manager.now k c.args.dir c.args.address c.args.machine.now c.read_text.new.machine c.in_ok-path.ensures.does c.as_slice.result.now c.find_resolved.new.machine f whole
    (of_process c.args.manager.now c.args.pid.0 (λ p. g.M.Machine.stops c.read_text.new.machine c.find_resolved.new.machine (effects_of (resolved p (kernel_of c.args.manager.now (g.M.Machine.held c.read_text.new.machine) k) c.args.dir c.as_slice.result.now f))) p there (c.find_resolved.ensures.stops f k)))

pub returns-in-Denied-clause-leads : goal.returns-in-Denied-clause-leads
returns-in-Denied-clause-leads g c k =
    let told = sym c.in-Denied.is ∙ c.in_ok-path.ensures.text in
    each_process c.args.manager.now c.args.pid.0 (λ p. Reached g.M.Machine.does c.args.machine.now c.read_text.new.machine (at_path p (kernel_of c.args.manager.now (g.M.Machine.held c.args.machine.now) k) c.args.dir c.args.address) (Err EFAULT))
    (λ p is there. denied_leads g.M.Machine.held g.M.Machine.does g.M.Machine.stops g.met.M.Machine.lawful c.args.pid.0 p is c.args.manager.now k c.args.dir c.args.address c.args.machine.now c.read_text.new.machine c.in_ok-path.ensures.does told)

pub returns-in-Denied-clause-still : goal.returns-in-Denied-clause-still
returns-in-Denied-clause-still g c = text_still g.M.Machine.held g.M.Machine.does g.M.Machine.stops g.met.M.Machine.lawful c.args.pid.0 c.args.address c.args.machine.now c.read_text.new.machine c.in_ok-path.ensures.does

pub returns-in-Denied-clause-stops : goal.returns-in-Denied-clause-stops
returns-in-Denied-clause-stops g c f k =
    stops_each g.M.Machine.held g.M.Machine.does g.M.Machine.stops g.met.M.Machine.lawful c.args.machine.now c.read_text.new.machine c.args.manager.now c.args.pid.0 (λ p k. at_path p k c.args.dir c.args.address f) k
    (λ p is. text_stops g.M.Machine.held g.M.Machine.does g.M.Machine.stops g.met.M.Machine.lawful c.args.pid.0 p is c.args.manager.now k c.args.dir c.args.address _ _ f c.read_text.ensures.stops)

pub returns-in-Long-clause-leads : goal.returns-in-Long-clause-leads
returns-in-Long-clause-leads g c k =
    let told = sym c.in-Long.is ∙ c.in_ok-path.ensures.text in
    each_process c.args.manager.now c.args.pid.0 (λ p. Reached g.M.Machine.does c.args.machine.now c.read_text.new.machine (at_path p (kernel_of c.args.manager.now (g.M.Machine.held c.args.machine.now) k) c.args.dir c.args.address) (Err ENAMETOOLONG))
    (λ p is there. long_leads g.M.Machine.held g.M.Machine.does g.M.Machine.stops g.met.M.Machine.lawful c.args.pid.0 p is c.args.manager.now k c.args.dir c.args.address c.args.machine.now c.read_text.new.machine c.in_ok-path.ensures.does told)

pub returns-in-Long-clause-still : goal.returns-in-Long-clause-still
returns-in-Long-clause-still g c = text_still g.M.Machine.held g.M.Machine.does g.M.Machine.stops g.met.M.Machine.lawful c.args.pid.0 c.args.address c.args.machine.now c.read_text.new.machine c.in_ok-path.ensures.does

pub returns-in-Long-clause-stops : goal.returns-in-Long-clause-stops
returns-in-Long-clause-stops g c f k =
    stops_each g.M.Machine.held g.M.Machine.does g.M.Machine.stops g.met.M.Machine.lawful c.args.machine.now c.read_text.new.machine c.args.manager.now c.args.pid.0 (λ p k. at_path p k c.args.dir c.args.address f) k
    (λ p is. text_stops g.M.Machine.held g.M.Machine.does g.M.Machine.stops g.met.M.Machine.lawful c.args.pid.0 p is c.args.manager.now k c.args.dir c.args.address _ _ f c.read_text.ensures.stops)

pub returns-in-Whole-clause-named : goal.returns-in-Whole-clause-named
returns-in-Whole-clause-named g c =
    subst (λ (h : Held). IfOk c.find_resolved.result (λ end. IfOk end (IsNamed h.names))) (text_still g.M.Machine.held g.M.Machine.does g.M.Machine.stops g.met.M.Machine.lawful c.args.pid.0 c.args.address c.args.machine.now c.read_text.new.machine c.in_ok-path.ensures.does) c.find_resolved.ensures.named
