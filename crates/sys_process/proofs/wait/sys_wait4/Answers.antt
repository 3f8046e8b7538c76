use Rattle.std.proofs.Common.{rules, ◌≡◌, sym, ◌∙◌, refl, false, [], Some, None, eqb, ltb, not, ◌||◌, ◌&&◌}
use Rattle.linux_model.specs.Buffers.{where_good}
use Rattle.linux_model.specs.Limits.{ANY, ECHILD, is_negative}
use Rattle.linux_model.specs.ProcessCalls.{reaps, status_buffer, wait4_row}
use Rattle.call_machine.specs.declared.end.CallEnd.TheVariants.{Value}
use Rattle.call_machine.specs.Lent.{kernel_of}
use Rattle.call_machine.proofs.Rows.{ends_each, ends_handed, stops_at_once, stops_each, stops_handed}
use Rattle.sys_process.proofs.Waiting.{a_child, no_child, not_yet}
use Rattle.sys_process.proofs.wait.sys_wait4.Goals as goal

pub returns-in-NoChild-clause-ends : goal.returns-in-NoChild-clause-ends
returns-in-NoChild-clause-ends g c k =
    let fair : (ltb 1 c.args.options || not (eqb c.args.usage 0) || eqb c.args.want 0 || is_negative c.args.want && not (eqb c.args.want ANY)) ≡ false = search rules in
    ends_each g.M.Machine.held g.M.Machine.does g.M.Machine.stops g.met.M.Machine.lawful c.args.machine.now c.args.machine.now c.args.manager.now c.args.manager.now c.args.pid.0 (λ p k. wait4_row p k c.args.want c.args.address c.args.options c.args.usage) (Value ECHILD) k
    (λ p is there. record { effects = []; row_is = no_child p (kernel_of c.args.manager.now (g.M.Machine.held c.args.machine.now) k) c.args.want c.args.address c.args.options c.args.usage c.args.pid.0 is fair (sym c.find_child.ensures ∙ c.in-NoChild.is); did = g.met.M.Machine.lawful.none _; managed = refl })

pub returns-in-NoChild-clause-stops : goal.returns-in-NoChild-clause-stops
returns-in-NoChild-clause-stops g c k =
    stops_each g.M.Machine.held g.M.Machine.does g.M.Machine.stops g.met.M.Machine.lawful c.args.machine.now c.args.machine.now c.args.manager.now c.args.pid.0 (λ p k. wait4_row p k c.args.want c.args.address c.args.options c.args.usage) k (λ p is. stops_at_once g.M.Machine.held g.M.Machine.does g.M.Machine.stops g.met.M.Machine.lawful c.args.machine.now (wait4_row p (kernel_of c.args.manager.now (g.M.Machine.held c.args.machine.now) k) c.args.want c.args.address c.args.options c.args.usage))

pub returns-in-NotYet-clause-ends : goal.returns-in-NotYet-clause-ends
returns-in-NotYet-clause-ends g c k =
    let fair : (ltb 1 c.args.options || not (eqb c.args.usage 0) || eqb c.args.want 0 || is_negative c.args.want && not (eqb c.args.want ANY)) ≡ false = search rules in
    ends_handed g.M.Machine.held g.M.Machine.does g.M.Machine.stops g.met.M.Machine.lawful c.args.machine.now c.wait_on.new.machine c.args.manager.now c.args.manager.now c.args.pid.0 (λ p k. wait4_row p k c.args.want c.args.address c.args.options c.args.usage) (λ p k. where_good p k 2 (status_buffer c.args.address) (reaps p c.args.address c.args.options None)) c.wait_on.result k
    (λ p is there. not_yet p (kernel_of c.args.manager.now (g.M.Machine.held c.args.machine.now) k) c.args.want c.args.address c.args.options c.args.usage c.args.pid.0 is fair (sym c.find_child.ensures ∙ c.in-NotYet.is)) (c.wait_on.ensures.ends c.args.manager.now k)

pub returns-in-NotYet-clause-stops : goal.returns-in-NotYet-clause-stops
returns-in-NotYet-clause-stops g c k =
    let fair : (ltb 1 c.args.options || not (eqb c.args.usage 0) || eqb c.args.want 0 || is_negative c.args.want && not (eqb c.args.want ANY)) ≡ false = search rules in
    stops_handed g.M.Machine.held g.M.Machine.does g.M.Machine.stops g.met.M.Machine.lawful c.args.machine.now c.wait_on.new.machine c.args.manager.now c.args.pid.0 (λ p k. wait4_row p k c.args.want c.args.address c.args.options c.args.usage) (λ p k. where_good p k 2 (status_buffer c.args.address) (reaps p c.args.address c.args.options None)) k
    (λ p is there. not_yet p (kernel_of c.args.manager.now (g.M.Machine.held c.args.machine.now) k) c.args.want c.args.address c.args.options c.args.usage c.args.pid.0 is fair (sym c.find_child.ensures ∙ c.in-NotYet.is)) (c.wait_on.ensures.stops c.args.manager.now k)

pub returns-in-Child-clause-ends : goal.returns-in-Child-clause-ends
returns-in-Child-clause-ends g c k =
    let fair : (ltb 1 c.args.options || not (eqb c.args.usage 0) || eqb c.args.want 0 || is_negative c.args.want && not (eqb c.args.want ANY)) ≡ false = search rules in
    ends_handed g.M.Machine.held g.M.Machine.does g.M.Machine.stops g.met.M.Machine.lawful c.args.machine.now c.take.new.machine c.args.manager.now c.take.new.manager c.args.pid.0 (λ p k. wait4_row p k c.args.want c.args.address c.args.options c.args.usage) (λ p k. where_good p k 2 (status_buffer c.args.address) (reaps p c.args.address 0 (Some (record { pid = c.in-Child.child.0; status = c.in-Child.status })))) c.take.result k
    (λ p is there. a_child p (kernel_of c.args.manager.now (g.M.Machine.held c.args.machine.now) k) c.args.want c.args.address c.args.options c.args.usage c.args.pid.0 is fair c.in-Child.child.0 c.in-Child.status (sym c.find_child.ensures ∙ c.in-Child.is)) (c.take.ensures.ends k)

pub returns-in-Child-clause-stops : goal.returns-in-Child-clause-stops
returns-in-Child-clause-stops g c k =
    let fair : (ltb 1 c.args.options || not (eqb c.args.usage 0) || eqb c.args.want 0 || is_negative c.args.want && not (eqb c.args.want ANY)) ≡ false = search rules in
    stops_handed g.M.Machine.held g.M.Machine.does g.M.Machine.stops g.met.M.Machine.lawful c.args.machine.now c.take.new.machine c.args.manager.now c.args.pid.0 (λ p k. wait4_row p k c.args.want c.args.address c.args.options c.args.usage) (λ p k. where_good p k 2 (status_buffer c.args.address) (reaps p c.args.address 0 (Some (record { pid = c.in-Child.child.0; status = c.in-Child.status })))) k
    (λ p is there. a_child p (kernel_of c.args.manager.now (g.M.Machine.held c.args.machine.now) k) c.args.want c.args.address c.args.options c.args.usage c.args.pid.0 is fair c.in-Child.child.0 c.in-Child.status (sym c.find_child.ensures ∙ c.in-Child.is)) (c.take.ensures.stops k)
