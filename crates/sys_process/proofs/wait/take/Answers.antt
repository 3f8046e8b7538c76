use Rattle.std.proofs.Common.{rules, ◌∙◌, refl, Some}
use Rattle.linux_model.specs.Buffers.{where_good}
use Rattle.linux_model.specs.Limits.{EFAULT}
use Rattle.linux_model.specs.ProcessCalls.{reaps, status_buffer}
use Rattle.call_machine.specs.declared.end.CallEnd.TheVariants.{Value}
use Rattle.call_machine.proofs.Rows.{ends_each, stops_each}
use Rattle.sys_process.proofs.Waiting.{asked_stops, bad_ends, takes_ends, takes_stops}
use Rattle.sys_process.proofs.wait.take.Goals as goal

pub returns-in_err-is_good-clause-stops : goal.returns-in_err-is_good-clause-stops
returns-in_err-is_good-clause-stops g c k =
    stops_each g.M.Machine.held g.M.Machine.does g.M.Machine.stops g.met.M.Machine.lawful c.args.machine.now c.is_good.new.machine c.args.manager.now c.args.pid.0 (λ p k. where_good p k 2 (status_buffer c.args.address) (reaps p c.args.address 0 (Some (record { pid = c.args.child.0; status = c.args.status })))) k
    (λ p is. asked_stops g.M.Machine.held g.M.Machine.does g.M.Machine.stops g.met.M.Machine.lawful c.args.pid.0 p is c.args.manager.now k c.args.address c.args.machine.now (reaps p c.args.address 0 (Some (record { pid = c.args.child.0; status = c.args.status }))) c.is_good.new.machine c.is_good.ensures.stops)

pub returns-then-not-branch-clause-ends : goal.returns-then-not-branch-clause-ends
returns-then-not-branch-clause-ends g c k =
    ends_each g.M.Machine.held g.M.Machine.does g.M.Machine.stops g.met.M.Machine.lawful c.args.machine.now c.is_good.new.machine c.args.manager.now c.args.manager.now c.args.pid.0 (λ p k. where_good p k 2 (status_buffer c.args.address) (reaps p c.args.address 0 (Some (record { pid = c.args.child.0; status = c.args.status })))) (Value EFAULT) k
    (λ p is there. bad_ends g.M.Machine.held g.M.Machine.does g.M.Machine.stops g.met.M.Machine.lawful c.args.pid.0 p is c.args.manager.now k c.args.address c.args.machine.now (reaps p c.args.address 0 (Some (record { pid = c.args.child.0; status = c.args.status }))) c.is_good.new.machine c.in_ok-is_good.ensures.does (search rules))

pub returns-then-not-branch-clause-stops : goal.returns-then-not-branch-clause-stops
returns-then-not-branch-clause-stops g c k =
    stops_each g.M.Machine.held g.M.Machine.does g.M.Machine.stops g.met.M.Machine.lawful c.args.machine.now c.is_good.new.machine c.args.manager.now c.args.pid.0 (λ p k. where_good p k 2 (status_buffer c.args.address) (reaps p c.args.address 0 (Some (record { pid = c.args.child.0; status = c.args.status })))) k
    (λ p is. asked_stops g.M.Machine.held g.M.Machine.does g.M.Machine.stops g.met.M.Machine.lawful c.args.pid.0 p is c.args.manager.now k c.args.address c.args.machine.now (reaps p c.args.address 0 (Some (record { pid = c.args.child.0; status = c.args.status }))) c.is_good.new.machine c.is_good.ensures.stops)

pub returns-in_err-put_status-clause-stops : goal.returns-in_err-put_status-clause-stops
returns-in_err-put_status-clause-stops g c k =
    stops_each g.M.Machine.held g.M.Machine.does g.M.Machine.stops g.met.M.Machine.lawful c.args.machine.now c.put_status.new.machine c.args.manager.now c.args.pid.0 (λ p k. where_good p k 2 (status_buffer c.args.address) (reaps p c.args.address 0 (Some (record { pid = c.args.child.0; status = c.args.status })))) k
    (λ p is. takes_stops g.M.Machine.held g.M.Machine.does g.M.Machine.stops g.met.M.Machine.lawful c.args.pid.0 p is c.args.manager.now k c.args.address c.args.machine.now (reaps p c.args.address 0 (Some (record { pid = c.args.child.0; status = c.args.status }))) c.is_good.new.machine c.in_ok-is_good.ensures.does c.args.child.0 c.args.status (search rules) refl c.put_status.new.machine c.put_status.ensures.stops)

pub returns-clause-ends : goal.returns-clause-ends
returns-clause-ends g c k =
    ends_each g.M.Machine.held g.M.Machine.does g.M.Machine.stops g.met.M.Machine.lawful c.args.machine.now c.put_status.new.machine c.args.manager.now c.reap_child.new.manager c.args.pid.0 (λ p k. where_good p k 2 (status_buffer c.args.address) (reaps p c.args.address 0 (Some (record { pid = c.args.child.0; status = c.args.status })))) (Value c.from.result) k
    (λ p is there. takes_ends g.M.Machine.held g.M.Machine.does g.M.Machine.stops g.met.M.Machine.lawful c.args.pid.0 p is c.args.manager.now k c.args.address c.args.machine.now (reaps p c.args.address 0 (Some (record { pid = c.args.child.0; status = c.args.status }))) c.is_good.new.machine c.in_ok-is_good.ensures.does c.args.child.0 c.args.status (search rules) refl c.put_status.new.machine c.reap_child.new.manager c.reap_child.result c.from.result (search rules) c.in_ok-put_status.ensures.does (c.reap_child.ensures.found ∙ c.requires.found) c.reap_child.ensures.gone)

pub returns-clause-stops : goal.returns-clause-stops
returns-clause-stops g c k =
    stops_each g.M.Machine.held g.M.Machine.does g.M.Machine.stops g.met.M.Machine.lawful c.args.machine.now c.put_status.new.machine c.args.manager.now c.args.pid.0 (λ p k. where_good p k 2 (status_buffer c.args.address) (reaps p c.args.address 0 (Some (record { pid = c.args.child.0; status = c.args.status })))) k
    (λ p is. takes_stops g.M.Machine.held g.M.Machine.does g.M.Machine.stops g.met.M.Machine.lawful c.args.pid.0 p is c.args.manager.now k c.args.address c.args.machine.now (reaps p c.args.address 0 (Some (record { pid = c.args.child.0; status = c.args.status }))) c.is_good.new.machine c.in_ok-is_good.ensures.does c.args.child.0 c.args.status (search rules) refl c.put_status.new.machine c.put_status.ensures.stops)
