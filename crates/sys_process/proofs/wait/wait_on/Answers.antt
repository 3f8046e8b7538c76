use Rattle.std.proofs.Common.{rules, ◌≡◌, ap, true, false, eqb, cond, Bool, [], None}
use Rattle.linux_model.specs.Buffers.{where_good}
use Rattle.linux_model.specs.Called.{Waits, says}
use Rattle.linux_model.specs.ProcessCalls.{reaps, status_buffer}
use Rattle.call_machine.specs.declared.end.CallEnd.TheVariants.{Value, Waits as Waiting}
use Rattle.call_machine.proofs.Rows.{ends_each, stops_each}
use Rattle.linux_model.specs.Limits.{EFAULT}
use Rattle.sys_process.proofs.Waiting.{asked_stops, bad_ends, says_ends, waits_ends}
use Rattle.sys_process.proofs.wait.wait_on.Goals as goal

pub returns-in_err-is_good-clause-stops : goal.returns-in_err-is_good-clause-stops
returns-in_err-is_good-clause-stops g c man k =
    stops_each g.M.Machine.held g.M.Machine.does g.M.Machine.stops g.met.M.Machine.lawful c.args.machine.now c.is_good.new.machine man c.args.pid.0 (λ p k. where_good p k 2 (status_buffer c.args.address) (reaps p c.args.address c.args.options None)) k
    (λ p is. asked_stops g.M.Machine.held g.M.Machine.does g.M.Machine.stops g.met.M.Machine.lawful c.args.pid.0 p is man k c.args.address c.args.machine.now (reaps p c.args.address c.args.options None) c.is_good.new.machine c.is_good.ensures.stops)

pub returns-then-not-branch-clause-ends : goal.returns-then-not-branch-clause-ends
returns-then-not-branch-clause-ends g c man k =
    ends_each g.M.Machine.held g.M.Machine.does g.M.Machine.stops g.met.M.Machine.lawful c.args.machine.now c.is_good.new.machine man man c.args.pid.0 (λ p k. where_good p k 2 (status_buffer c.args.address) (reaps p c.args.address c.args.options None)) (Value EFAULT) k
    (λ p is there. bad_ends g.M.Machine.held g.M.Machine.does g.M.Machine.stops g.met.M.Machine.lawful c.args.pid.0 p is man k c.args.address c.args.machine.now (reaps p c.args.address c.args.options None) c.is_good.new.machine c.in_ok-is_good.ensures.does (search rules))

pub returns-then-not-branch-clause-stops : goal.returns-then-not-branch-clause-stops
returns-then-not-branch-clause-stops g c man k =
    stops_each g.M.Machine.held g.M.Machine.does g.M.Machine.stops g.met.M.Machine.lawful c.args.machine.now c.is_good.new.machine man c.args.pid.0 (λ p k. where_good p k 2 (status_buffer c.args.address) (reaps p c.args.address c.args.options None)) k
    (λ p is. asked_stops g.M.Machine.held g.M.Machine.does g.M.Machine.stops g.met.M.Machine.lawful c.args.pid.0 p is man k c.args.address c.args.machine.now (reaps p c.args.address c.args.options None) c.is_good.new.machine c.is_good.ensures.stops)

pub returns-then-options-eq-WNOHANG-clause-ends : goal.returns-then-options-eq-WNOHANG-clause-ends
returns-then-options-eq-WNOHANG-clause-ends g c man k =
    let test : eqb c.args.options 1 ≡ true = search rules in
    ends_each g.M.Machine.held g.M.Machine.does g.M.Machine.stops g.met.M.Machine.lawful c.args.machine.now c.is_good.new.machine man man c.args.pid.0 (λ p k. where_good p k 2 (status_buffer c.args.address) (reaps p c.args.address c.args.options None)) (Value 0) k
    (λ p is there. says_ends g.M.Machine.held g.M.Machine.does g.M.Machine.stops g.met.M.Machine.lawful c.args.pid.0 p is man k c.args.address c.args.machine.now (reaps p c.args.address c.args.options None) c.is_good.new.machine c.in_ok-is_good.ensures.does 0 (search rules) (ap (λ (b : Bool). cond b (says 0) (Waits [] 0 0)) test))

pub returns-then-options-eq-WNOHANG-clause-stops : goal.returns-then-options-eq-WNOHANG-clause-stops
returns-then-options-eq-WNOHANG-clause-stops g c man k =
    stops_each g.M.Machine.held g.M.Machine.does g.M.Machine.stops g.met.M.Machine.lawful c.args.machine.now c.is_good.new.machine man c.args.pid.0 (λ p k. where_good p k 2 (status_buffer c.args.address) (reaps p c.args.address c.args.options None)) k
    (λ p is. asked_stops g.M.Machine.held g.M.Machine.does g.M.Machine.stops g.met.M.Machine.lawful c.args.pid.0 p is man k c.args.address c.args.machine.now (reaps p c.args.address c.args.options None) c.is_good.new.machine c.is_good.ensures.stops)

pub returns-clause-ends : goal.returns-clause-ends
returns-clause-ends g c man k =
    let test : eqb c.args.options 1 ≡ false = search rules in
    ends_each g.M.Machine.held g.M.Machine.does g.M.Machine.stops g.met.M.Machine.lawful c.args.machine.now c.is_good.new.machine man man c.args.pid.0 (λ p k. where_good p k 2 (status_buffer c.args.address) (reaps p c.args.address c.args.options None)) (Waiting (record { moved = 0; len = 0 })) k
    (λ p is there. waits_ends g.M.Machine.held g.M.Machine.does g.M.Machine.stops g.met.M.Machine.lawful c.args.pid.0 p is man k c.args.address c.args.machine.now (reaps p c.args.address c.args.options None) c.is_good.new.machine c.in_ok-is_good.ensures.does (search rules) (ap (λ (b : Bool). cond b (says 0) (Waits [] 0 0)) test))

pub returns-clause-stops : goal.returns-clause-stops
returns-clause-stops g c man k =
    stops_each g.M.Machine.held g.M.Machine.does g.M.Machine.stops g.met.M.Machine.lawful c.args.machine.now c.is_good.new.machine man c.args.pid.0 (λ p k. where_good p k 2 (status_buffer c.args.address) (reaps p c.args.address c.args.options None)) k
    (λ p is. asked_stops g.M.Machine.held g.M.Machine.does g.M.Machine.stops g.met.M.Machine.lawful c.args.pid.0 p is man k c.args.address c.args.machine.now (reaps p c.args.address c.args.options None) c.is_good.new.machine c.is_good.ensures.stops)
