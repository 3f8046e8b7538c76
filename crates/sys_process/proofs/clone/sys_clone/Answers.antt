use Rattle.std.proofs.Common.{rules, ◌≡◌, ◌≤◌, ◌∙◌, ap, false, [], eqb, leb, length, not, ◌&&◌, arith}
use Rattle.rv64_step.specs.declared.cpu.Cpu.{Cpu}
use Rattle.rv64_step.specs.Meaning.{next_pc, with_reg}
use Rattle.linux_model.specs.Limits.{PROCESSES, SIGCHLD}
use Rattle.linux_model.specs.ProcessCalls.{clone_row}
use Rattle.linux_model.specs.State.{unbooted}
use Rattle.manager.proofs.Open.{found_alive}
use Rattle.call_machine.specs.declared.end.CallEnd.TheVariants.{Value}
use Rattle.call_machine.proofs.Rows.{ends_each, of_process, stops_each}
use Rattle.sys_process.proofs.Forking.{forks_ends, forks_stops, pid_low}
use Rattle.sys_process.proofs.clone.sys_clone.Goals as goal

pub copy_space-requires-clause-other : goal.copy_space-requires-clause-other
copy_space-requires-clause-other g c e =
    let q = found_alive c.args.manager.now.procs c.args.pid.0 c.requires.alive in
    let low : c.args.pid.0 ≤ c.args.manager.now.last = pid_low 0 c.args.manager.now.last c.args.pid.0 c.args.manager.now.procs q.p (c.requires.fit (unbooted [])).pids q.is in
    omega (arith, low, e, c.last.ensures)

pub returns-in_err-copy_space-clause-stops : goal.returns-in_err-copy_space-clause-stops
returns-in_err-copy_space-clause-stops g c k =
    let fair : (not (eqb c.args.flags SIGCHLD && eqb c.args.stack 0)) ≡ false = search rules in
    let few : leb PROCESSES (length c.args.manager.now.procs) ≡ false = search rules in
    stops_each g.M.Machine.held g.M.Machine.does g.M.Machine.stops g.met.M.Machine.lawful c.args.machine.now c.copy_space.new.self c.args.manager.now c.args.pid.0 (λ p k. clone_row p k c.args.flags c.args.stack) k (λ p is. forks_stops g.M.Machine.held g.M.Machine.does g.M.Machine.stops g.met.M.Machine.lawful c.args.pid.0 p is c.args.manager.now k c.args.flags c.args.stack fair few c.args.machine.now c.copy_space.new.self (search rules))

pub returns-in-Ok-clause-ends : goal.returns-in-Ok-clause-ends
returns-in-Ok-clause-ends g c k =
    let fair : (not (eqb c.args.flags SIGCHLD && eqb c.args.stack 0)) ≡ false = search rules in
    let few : leb PROCESSES (length c.args.manager.now.procs) ≡ false = search rules in
    ends_each g.M.Machine.held g.M.Machine.does g.M.Machine.stops g.met.M.Machine.lawful c.args.machine.now c.copy_space.new.self c.args.manager.now c.fork.new.self c.args.pid.0 (λ p k. clone_row p k c.args.flags c.args.stack) (Value c.from.result) k
    (λ p is there. forks_ends g.M.Machine.held g.M.Machine.does g.M.Machine.stops g.met.M.Machine.lawful c.args.pid.0 p is c.args.manager.now k c.args.flags c.args.stack fair few c.args.machine.now c.copy_space.new.self c.answered-cpu.result c.fork.new.self c.from.result (c.answered-cpu.ensures ∙ ap (λ (x : Cpu). with_reg x 10 0 (next_pc x)) (of_process c.args.manager.now c.args.pid.0 (λ p. c.cpu.result ≡ p.cpu) p there c.cpu.ensures)) (search rules) (search rules) (search rules))

pub returns-in-Ok-clause-stops : goal.returns-in-Ok-clause-stops
returns-in-Ok-clause-stops g c k =
    let fair : (not (eqb c.args.flags SIGCHLD && eqb c.args.stack 0)) ≡ false = search rules in
    let few : leb PROCESSES (length c.args.manager.now.procs) ≡ false = search rules in
    stops_each g.M.Machine.held g.M.Machine.does g.M.Machine.stops g.met.M.Machine.lawful c.args.machine.now c.copy_space.new.self c.args.manager.now c.args.pid.0 (λ p k. clone_row p k c.args.flags c.args.stack) k (λ p is. forks_stops g.M.Machine.held g.M.Machine.does g.M.Machine.stops g.met.M.Machine.lawful c.args.pid.0 p is c.args.manager.now k c.args.flags c.args.stack fair few c.args.machine.now c.copy_space.new.self (search rules))

pub returns-in-Err-NoMemory-clause-stops : goal.returns-in-Err-NoMemory-clause-stops
returns-in-Err-NoMemory-clause-stops g c k =
    let fair : (not (eqb c.args.flags SIGCHLD && eqb c.args.stack 0)) ≡ false = search rules in
    let few : leb PROCESSES (length c.args.manager.now.procs) ≡ false = search rules in
    stops_each g.M.Machine.held g.M.Machine.does g.M.Machine.stops g.met.M.Machine.lawful c.args.machine.now c.copy_space.new.self c.args.manager.now c.args.pid.0 (λ p k. clone_row p k c.args.flags c.args.stack) k (λ p is. forks_stops g.M.Machine.held g.M.Machine.does g.M.Machine.stops g.met.M.Machine.lawful c.args.pid.0 p is c.args.manager.now k c.args.flags c.args.stack fair few c.args.machine.now c.copy_space.new.self (search rules))
