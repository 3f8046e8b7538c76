use Rattle.std.proofs.Common.{rules, ◌≡◌, [], Some}
use Rattle.linux_model.specs.ProcessCalls.{executes_found}
use Rattle.linux_model.specs.State.{unbooted}
use Rattle.call_machine.specs.Lent.{kernel_of}
use Rattle.call_machine.proofs.Rows.{ends_handed, stops_handed}
use Rattle.sys_paths.specs.Reached.{found_of}
use Rattle.sys_paths.specs.declared.walk.Found.TheVariants.{Named as ToName}
use Rattle.sys_process.specs.Exec.{file_row}
use Rattle.sys_process.proofs.Executing.{name_there}
use Rattle.sys_process.proofs.exec.exec_found.Goals as goal

pub exec_file-requires-clause-there : goal.exec_file-requires-clause-there
exec_file-requires-clause-there g c =
    let is : c.args.found ≡ ToName c.in-Named-default-Some.field-0 (Some c.in-Named-default-Some.file) = search rules in
    name_there (g.M.Machine.held c.args.machine.now) c.args.found c.in-Named-default-Some.field-0 c.in-Named-default-Some.file is c.requires.named (c.requires.fit (unbooted [])).names_fit

pub returns-clause-ends : goal.returns-clause-ends
returns-clause-ends g c k =
    let is : c.args.found ≡ ToName c.in-Named-default-Some.field-0 (Some c.in-Named-default-Some.file) = search rules in
    ends_handed g.M.Machine.held g.M.Machine.does g.M.Machine.stops g.met.M.Machine.lawful c.args.machine.now c.exec_file.new.machine c.args.manager.now c.exec_file.new.manager c.args.pid.0 (λ p k. executes_found p k c.args.args.now c.args.env.now (found_of c.args.found)) (file_row c.args.args.now c.args.env.now c.in-Named-default-Some.file.0) c.exec_file.result k
    (λ p own there i. executes_found p (kernel_of c.args.manager.now (g.M.Machine.held c.args.machine.now) k) c.args.args.now c.args.env.now (found_of (is i))) (c.exec_file.ensures.ends k)

pub returns-clause-stops : goal.returns-clause-stops
returns-clause-stops g c k =
    let is : c.args.found ≡ ToName c.in-Named-default-Some.field-0 (Some c.in-Named-default-Some.file) = search rules in
    stops_handed g.M.Machine.held g.M.Machine.does g.M.Machine.stops g.met.M.Machine.lawful c.args.machine.now c.exec_file.new.machine c.args.manager.now c.args.pid.0 (λ p k. executes_found p k c.args.args.now c.args.env.now (found_of c.args.found)) (file_row c.args.args.now c.args.env.now c.in-Named-default-Some.file.0) k
    (λ p own there i. executes_found p (kernel_of c.args.manager.now (g.M.Machine.held c.args.machine.now) k) c.args.args.now c.args.env.now (found_of (is i))) (c.exec_file.ensures.stops k)
