use Rattle.std.proofs.Common.{rules}
use Rattle.linux_model.specs.FileCalls.{unlinkat_row, unlinked}
use Rattle.call_machine.specs.Lent.{kernel_of}
use Rattle.sys_files.proofs.Naming.{path_answers, path_refused, path_stops, path_stops_then, unlinkat_is}
use Rattle.sys_files.proofs.names.sys_unlinkat.Goals as goal

pub returns-in_err-found-clause-stops : goal.returns-in_err-found-clause-stops
returns-in_err-found-clause-stops g c k =
    path_stops g.M.Machine.held g.M.Machine.does g.M.Machine.stops g.met.M.Machine.lawful c.args.machine.now c.find_path.new.machine c.args.man.now c.args.pid.0 c.args.dir c.args.path k (λ p k. unlinkat_row p k c.args.dir c.args.path c.args.flags) (λ p k found. unlinked k found) (λ p. unlinkat_is p (kernel_of c.args.man.now (g.M.Machine.held c.args.machine.now) k) c.args.dir c.args.path c.args.flags (search rules)) (λ f. c.find_path.ensures.stops f k)

pub returns-in-Ok-clause-answers : goal.returns-in-Ok-clause-answers
returns-in-Ok-clause-answers g c k =
    path_answers g.M.Machine.held g.M.Machine.does g.M.Machine.stops g.met.M.Machine.lawful c.args.machine.now c.find_path.new.machine c.args.man.now c.args.pid.0 c.args.dir c.args.path k (λ p k. unlinkat_row p k c.args.dir c.args.path c.args.flags) (λ p k found. unlinked k found) (λ p. unlinkat_is p (kernel_of c.args.man.now (g.M.Machine.held c.args.machine.now) k) c.args.dir c.args.path c.args.flags (search rules)) c.in_ok-found.field-0 (c.in_ok-found.ensures.leads k) c.unlink_found.new.machine c.args.man.now c.in-Ok.found c.unlink_found.result c.in-Ok.is c.in_ok-found.ensures.still (c.unlink_found.ensures.answers c.args.pid.0 k)

pub returns-in-Ok-clause-stops : goal.returns-in-Ok-clause-stops
returns-in-Ok-clause-stops g c k =
    path_stops_then g.M.Machine.held g.M.Machine.does g.M.Machine.stops g.met.M.Machine.lawful c.args.machine.now c.find_path.new.machine c.args.man.now c.args.pid.0 c.args.dir c.args.path k (λ p k. unlinkat_row p k c.args.dir c.args.path c.args.flags) (λ p k found. unlinked k found) (λ p. unlinkat_is p (kernel_of c.args.man.now (g.M.Machine.held c.args.machine.now) k) c.args.dir c.args.path c.args.flags (search rules)) c.in_ok-found.field-0 (c.in_ok-found.ensures.leads k) c.unlink_found.new.machine c.in-Ok.found c.in-Ok.is c.in_ok-found.ensures.still (c.unlink_found.ensures.stops c.args.pid.0 k)

pub returns-in-Err-clause-answers : goal.returns-in-Err-clause-answers
returns-in-Err-clause-answers g c k =
    path_refused g.M.Machine.held g.M.Machine.does g.M.Machine.stops g.met.M.Machine.lawful c.args.machine.now c.find_path.new.machine c.args.man.now c.args.pid.0 c.args.dir c.args.path k (λ p k. unlinkat_row p k c.args.dir c.args.path c.args.flags) (λ p k found. unlinked k found) (λ p. unlinkat_is p (kernel_of c.args.man.now (g.M.Machine.held c.args.machine.now) k) c.args.dir c.args.path c.args.flags (search rules)) c.in_ok-found.field-0 (c.in_ok-found.ensures.leads k) c.in-Err.errno c.in-Err.is

pub returns-in-Err-clause-stops : goal.returns-in-Err-clause-stops
returns-in-Err-clause-stops g c k =
    path_stops g.M.Machine.held g.M.Machine.does g.M.Machine.stops g.met.M.Machine.lawful c.args.machine.now c.find_path.new.machine c.args.man.now c.args.pid.0 c.args.dir c.args.path k (λ p k. unlinkat_row p k c.args.dir c.args.path c.args.flags) (λ p k found. unlinked k found) (λ p. unlinkat_is p (kernel_of c.args.man.now (g.M.Machine.held c.args.machine.now) k) c.args.dir c.args.path c.args.flags (search rules)) (λ f. c.find_path.ensures.stops f k)
