use Rattle.std.proofs.Common.{sym, ◌∙◌, ap, subst, ℕ, IfOk, Result}
use Rattle.linux_model.specs.Called.{following}
use Rattle.linux_model.specs.Held.{Held}
use Rattle.linux_model.specs.Limits.{AT_FDCWD}
use Rattle.linux_model.specs.Paths.{at_path}
use Rattle.linux_model.specs.ProcessCalls.{execve_row}
use Rattle.call_machine.specs.declared.end.CallEnd.TheVariants.{Value}
use Rattle.call_machine.specs.Laws.{effects_of}
use Rattle.call_machine.specs.Lent.{Ran, ended, kernel_of, FitTogether}
use Rattle.call_machine.proofs.Rows.{each_process, ends_each, of_process, ran_asked, ran_following, stops_following}
use Rattle.sys_paths.specs.Reached.{found_of, then_of, Reached}
use Rattle.sys_paths.specs.declared.walk.Found.{Found as Place}
use Rattle.sys_process.specs.Exec.{lists_row}
use Rattle.sys_process.proofs.exec.sys_execve.Goals as goal

pub returns-in_err-found-clause-stops : goal.returns-in_err-found-clause-stops
returns-in_err-found-clause-stops g c k =
    each_process c.args.manager.now c.args.pid.0 (λ p. g.M.Machine.stops c.args.machine.now c.find_path.new.machine (effects_of (execve_row p (kernel_of c.args.manager.now (g.M.Machine.held c.args.machine.now) k) c.args.path c.args.args c.args.env)))
    (λ p is there. of_process c.args.manager.now c.args.pid.0 (λ q. g.M.Machine.stops c.args.machine.now c.find_path.new.machine (effects_of (at_path q (kernel_of c.args.manager.now (g.M.Machine.held c.args.machine.now) k) AT_FDCWD c.args.path (λ found. lists_row c.args.args c.args.env found p (kernel_of c.args.manager.now (g.M.Machine.held c.args.machine.now) k))))) p there (c.find_path.ensures.stops (λ found. lists_row c.args.args c.args.env found p (kernel_of c.args.manager.now (g.M.Machine.held c.args.machine.now) k)) k))

pub exec_lists-requires-clause-fit : goal.exec_lists-requires-clause-fit
exec_lists-requires-clause-fit g c =
    subst (λ (h : Held). FitTogether c.args.manager.now h) (sym c.in_ok-found.ensures.still) c.requires.fit

pub returns-in-Ok-clause-ends : goal.returns-in-Ok-clause-ends
returns-in-Ok-clause-ends g c k =
    each_process c.args.manager.now c.args.pid.0 (λ p. IfOk c.exec_lists.result (λ end. Ran g.M.Machine.does c.args.machine.now c.exec_lists.new.machine c.args.manager.now c.exec_lists.new.manager (execve_row p (kernel_of c.args.manager.now (g.M.Machine.held c.args.machine.now) k) c.args.path c.args.args c.args.env) (ended end)))
    (λ p is there.
    let r = of_process c.args.manager.now c.args.pid.0 (λ q. Reached g.M.Machine.does c.args.machine.now c.find_path.new.machine (at_path q (kernel_of c.args.manager.now (g.M.Machine.held c.args.machine.now) k) AT_FDCWD c.args.path) c.in_ok-found.field-0) p there (c.in_ok-found.ensures.leads k) in
    ran_following g.M.Machine.held g.M.Machine.does g.M.Machine.stops g.met.M.Machine.lawful c.args.machine.now c.find_path.new.machine c.exec_lists.new.machine c.args.manager.now c.exec_lists.new.manager r.effects (execve_row p (kernel_of c.args.manager.now (g.M.Machine.held c.args.machine.now) k) c.args.path c.args.args c.args.env) (lists_row c.args.args c.args.env (found_of c.in-Ok.found) p (kernel_of c.args.manager.now (g.M.Machine.held c.args.machine.now) k)) c.exec_lists.result r.still r.did (r.row_is (λ found. lists_row c.args.args c.args.env found p (kernel_of c.args.manager.now (g.M.Machine.held c.args.machine.now) k)) ∙ ap (λ (o : Result Place ℕ). following r.effects (then_of o (λ found. lists_row c.args.args c.args.env found p (kernel_of c.args.manager.now (g.M.Machine.held c.args.machine.now) k)))) c.in-Ok.is)
    (subst (λ (h : Held). IfOk c.exec_lists.result (λ end. Ran g.M.Machine.does c.find_path.new.machine c.exec_lists.new.machine c.args.manager.now c.exec_lists.new.manager (lists_row c.args.args c.args.env (found_of c.in-Ok.found) p (kernel_of c.args.manager.now h k)) (ended end))) c.in_ok-found.ensures.still (of_process c.args.manager.now c.args.pid.0 (λ q. IfOk c.exec_lists.result (λ end. Ran g.M.Machine.does c.find_path.new.machine c.exec_lists.new.machine c.args.manager.now c.exec_lists.new.manager (lists_row c.args.args c.args.env (found_of c.in-Ok.found) q (kernel_of c.args.manager.now (g.M.Machine.held c.find_path.new.machine) k)) (ended end))) p there (c.exec_lists.ensures.ends k))))

pub returns-in-Ok-clause-stops : goal.returns-in-Ok-clause-stops
returns-in-Ok-clause-stops g c k =
    each_process c.args.manager.now c.args.pid.0 (λ p. g.M.Machine.stops c.args.machine.now c.exec_lists.new.machine (effects_of (execve_row p (kernel_of c.args.manager.now (g.M.Machine.held c.args.machine.now) k) c.args.path c.args.args c.args.env)))
    (λ p is there.
    let r = of_process c.args.manager.now c.args.pid.0 (λ q. Reached g.M.Machine.does c.args.machine.now c.find_path.new.machine (at_path q (kernel_of c.args.manager.now (g.M.Machine.held c.args.machine.now) k) AT_FDCWD c.args.path) c.in_ok-found.field-0) p there (c.in_ok-found.ensures.leads k) in
    stops_following g.M.Machine.held g.M.Machine.does g.M.Machine.stops g.met.M.Machine.lawful c.args.machine.now c.find_path.new.machine c.exec_lists.new.machine r.effects (execve_row p (kernel_of c.args.manager.now (g.M.Machine.held c.args.machine.now) k) c.args.path c.args.args c.args.env) (lists_row c.args.args c.args.env (found_of c.in-Ok.found) p (kernel_of c.args.manager.now (g.M.Machine.held c.args.machine.now) k)) (r.row_is (λ found. lists_row c.args.args c.args.env found p (kernel_of c.args.manager.now (g.M.Machine.held c.args.machine.now) k)) ∙ ap (λ (o : Result Place ℕ). following r.effects (then_of o (λ found. lists_row c.args.args c.args.env found p (kernel_of c.args.manager.now (g.M.Machine.held c.args.machine.now) k)))) c.in-Ok.is) r.did
    (subst (λ (h : Held). g.M.Machine.stops c.find_path.new.machine c.exec_lists.new.machine (effects_of (lists_row c.args.args c.args.env (found_of c.in-Ok.found) p (kernel_of c.args.manager.now h k)))) c.in_ok-found.ensures.still (of_process c.args.manager.now c.args.pid.0 (λ q. g.M.Machine.stops c.find_path.new.machine c.exec_lists.new.machine (effects_of (lists_row c.args.args c.args.env (found_of c.in-Ok.found) q (kernel_of c.args.manager.now (g.M.Machine.held c.find_path.new.machine) k)))) p there (c.exec_lists.ensures.stops k))))

pub returns-in-Err-clause-ends : goal.returns-in-Err-clause-ends
returns-in-Err-clause-ends g c k =
    ends_each g.M.Machine.held g.M.Machine.does g.M.Machine.stops g.met.M.Machine.lawful c.args.machine.now c.find_path.new.machine c.args.manager.now c.args.manager.now c.args.pid.0 (λ p k. execve_row p k c.args.path c.args.args c.args.env) (Value c.in-Err.errno) k
    (λ p is there.
    let r = of_process c.args.manager.now c.args.pid.0 (λ q. Reached g.M.Machine.does c.args.machine.now c.find_path.new.machine (at_path q (kernel_of c.args.manager.now (g.M.Machine.held c.args.machine.now) k) AT_FDCWD c.args.path) c.in_ok-found.field-0) p there (c.in_ok-found.ensures.leads k) in
    ran_asked g.M.Machine.held g.M.Machine.does g.M.Machine.stops g.met.M.Machine.lawful c.args.machine.now c.find_path.new.machine c.args.manager.now r.effects (execve_row p (kernel_of c.args.manager.now (g.M.Machine.held c.args.machine.now) k) c.args.path c.args.args c.args.env) c.in-Err.errno r.still r.did (r.row_is (λ found. lists_row c.args.args c.args.env found p (kernel_of c.args.manager.now (g.M.Machine.held c.args.machine.now) k)) ∙ ap (λ (o : Result Place ℕ). following r.effects (then_of o (λ found. lists_row c.args.args c.args.env found p (kernel_of c.args.manager.now (g.M.Machine.held c.args.machine.now) k)))) c.in-Err.is))

pub returns-in-Err-clause-stops : goal.returns-in-Err-clause-stops
returns-in-Err-clause-stops g c k =
    each_process c.args.manager.now c.args.pid.0 (λ p. g.M.Machine.stops c.args.machine.now c.find_path.new.machine (effects_of (execve_row p (kernel_of c.args.manager.now (g.M.Machine.held c.args.machine.now) k) c.args.path c.args.args c.args.env)))
    (λ p is there. of_process c.args.manager.now c.args.pid.0 (λ q. g.M.Machine.stops c.args.machine.now c.find_path.new.machine (effects_of (at_path q (kernel_of c.args.manager.now (g.M.Machine.held c.args.machine.now) k) AT_FDCWD c.args.path (λ found. lists_row c.args.args c.args.env found p (kernel_of c.args.manager.now (g.M.Machine.held c.args.machine.now) k))))) p there (c.find_path.ensures.stops (λ found. lists_row c.args.args c.args.env found p (kernel_of c.args.manager.now (g.M.Machine.held c.args.machine.now) k)) k))
