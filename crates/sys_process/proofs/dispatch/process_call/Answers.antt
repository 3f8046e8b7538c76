use Rattle.std.proofs.Common.{◌≡◌, sym, ◌∙◌, refl, [], true, Ok}
use Rattle.rv64_step.specs.Meaning.{reg}
use Rattle.linux_model.specs.Calls.{call_by, row}
use Rattle.linux_model.specs.ProcessCalls.{clone_row, execve_row, wait4_row}
use Rattle.call_machine.specs.Laws.{effects_of}
use Rattle.call_machine.specs.Lent.{kernel_of}
use Rattle.call_machine.proofs.Rows.{each_process, ends_each, ends_handed, of_process, stops_as}
use Rattle.sys_process.specs.Ends.{is_process_call}
use Rattle.sys_process.proofs.Numbered.{clone_is, execve_is, says_pid, wait4_is}
use Rattle.sys_process.proofs.dispatch.process_call.Goals as goal

pub returns-in-96-clause-ends : goal.returns-in-96-clause-ends
returns-in-96-clause-ends g c k =
    ends_each g.M.Machine.held g.M.Machine.does g.M.Machine.stops g.met.M.Machine.lawful c.args.machine.now c.args.machine.now c.args.manager.now c.args.manager.now c.args.pid.0 (λ p k. row (call_by p) p k) c.sys_getpid.result k
    (λ p is there. record { effects = []; row_is = says_pid p (kernel_of c.args.manager.now (g.M.Machine.held c.args.machine.now) k) c.cpu-cpu.result (of_process c.args.manager.now c.args.pid.0 (λ p. c.cpu-cpu.result ≡ p.cpu) p there c.cpu-cpu.ensures) 96 (sym c.in-96.is ∙ c.get.ensures) c.args.pid.0 is refl ∙ c.sys_getpid.ensures; did = g.met.M.Machine.lawful.none _; managed = refl })

pub returns-in-172-clause-ends : goal.returns-in-172-clause-ends
returns-in-172-clause-ends g c k =
    ends_each g.M.Machine.held g.M.Machine.does g.M.Machine.stops g.met.M.Machine.lawful c.args.machine.now c.args.machine.now c.args.manager.now c.args.manager.now c.args.pid.0 (λ p k. row (call_by p) p k) c.sys_getpid-in-172.result k
    (λ p is there. record { effects = []; row_is = says_pid p (kernel_of c.args.manager.now (g.M.Machine.held c.args.machine.now) k) c.cpu-cpu.result (of_process c.args.manager.now c.args.pid.0 (λ p. c.cpu-cpu.result ≡ p.cpu) p there c.cpu-cpu.ensures) 172 (sym c.in-172.is ∙ c.get.ensures) c.args.pid.0 is refl ∙ c.sys_getpid-in-172.ensures; did = g.met.M.Machine.lawful.none _; managed = refl })

pub returns-in-178-clause-ends : goal.returns-in-178-clause-ends
returns-in-178-clause-ends g c k =
    ends_each g.M.Machine.held g.M.Machine.does g.M.Machine.stops g.met.M.Machine.lawful c.args.machine.now c.args.machine.now c.args.manager.now c.args.manager.now c.args.pid.0 (λ p k. row (call_by p) p k) c.sys_getpid-in-178.result k
    (λ p is there. record { effects = []; row_is = says_pid p (kernel_of c.args.manager.now (g.M.Machine.held c.args.machine.now) k) c.cpu-cpu.result (of_process c.args.manager.now c.args.pid.0 (λ p. c.cpu-cpu.result ≡ p.cpu) p there c.cpu-cpu.ensures) 178 (sym c.in-178.is ∙ c.get.ensures) c.args.pid.0 is refl ∙ c.sys_getpid-in-178.ensures; did = g.met.M.Machine.lawful.none _; managed = refl })

pub returns-in_ok-sys_clone-in-220-clause-ends : goal.returns-in_ok-sys_clone-in-220-clause-ends
returns-in_ok-sys_clone-in-220-clause-ends g c k =
    ends_handed g.M.Machine.held g.M.Machine.does g.M.Machine.stops g.met.M.Machine.lawful c.args.machine.now c.sys_clone.new.machine c.args.manager.now c.sys_clone.new.manager c.args.pid.0 (λ p k. row (call_by p) p k) (λ p k. clone_row p k c.get-in-220.result c.get-in-220-2.result) (Ok c.in_ok-sys_clone-in-220.field-0) k
    (λ p is there. clone_is p (kernel_of c.args.manager.now (g.M.Machine.held c.args.machine.now) k) c.cpu-cpu.result (of_process c.args.manager.now c.args.pid.0 (λ p. c.cpu-cpu.result ≡ p.cpu) p there c.cpu-cpu.ensures) c.get.result c.get.ensures c.get-in-220.result c.get-in-220-2.result c.get-in-220.ensures c.get-in-220-2.ensures c.in-220.is) (c.in_ok-sys_clone-in-220.ensures.ends k)

pub returns-in_ok-sys_clone-in-220-clause-stops : goal.returns-in_ok-sys_clone-in-220-clause-stops
returns-in_ok-sys_clone-in-220-clause-stops g c k =
    each_process c.args.manager.now c.args.pid.0 (λ p. is_process_call (reg p.cpu 17) ≡ true → g.M.Machine.stops c.args.machine.now c.sys_clone.new.machine (effects_of (row (call_by p) p (kernel_of c.args.manager.now (g.M.Machine.held c.args.machine.now) k))))
    (λ p is there mine. stops_as g.M.Machine.held g.M.Machine.does g.M.Machine.stops g.met.M.Machine.lawful c.args.machine.now c.sys_clone.new.machine (row (call_by p) p (kernel_of c.args.manager.now (g.M.Machine.held c.args.machine.now) k)) (clone_row p (kernel_of c.args.manager.now (g.M.Machine.held c.args.machine.now) k) c.get-in-220.result c.get-in-220-2.result) (clone_is p (kernel_of c.args.manager.now (g.M.Machine.held c.args.machine.now) k) c.cpu-cpu.result (of_process c.args.manager.now c.args.pid.0 (λ p. c.cpu-cpu.result ≡ p.cpu) p there c.cpu-cpu.ensures) c.get.result c.get.ensures c.get-in-220.result c.get-in-220-2.result c.get-in-220.ensures c.get-in-220-2.ensures c.in-220.is)
    (of_process c.args.manager.now c.args.pid.0 (λ p. g.M.Machine.stops c.args.machine.now c.sys_clone.new.machine (effects_of (clone_row p (kernel_of c.args.manager.now (g.M.Machine.held c.args.machine.now) k) c.get-in-220.result c.get-in-220-2.result))) p there (c.sys_clone.ensures.stops k)))

pub returns-in_err-sys_clone-in-220-clause-stops : goal.returns-in_err-sys_clone-in-220-clause-stops
returns-in_err-sys_clone-in-220-clause-stops g c k =
    each_process c.args.manager.now c.args.pid.0 (λ p. is_process_call (reg p.cpu 17) ≡ true → g.M.Machine.stops c.args.machine.now c.sys_clone.new.machine (effects_of (row (call_by p) p (kernel_of c.args.manager.now (g.M.Machine.held c.args.machine.now) k))))
    (λ p is there mine. stops_as g.M.Machine.held g.M.Machine.does g.M.Machine.stops g.met.M.Machine.lawful c.args.machine.now c.sys_clone.new.machine (row (call_by p) p (kernel_of c.args.manager.now (g.M.Machine.held c.args.machine.now) k)) (clone_row p (kernel_of c.args.manager.now (g.M.Machine.held c.args.machine.now) k) c.get-in-220.result c.get-in-220-2.result) (clone_is p (kernel_of c.args.manager.now (g.M.Machine.held c.args.machine.now) k) c.cpu-cpu.result (of_process c.args.manager.now c.args.pid.0 (λ p. c.cpu-cpu.result ≡ p.cpu) p there c.cpu-cpu.ensures) c.get.result c.get.ensures c.get-in-220.result c.get-in-220-2.result c.get-in-220.ensures c.get-in-220-2.ensures c.in-220.is)
    (of_process c.args.manager.now c.args.pid.0 (λ p. g.M.Machine.stops c.args.machine.now c.sys_clone.new.machine (effects_of (clone_row p (kernel_of c.args.manager.now (g.M.Machine.held c.args.machine.now) k) c.get-in-220.result c.get-in-220-2.result))) p there (c.sys_clone.ensures.stops k)))

pub returns-in_ok-sys_execve-in-221-clause-ends : goal.returns-in_ok-sys_execve-in-221-clause-ends
returns-in_ok-sys_execve-in-221-clause-ends g c k =
    ends_handed g.M.Machine.held g.M.Machine.does g.M.Machine.stops g.met.M.Machine.lawful c.args.machine.now c.sys_execve.new.machine c.args.manager.now c.sys_execve.new.manager c.args.pid.0 (λ p k. row (call_by p) p k) (λ p k. execve_row p k c.get-in-221.result c.get-in-221-2.result c.get-in-221-3.result) (Ok c.in_ok-sys_execve-in-221.field-0) k
    (λ p is there. execve_is p (kernel_of c.args.manager.now (g.M.Machine.held c.args.machine.now) k) c.cpu-cpu.result (of_process c.args.manager.now c.args.pid.0 (λ p. c.cpu-cpu.result ≡ p.cpu) p there c.cpu-cpu.ensures) c.get.result c.get.ensures c.get-in-221.result c.get-in-221-2.result c.get-in-221.ensures c.get-in-221-2.ensures c.get-in-221-3.result c.get-in-221-3.ensures c.in-221.is) (c.in_ok-sys_execve-in-221.ensures.ends k)

pub returns-in_ok-sys_execve-in-221-clause-stops : goal.returns-in_ok-sys_execve-in-221-clause-stops
returns-in_ok-sys_execve-in-221-clause-stops g c k =
    each_process c.args.manager.now c.args.pid.0 (λ p. is_process_call (reg p.cpu 17) ≡ true → g.M.Machine.stops c.args.machine.now c.sys_execve.new.machine (effects_of (row (call_by p) p (kernel_of c.args.manager.now (g.M.Machine.held c.args.machine.now) k))))
    (λ p is there mine. stops_as g.M.Machine.held g.M.Machine.does g.M.Machine.stops g.met.M.Machine.lawful c.args.machine.now c.sys_execve.new.machine (row (call_by p) p (kernel_of c.args.manager.now (g.M.Machine.held c.args.machine.now) k)) (execve_row p (kernel_of c.args.manager.now (g.M.Machine.held c.args.machine.now) k) c.get-in-221.result c.get-in-221-2.result c.get-in-221-3.result) (execve_is p (kernel_of c.args.manager.now (g.M.Machine.held c.args.machine.now) k) c.cpu-cpu.result (of_process c.args.manager.now c.args.pid.0 (λ p. c.cpu-cpu.result ≡ p.cpu) p there c.cpu-cpu.ensures) c.get.result c.get.ensures c.get-in-221.result c.get-in-221-2.result c.get-in-221.ensures c.get-in-221-2.ensures c.get-in-221-3.result c.get-in-221-3.ensures c.in-221.is)
    (of_process c.args.manager.now c.args.pid.0 (λ p. g.M.Machine.stops c.args.machine.now c.sys_execve.new.machine (effects_of (execve_row p (kernel_of c.args.manager.now (g.M.Machine.held c.args.machine.now) k) c.get-in-221.result c.get-in-221-2.result c.get-in-221-3.result))) p there (c.sys_execve.ensures.stops k)))

pub returns-in_err-sys_execve-in-221-clause-stops : goal.returns-in_err-sys_execve-in-221-clause-stops
returns-in_err-sys_execve-in-221-clause-stops g c k =
    each_process c.args.manager.now c.args.pid.0 (λ p. is_process_call (reg p.cpu 17) ≡ true → g.M.Machine.stops c.args.machine.now c.sys_execve.new.machine (effects_of (row (call_by p) p (kernel_of c.args.manager.now (g.M.Machine.held c.args.machine.now) k))))
    (λ p is there mine. stops_as g.M.Machine.held g.M.Machine.does g.M.Machine.stops g.met.M.Machine.lawful c.args.machine.now c.sys_execve.new.machine (row (call_by p) p (kernel_of c.args.manager.now (g.M.Machine.held c.args.machine.now) k)) (execve_row p (kernel_of c.args.manager.now (g.M.Machine.held c.args.machine.now) k) c.get-in-221.result c.get-in-221-2.result c.get-in-221-3.result) (execve_is p (kernel_of c.args.manager.now (g.M.Machine.held c.args.machine.now) k) c.cpu-cpu.result (of_process c.args.manager.now c.args.pid.0 (λ p. c.cpu-cpu.result ≡ p.cpu) p there c.cpu-cpu.ensures) c.get.result c.get.ensures c.get-in-221.result c.get-in-221-2.result c.get-in-221.ensures c.get-in-221-2.ensures c.get-in-221-3.result c.get-in-221-3.ensures c.in-221.is)
    (of_process c.args.manager.now c.args.pid.0 (λ p. g.M.Machine.stops c.args.machine.now c.sys_execve.new.machine (effects_of (execve_row p (kernel_of c.args.manager.now (g.M.Machine.held c.args.machine.now) k) c.get-in-221.result c.get-in-221-2.result c.get-in-221-3.result))) p there (c.sys_execve.ensures.stops k)))

pub returns-in_ok-sys_wait4-in-260-clause-ends : goal.returns-in_ok-sys_wait4-in-260-clause-ends
returns-in_ok-sys_wait4-in-260-clause-ends g c k =
    ends_handed g.M.Machine.held g.M.Machine.does g.M.Machine.stops g.met.M.Machine.lawful c.args.machine.now c.sys_wait4.new.machine c.args.manager.now c.sys_wait4.new.manager c.args.pid.0 (λ p k. row (call_by p) p k) (λ p k. wait4_row p k c.get-in-260.result c.get-in-260-2.result c.get-in-260-3.result c.get-in-260-4.result) (Ok c.in_ok-sys_wait4-in-260.field-0) k
    (λ p is there. wait4_is p (kernel_of c.args.manager.now (g.M.Machine.held c.args.machine.now) k) c.cpu-cpu.result (of_process c.args.manager.now c.args.pid.0 (λ p. c.cpu-cpu.result ≡ p.cpu) p there c.cpu-cpu.ensures) c.get.result c.get.ensures c.get-in-260.result c.get-in-260-2.result c.get-in-260.ensures c.get-in-260-2.ensures c.get-in-260-3.result c.get-in-260-3.ensures c.get-in-260-4.result c.get-in-260-4.ensures c.in-260.is) (c.in_ok-sys_wait4-in-260.ensures.ends k)

pub returns-in_ok-sys_wait4-in-260-clause-stops : goal.returns-in_ok-sys_wait4-in-260-clause-stops
returns-in_ok-sys_wait4-in-260-clause-stops g c k =
    each_process c.args.manager.now c.args.pid.0 (λ p. is_process_call (reg p.cpu 17) ≡ true → g.M.Machine.stops c.args.machine.now c.sys_wait4.new.machine (effects_of (row (call_by p) p (kernel_of c.args.manager.now (g.M.Machine.held c.args.machine.now) k))))
    (λ p is there mine. stops_as g.M.Machine.held g.M.Machine.does g.M.Machine.stops g.met.M.Machine.lawful c.args.machine.now c.sys_wait4.new.machine (row (call_by p) p (kernel_of c.args.manager.now (g.M.Machine.held c.args.machine.now) k)) (wait4_row p (kernel_of c.args.manager.now (g.M.Machine.held c.args.machine.now) k) c.get-in-260.result c.get-in-260-2.result c.get-in-260-3.result c.get-in-260-4.result) (wait4_is p (kernel_of c.args.manager.now (g.M.Machine.held c.args.machine.now) k) c.cpu-cpu.result (of_process c.args.manager.now c.args.pid.0 (λ p. c.cpu-cpu.result ≡ p.cpu) p there c.cpu-cpu.ensures) c.get.result c.get.ensures c.get-in-260.result c.get-in-260-2.result c.get-in-260.ensures c.get-in-260-2.ensures c.get-in-260-3.result c.get-in-260-3.ensures c.get-in-260-4.result c.get-in-260-4.ensures c.in-260.is)
    (of_process c.args.manager.now c.args.pid.0 (λ p. g.M.Machine.stops c.args.machine.now c.sys_wait4.new.machine (effects_of (wait4_row p (kernel_of c.args.manager.now (g.M.Machine.held c.args.machine.now) k) c.get-in-260.result c.get-in-260-2.result c.get-in-260-3.result c.get-in-260-4.result))) p there (c.sys_wait4.ensures.stops k)))

pub returns-in_err-sys_wait4-in-260-clause-stops : goal.returns-in_err-sys_wait4-in-260-clause-stops
returns-in_err-sys_wait4-in-260-clause-stops g c k =
    each_process c.args.manager.now c.args.pid.0 (λ p. is_process_call (reg p.cpu 17) ≡ true → g.M.Machine.stops c.args.machine.now c.sys_wait4.new.machine (effects_of (row (call_by p) p (kernel_of c.args.manager.now (g.M.Machine.held c.args.machine.now) k))))
    (λ p is there mine. stops_as g.M.Machine.held g.M.Machine.does g.M.Machine.stops g.met.M.Machine.lawful c.args.machine.now c.sys_wait4.new.machine (row (call_by p) p (kernel_of c.args.manager.now (g.M.Machine.held c.args.machine.now) k)) (wait4_row p (kernel_of c.args.manager.now (g.M.Machine.held c.args.machine.now) k) c.get-in-260.result c.get-in-260-2.result c.get-in-260-3.result c.get-in-260-4.result) (wait4_is p (kernel_of c.args.manager.now (g.M.Machine.held c.args.machine.now) k) c.cpu-cpu.result (of_process c.args.manager.now c.args.pid.0 (λ p. c.cpu-cpu.result ≡ p.cpu) p there c.cpu-cpu.ensures) c.get.result c.get.ensures c.get-in-260.result c.get-in-260-2.result c.get-in-260.ensures c.get-in-260-2.ensures c.get-in-260-3.result c.get-in-260-3.ensures c.get-in-260-4.result c.get-in-260-4.ensures c.in-260.is)
    (of_process c.args.manager.now c.args.pid.0 (λ p. g.M.Machine.stops c.args.machine.now c.sys_wait4.new.machine (effects_of (wait4_row p (kernel_of c.args.manager.now (g.M.Machine.held c.args.machine.now) k) c.get-in-260.result c.get-in-260-2.result c.get-in-260-3.result c.get-in-260-4.result))) p there (c.sys_wait4.ensures.stops k)))
