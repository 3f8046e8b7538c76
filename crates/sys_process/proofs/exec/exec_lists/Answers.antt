use Rattle.std.proofs.Common.{sym, ◌∙◌, subst}
use Rattle.linux_model.specs.Held.{Held}
use Rattle.linux_model.specs.ProcessCalls.{list_at}
use Rattle.linux_model.proofs.Looking.{looking_is_still}
use Rattle.call_machine.specs.declared.end.CallEnd.TheVariants.{Value}
use Rattle.call_machine.specs.Lent.{kernel_of, FitTogether}
use Rattle.call_machine.proofs.Rows.{ends_after, ends_each, held_asked, ran_asked, stops_after_asking, stops_each, stops_in}
use Rattle.sys_paths.specs.Reached.{found_of, IsNamed}
use Rattle.sys_process.specs.Exec.{env_row, lists_row}
use Rattle.sys_process.proofs.Executing.{lists_by_pid, fault_row, list_row}
use Rattle.sys_process.proofs.exec.exec_lists.Goals as goal

pub returns-in_err-args-clause-stops : goal.returns-in_err-args-clause-stops
returns-in_err-args-clause-stops g c k =
    stops_each g.M.Machine.held g.M.Machine.does g.M.Machine.stops g.met.M.Machine.lawful c.args.machine.now c.read_list.new.machine c.args.manager.now c.args.pid.0 (lists_row c.args.args c.args.env (found_of c.args.found)) k
    (λ p is. stops_in g.M.Machine.held g.M.Machine.does g.M.Machine.stops g.met.M.Machine.lawful _ _ ((list_at c.args.pid.0 ((g.M.Machine.held c.args.machine.now).space c.args.pid.0) 512 c.args.args 65536)).reads (lists_row c.args.args c.args.env (found_of c.args.found) p (kernel_of c.args.manager.now (g.M.Machine.held c.args.machine.now) k)) _ (lists_by_pid c.args.args c.args.env (found_of c.args.found) c.args.pid.0 p (kernel_of c.args.manager.now (g.M.Machine.held c.args.machine.now) k) is) c.read_list.ensures.stops)

pub exec_env-requires-clause-fit : goal.exec_env-requires-clause-fit
exec_env-requires-clause-fit g c =
    subst (λ (h : Held). FitTogether c.args.manager.now h) (sym (held_asked g.M.Machine.held g.M.Machine.does g.M.Machine.stops g.met.M.Machine.lawful c.args.machine.now c.read_list.new.machine ((list_at c.args.pid.0 ((g.M.Machine.held c.args.machine.now).space c.args.pid.0) 512 c.args.args 65536)).reads (looking_is_still.strings c.args.pid.0 ((g.M.Machine.held c.args.machine.now).space c.args.pid.0) 512 c.args.args 65536) c.in_ok-args.ensures.does)) c.requires.fit

pub exec_env-requires-clause-named : goal.exec_env-requires-clause-named
exec_env-requires-clause-named g c =
    subst (λ (h : Held). IsNamed h.names c.args.found) (sym (held_asked g.M.Machine.held g.M.Machine.does g.M.Machine.stops g.met.M.Machine.lawful c.args.machine.now c.read_list.new.machine ((list_at c.args.pid.0 ((g.M.Machine.held c.args.machine.now).space c.args.pid.0) 512 c.args.args 65536)).reads (looking_is_still.strings c.args.pid.0 ((g.M.Machine.held c.args.machine.now).space c.args.pid.0) 512 c.args.args 65536) c.in_ok-args.ensures.does)) c.requires.named

pub returns-in-Ok-clause-ends : goal.returns-in-Ok-clause-ends
returns-in-Ok-clause-ends g c k =
    ends_after g.M.Machine.held g.M.Machine.does g.M.Machine.stops g.met.M.Machine.lawful c.args.machine.now c.read_list.new.machine c.exec_env.new.machine c.args.manager.now c.exec_env.new.manager c.args.pid.0 ((list_at c.args.pid.0 ((g.M.Machine.held c.args.machine.now).space c.args.pid.0) 512 c.args.args 65536)).reads (lists_row c.args.args c.args.env (found_of c.args.found)) (env_row c.in-Ok.args c.args.env (found_of c.args.found)) c.exec_env.result k (looking_is_still.strings c.args.pid.0 ((g.M.Machine.held c.args.machine.now).space c.args.pid.0) 512 c.args.args 65536) c.in_ok-args.ensures.does
    (λ p is. lists_by_pid c.args.args c.args.env (found_of c.args.found) c.args.pid.0 p (kernel_of c.args.manager.now (g.M.Machine.held c.args.machine.now) k) is ∙ list_row (list_at c.args.pid.0 ((g.M.Machine.held c.args.machine.now).space c.args.pid.0) 512 c.args.args 65536) (λ list. env_row list c.args.env (found_of c.args.found) p (kernel_of c.args.manager.now (g.M.Machine.held c.args.machine.now) k)) c.in-Ok.args (sym c.in-Ok.is ∙ c.in_ok-args.ensures.strings)) (c.exec_env.ensures.ends k)

pub returns-in-Ok-clause-stops : goal.returns-in-Ok-clause-stops
returns-in-Ok-clause-stops g c k =
    stops_after_asking g.M.Machine.held g.M.Machine.does g.M.Machine.stops g.met.M.Machine.lawful c.args.machine.now c.read_list.new.machine c.exec_env.new.machine c.args.manager.now c.args.pid.0 ((list_at c.args.pid.0 ((g.M.Machine.held c.args.machine.now).space c.args.pid.0) 512 c.args.args 65536)).reads (lists_row c.args.args c.args.env (found_of c.args.found)) (env_row c.in-Ok.args c.args.env (found_of c.args.found)) k (looking_is_still.strings c.args.pid.0 ((g.M.Machine.held c.args.machine.now).space c.args.pid.0) 512 c.args.args 65536) c.in_ok-args.ensures.does
    (λ p is. lists_by_pid c.args.args c.args.env (found_of c.args.found) c.args.pid.0 p (kernel_of c.args.manager.now (g.M.Machine.held c.args.machine.now) k) is ∙ list_row (list_at c.args.pid.0 ((g.M.Machine.held c.args.machine.now).space c.args.pid.0) 512 c.args.args 65536) (λ list. env_row list c.args.env (found_of c.args.found) p (kernel_of c.args.manager.now (g.M.Machine.held c.args.machine.now) k)) c.in-Ok.args (sym c.in-Ok.is ∙ c.in_ok-args.ensures.strings)) (c.exec_env.ensures.stops k)

pub returns-in-Err-clause-ends : goal.returns-in-Err-clause-ends
returns-in-Err-clause-ends g c k =
    ends_each g.M.Machine.held g.M.Machine.does g.M.Machine.stops g.met.M.Machine.lawful c.args.machine.now c.read_list.new.machine c.args.manager.now c.args.manager.now c.args.pid.0 (lists_row c.args.args c.args.env (found_of c.args.found)) (Value c.in-Err.errno) k
    (λ p is there. ran_asked g.M.Machine.held g.M.Machine.does g.M.Machine.stops g.met.M.Machine.lawful _ _ c.args.manager.now ((list_at c.args.pid.0 ((g.M.Machine.held c.args.machine.now).space c.args.pid.0) 512 c.args.args 65536)).reads (lists_row c.args.args c.args.env (found_of c.args.found) p (kernel_of c.args.manager.now (g.M.Machine.held c.args.machine.now) k)) c.in-Err.errno (looking_is_still.strings c.args.pid.0 ((g.M.Machine.held c.args.machine.now).space c.args.pid.0) 512 c.args.args 65536) c.in_ok-args.ensures.does (lists_by_pid c.args.args c.args.env (found_of c.args.found) c.args.pid.0 p (kernel_of c.args.manager.now (g.M.Machine.held c.args.machine.now) k) is ∙ fault_row (list_at c.args.pid.0 ((g.M.Machine.held c.args.machine.now).space c.args.pid.0) 512 c.args.args 65536) (λ a. env_row (record { strings = a.strings; left = a.left; room = a.room }) c.args.env (found_of c.args.found) p (kernel_of c.args.manager.now (g.M.Machine.held c.args.machine.now) k)) c.in-Err.errno (sym c.in-Err.is ∙ c.in_ok-args.ensures.strings)))

pub returns-in-Err-clause-stops : goal.returns-in-Err-clause-stops
returns-in-Err-clause-stops g c k =
    stops_each g.M.Machine.held g.M.Machine.does g.M.Machine.stops g.met.M.Machine.lawful c.args.machine.now c.read_list.new.machine c.args.manager.now c.args.pid.0 (lists_row c.args.args c.args.env (found_of c.args.found)) k
    (λ p is. stops_in g.M.Machine.held g.M.Machine.does g.M.Machine.stops g.met.M.Machine.lawful _ _ ((list_at c.args.pid.0 ((g.M.Machine.held c.args.machine.now).space c.args.pid.0) 512 c.args.args 65536)).reads (lists_row c.args.args c.args.env (found_of c.args.found) p (kernel_of c.args.manager.now (g.M.Machine.held c.args.machine.now) k)) _ (lists_by_pid c.args.args c.args.env (found_of c.args.found) c.args.pid.0 p (kernel_of c.args.manager.now (g.M.Machine.held c.args.machine.now) k) is) c.read_list.ensures.stops)
