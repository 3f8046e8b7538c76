use Rattle.std.proofs.Common.{Ok}
use Rattle.linux_model.specs.Processes.{at_pid}
use Rattle.sys_space.specs.Calls.{calling, kernel_with, with_break}
use Rattle.sys_space.proofs.Numbered.{brk_is, mmap_is, mprotect_is, munmap_is}
use Rattle.sys_space.proofs.Row.{answered_as, stopped_as}
use Rattle.sys_space.proofs.dispatch.space_call.Goals as goal

pub returns-in_ok-sys_brk-in-214-clause-answers : goal.returns-in_ok-sys_brk-in-214-clause-answers
returns-in_ok-sys_brk-in-214-clause-answers g c p k =
    let P = calling c.args.pid.0 c.args.cpu.now c.args.brk.now p in
    let K = kernel_with c.args.pid.0 c.args.brk.now (g.M.Machine.held c.args.machine.now) k in
    answered_as g.M.Machine.held g.M.Machine.does g.M.Machine.stops g.met.M.Machine.lawful _ _ _ _ _ _ (Ok _) (brk_is P K c.get.result c.get-in-214.result 0 0 0 c.get.ensures c.get-in-214.ensures c.in-214.is) (c.in_ok-sys_brk-in-214.ensures.answers P k)

pub returns-in_ok-sys_brk-in-214-clause-stops : goal.returns-in_ok-sys_brk-in-214-clause-stops
returns-in_ok-sys_brk-in-214-clause-stops g c is p k =
    let P = calling c.args.pid.0 c.args.cpu.now c.args.brk.now p in
    let K = kernel_with c.args.pid.0 c.args.brk.now (g.M.Machine.held c.args.machine.now) k in
    stopped_as g.M.Machine.held g.M.Machine.does g.M.Machine.stops g.met.M.Machine.lawful _ _ _ _ (brk_is P K c.get.result c.get-in-214.result 0 0 0 c.get.ensures c.get-in-214.ensures c.in-214.is) (c.sys_brk.ensures.stops P k)

pub returns-in_err-sys_brk-in-214-clause-stops : goal.returns-in_err-sys_brk-in-214-clause-stops
returns-in_err-sys_brk-in-214-clause-stops g c is p k =
    let P = calling c.args.pid.0 c.args.cpu.now c.args.brk.now p in
    let K = kernel_with c.args.pid.0 c.args.brk.now (g.M.Machine.held c.args.machine.now) k in
    stopped_as g.M.Machine.held g.M.Machine.does g.M.Machine.stops g.met.M.Machine.lawful _ _ _ _ (brk_is P K c.get.result c.get-in-214.result 0 0 0 c.get.ensures c.get-in-214.ensures c.in-214.is) (c.sys_brk.ensures.stops P k)

pub returns-in_ok-sys_munmap-in-215-clause-answers : goal.returns-in_ok-sys_munmap-in-215-clause-answers
returns-in_ok-sys_munmap-in-215-clause-answers g c p k =
    let P = calling c.args.pid.0 c.args.cpu.now c.args.brk.now p in
    let K = kernel_with c.args.pid.0 c.args.brk.now (g.M.Machine.held c.args.machine.now) k in
    answered_as g.M.Machine.held g.M.Machine.does g.M.Machine.stops g.met.M.Machine.lawful _ _ _ _ _ _ (Ok _) (munmap_is P K c.get.result c.get-in-215.result c.get-in-215-2.result 0 0 c.get.ensures c.get-in-215.ensures c.get-in-215-2.ensures c.in-215.is) (c.in_ok-sys_munmap-in-215.ensures.answers P (record k { procs = at_pid c.args.pid.0 (with_break c.args.brk.now) k.procs }))

pub returns-in_ok-sys_munmap-in-215-clause-stops : goal.returns-in_ok-sys_munmap-in-215-clause-stops
returns-in_ok-sys_munmap-in-215-clause-stops g c is p k =
    let P = calling c.args.pid.0 c.args.cpu.now c.args.brk.now p in
    let K = kernel_with c.args.pid.0 c.args.brk.now (g.M.Machine.held c.args.machine.now) k in
    stopped_as g.M.Machine.held g.M.Machine.does g.M.Machine.stops g.met.M.Machine.lawful _ _ _ _ (munmap_is P K c.get.result c.get-in-215.result c.get-in-215-2.result 0 0 c.get.ensures c.get-in-215.ensures c.get-in-215-2.ensures c.in-215.is) (c.sys_munmap.ensures.stops P (record k { procs = at_pid c.args.pid.0 (with_break c.args.brk.now) k.procs }))

pub returns-in_err-sys_munmap-in-215-clause-stops : goal.returns-in_err-sys_munmap-in-215-clause-stops
returns-in_err-sys_munmap-in-215-clause-stops g c is p k =
    let P = calling c.args.pid.0 c.args.cpu.now c.args.brk.now p in
    let K = kernel_with c.args.pid.0 c.args.brk.now (g.M.Machine.held c.args.machine.now) k in
    stopped_as g.M.Machine.held g.M.Machine.does g.M.Machine.stops g.met.M.Machine.lawful _ _ _ _ (munmap_is P K c.get.result c.get-in-215.result c.get-in-215-2.result 0 0 c.get.ensures c.get-in-215.ensures c.get-in-215-2.ensures c.in-215.is) (c.sys_munmap.ensures.stops P (record k { procs = at_pid c.args.pid.0 (with_break c.args.brk.now) k.procs }))

pub returns-in_ok-sys_mmap-in-222-clause-answers : goal.returns-in_ok-sys_mmap-in-222-clause-answers
returns-in_ok-sys_mmap-in-222-clause-answers g c p k =
    let P = calling c.args.pid.0 c.args.cpu.now c.args.brk.now p in
    let K = kernel_with c.args.pid.0 c.args.brk.now (g.M.Machine.held c.args.machine.now) k in
    answered_as g.M.Machine.held g.M.Machine.does g.M.Machine.stops g.met.M.Machine.lawful _ _ _ _ _ _ (Ok _) (mmap_is P K c.get.result c.get-in-222.result c.get-in-222-2.result c.get-in-222-3.result c.get-in-222-4.result c.get.ensures c.get-in-222.ensures c.get-in-222-2.ensures c.get-in-222-3.ensures c.get-in-222-4.ensures c.in-222.is) (c.in_ok-sys_mmap-in-222.ensures.answers P (record k { procs = at_pid c.args.pid.0 (with_break c.args.brk.now) k.procs }))

pub returns-in_ok-sys_mmap-in-222-clause-stops : goal.returns-in_ok-sys_mmap-in-222-clause-stops
returns-in_ok-sys_mmap-in-222-clause-stops g c is p k =
    let P = calling c.args.pid.0 c.args.cpu.now c.args.brk.now p in
    let K = kernel_with c.args.pid.0 c.args.brk.now (g.M.Machine.held c.args.machine.now) k in
    stopped_as g.M.Machine.held g.M.Machine.does g.M.Machine.stops g.met.M.Machine.lawful _ _ _ _ (mmap_is P K c.get.result c.get-in-222.result c.get-in-222-2.result c.get-in-222-3.result c.get-in-222-4.result c.get.ensures c.get-in-222.ensures c.get-in-222-2.ensures c.get-in-222-3.ensures c.get-in-222-4.ensures c.in-222.is) (c.sys_mmap.ensures.stops P (record k { procs = at_pid c.args.pid.0 (with_break c.args.brk.now) k.procs }))

pub returns-in_err-sys_mmap-in-222-clause-stops : goal.returns-in_err-sys_mmap-in-222-clause-stops
returns-in_err-sys_mmap-in-222-clause-stops g c is p k =
    let P = calling c.args.pid.0 c.args.cpu.now c.args.brk.now p in
    let K = kernel_with c.args.pid.0 c.args.brk.now (g.M.Machine.held c.args.machine.now) k in
    stopped_as g.M.Machine.held g.M.Machine.does g.M.Machine.stops g.met.M.Machine.lawful _ _ _ _ (mmap_is P K c.get.result c.get-in-222.result c.get-in-222-2.result c.get-in-222-3.result c.get-in-222-4.result c.get.ensures c.get-in-222.ensures c.get-in-222-2.ensures c.get-in-222-3.ensures c.get-in-222-4.ensures c.in-222.is) (c.sys_mmap.ensures.stops P (record k { procs = at_pid c.args.pid.0 (with_break c.args.brk.now) k.procs }))

pub returns-in_ok-sys_mprotect-in-226-clause-answers : goal.returns-in_ok-sys_mprotect-in-226-clause-answers
returns-in_ok-sys_mprotect-in-226-clause-answers g c p k =
    let P = calling c.args.pid.0 c.args.cpu.now c.args.brk.now p in
    let K = kernel_with c.args.pid.0 c.args.brk.now (g.M.Machine.held c.args.machine.now) k in
    answered_as g.M.Machine.held g.M.Machine.does g.M.Machine.stops g.met.M.Machine.lawful _ _ _ _ _ _ (Ok _) (mprotect_is P K c.get.result c.get-in-226.result c.get-in-226-2.result c.get-in-226-3.result 0 c.get.ensures c.get-in-226.ensures c.get-in-226-2.ensures c.get-in-226-3.ensures c.in-226.is) (c.in_ok-sys_mprotect-in-226.ensures.answers P (record k { procs = at_pid c.args.pid.0 (with_break c.args.brk.now) k.procs }))

pub returns-in_ok-sys_mprotect-in-226-clause-stops : goal.returns-in_ok-sys_mprotect-in-226-clause-stops
returns-in_ok-sys_mprotect-in-226-clause-stops g c is p k =
    let P = calling c.args.pid.0 c.args.cpu.now c.args.brk.now p in
    let K = kernel_with c.args.pid.0 c.args.brk.now (g.M.Machine.held c.args.machine.now) k in
    stopped_as g.M.Machine.held g.M.Machine.does g.M.Machine.stops g.met.M.Machine.lawful _ _ _ _ (mprotect_is P K c.get.result c.get-in-226.result c.get-in-226-2.result c.get-in-226-3.result 0 c.get.ensures c.get-in-226.ensures c.get-in-226-2.ensures c.get-in-226-3.ensures c.in-226.is) (c.sys_mprotect.ensures.stops P (record k { procs = at_pid c.args.pid.0 (with_break c.args.brk.now) k.procs }))

pub returns-in_err-sys_mprotect-in-226-clause-stops : goal.returns-in_err-sys_mprotect-in-226-clause-stops
returns-in_err-sys_mprotect-in-226-clause-stops g c is p k =
    let P = calling c.args.pid.0 c.args.cpu.now c.args.brk.now p in
    let K = kernel_with c.args.pid.0 c.args.brk.now (g.M.Machine.held c.args.machine.now) k in
    stopped_as g.M.Machine.held g.M.Machine.does g.M.Machine.stops g.met.M.Machine.lawful _ _ _ _ (mprotect_is P K c.get.result c.get-in-226.result c.get-in-226-2.result c.get-in-226-3.result 0 c.get.ensures c.get-in-226.ensures c.get-in-226-2.ensures c.get-in-226-3.ensures c.in-226.is) (c.sys_mprotect.ensures.stops P (record k { procs = at_pid c.args.pid.0 (with_break c.args.brk.now) k.procs }))
