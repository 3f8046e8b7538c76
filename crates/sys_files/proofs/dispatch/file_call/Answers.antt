use Rattle.std.proofs.Common.{refl}
use Rattle.linux_model.specs.Descriptors.{close_row, dup_row, dup3_row, pipe2_row}
use Rattle.linux_model.specs.FileCalls.{ftruncate_row, lseek_row, openat_row, unlinkat_row}
use Rattle.call_machine.specs.declared.end.CallEnd.TheVariants.{Value}
use Rattle.call_machine.specs.Lent.{kernel_of}
use Rattle.call_parts.proofs.Numbered.{alone_ends, alone_stops, numbered_ends, numbered_stops, row_of_one, row_of_three, row_of_two}
use Rattle.sys_files.specs.Numbers.{is_file_call}
use Rattle.sys_files.proofs.dispatch.file_call.Goals as goal

pub returns-in-23-clause-ends : goal.returns-in-23-clause-ends
returns-in-23-clause-ends g c k =
    numbered_ends g.M.Machine.held g.M.Machine.does g.M.Machine.stops g.met.M.Machine.lawful c.args.machine.now c.args.machine.now c.args.man.now c.args.pid.0 c.cpu-cpu.result c.cpu-cpu.ensures k (λ p k. dup_row p k c.get-in-23.result) (λ p own. row_of_one p (kernel_of c.args.man.now (g.M.Machine.held c.args.machine.now) k) c.cpu-cpu.result own c.get.result c.get.ensures 23 c.in-23.is (λ a. dup_row p (kernel_of c.args.man.now (g.M.Machine.held c.args.machine.now) k) a) refl c.get-in-23.result c.get-in-23.ensures) c.sys_dup.new.man (Value c.sys_dup.result) (alone_ends g.M.Machine.held g.M.Machine.does g.M.Machine.stops g.met.M.Machine.lawful c.args.machine.now c.args.man.now c.sys_dup.new.man c.args.pid.0 (λ p k. dup_row p k c.get-in-23.result) c.sys_dup.result c.sys_dup.ensures k)

pub returns-in-23-clause-stops : goal.returns-in-23-clause-stops
returns-in-23-clause-stops g c k =
    numbered_stops g.M.Machine.held g.M.Machine.does g.M.Machine.stops g.met.M.Machine.lawful c.args.machine.now c.args.machine.now c.args.man.now c.args.pid.0 c.cpu-cpu.result c.cpu-cpu.ensures k (λ p k. dup_row p k c.get-in-23.result) (λ p own. row_of_one p (kernel_of c.args.man.now (g.M.Machine.held c.args.machine.now) k) c.cpu-cpu.result own c.get.result c.get.ensures 23 c.in-23.is (λ a. dup_row p (kernel_of c.args.man.now (g.M.Machine.held c.args.machine.now) k) a) refl c.get-in-23.result c.get-in-23.ensures) is_file_call (alone_stops g.M.Machine.held g.M.Machine.does g.M.Machine.stops g.met.M.Machine.lawful c.args.machine.now c.args.man.now c.args.pid.0 (λ p k. dup_row p k c.get-in-23.result) k)

pub returns-in_ok-sys_dup3-in-24-clause-ends : goal.returns-in_ok-sys_dup3-in-24-clause-ends
returns-in_ok-sys_dup3-in-24-clause-ends g c k =
    numbered_ends g.M.Machine.held g.M.Machine.does g.M.Machine.stops g.met.M.Machine.lawful c.args.machine.now c.sys_dup3.new.machine c.args.man.now c.args.pid.0 c.cpu-cpu.result c.cpu-cpu.ensures k (λ p k. dup3_row p k c.get-in-24.result c.get-in-24-2.result c.get-in-24-3.result) (λ p own. row_of_three p (kernel_of c.args.man.now (g.M.Machine.held c.args.machine.now) k) c.cpu-cpu.result own c.get.result c.get.ensures 24 c.in-24.is (λ a b d. dup3_row p (kernel_of c.args.man.now (g.M.Machine.held c.args.machine.now) k) a b d) refl c.get-in-24.result c.get-in-24-2.result c.get-in-24-3.result c.get-in-24.ensures c.get-in-24-2.ensures c.get-in-24-3.ensures) c.sys_dup3.new.man (Value c.in_ok-sys_dup3-in-24.field-0) (c.in_ok-sys_dup3-in-24.ensures.answers k)

pub returns-in_ok-sys_dup3-in-24-clause-stops : goal.returns-in_ok-sys_dup3-in-24-clause-stops
returns-in_ok-sys_dup3-in-24-clause-stops g c k =
    numbered_stops g.M.Machine.held g.M.Machine.does g.M.Machine.stops g.met.M.Machine.lawful c.args.machine.now c.sys_dup3.new.machine c.args.man.now c.args.pid.0 c.cpu-cpu.result c.cpu-cpu.ensures k (λ p k. dup3_row p k c.get-in-24.result c.get-in-24-2.result c.get-in-24-3.result) (λ p own. row_of_three p (kernel_of c.args.man.now (g.M.Machine.held c.args.machine.now) k) c.cpu-cpu.result own c.get.result c.get.ensures 24 c.in-24.is (λ a b d. dup3_row p (kernel_of c.args.man.now (g.M.Machine.held c.args.machine.now) k) a b d) refl c.get-in-24.result c.get-in-24-2.result c.get-in-24-3.result c.get-in-24.ensures c.get-in-24-2.ensures c.get-in-24-3.ensures) is_file_call (c.sys_dup3.ensures.stops k)

pub returns-in_err-sys_dup3-in-24-clause-stops : goal.returns-in_err-sys_dup3-in-24-clause-stops
returns-in_err-sys_dup3-in-24-clause-stops g c k =
    numbered_stops g.M.Machine.held g.M.Machine.does g.M.Machine.stops g.met.M.Machine.lawful c.args.machine.now c.sys_dup3.new.machine c.args.man.now c.args.pid.0 c.cpu-cpu.result c.cpu-cpu.ensures k (λ p k. dup3_row p k c.get-in-24.result c.get-in-24-2.result c.get-in-24-3.result) (λ p own. row_of_three p (kernel_of c.args.man.now (g.M.Machine.held c.args.machine.now) k) c.cpu-cpu.result own c.get.result c.get.ensures 24 c.in-24.is (λ a b d. dup3_row p (kernel_of c.args.man.now (g.M.Machine.held c.args.machine.now) k) a b d) refl c.get-in-24.result c.get-in-24-2.result c.get-in-24-3.result c.get-in-24.ensures c.get-in-24-2.ensures c.get-in-24-3.ensures) is_file_call (c.sys_dup3.ensures.stops k)

pub returns-in_ok-sys_unlinkat-in-35-clause-ends : goal.returns-in_ok-sys_unlinkat-in-35-clause-ends
returns-in_ok-sys_unlinkat-in-35-clause-ends g c k =
    numbered_ends g.M.Machine.held g.M.Machine.does g.M.Machine.stops g.met.M.Machine.lawful c.args.machine.now c.sys_unlinkat.new.machine c.args.man.now c.args.pid.0 c.cpu-cpu.result c.cpu-cpu.ensures k (λ p k. unlinkat_row p k c.get-in-35.result c.get-in-35-2.result c.get-in-35-3.result) (λ p own. row_of_three p (kernel_of c.args.man.now (g.M.Machine.held c.args.machine.now) k) c.cpu-cpu.result own c.get.result c.get.ensures 35 c.in-35.is (λ a b d. unlinkat_row p (kernel_of c.args.man.now (g.M.Machine.held c.args.machine.now) k) a b d) refl c.get-in-35.result c.get-in-35-2.result c.get-in-35-3.result c.get-in-35.ensures c.get-in-35-2.ensures c.get-in-35-3.ensures) c.args.man.now (Value c.in_ok-sys_unlinkat-in-35.field-0) (c.in_ok-sys_unlinkat-in-35.ensures.answers k)

pub returns-in_ok-sys_unlinkat-in-35-clause-stops : goal.returns-in_ok-sys_unlinkat-in-35-clause-stops
returns-in_ok-sys_unlinkat-in-35-clause-stops g c k =
    numbered_stops g.M.Machine.held g.M.Machine.does g.M.Machine.stops g.met.M.Machine.lawful c.args.machine.now c.sys_unlinkat.new.machine c.args.man.now c.args.pid.0 c.cpu-cpu.result c.cpu-cpu.ensures k (λ p k. unlinkat_row p k c.get-in-35.result c.get-in-35-2.result c.get-in-35-3.result) (λ p own. row_of_three p (kernel_of c.args.man.now (g.M.Machine.held c.args.machine.now) k) c.cpu-cpu.result own c.get.result c.get.ensures 35 c.in-35.is (λ a b d. unlinkat_row p (kernel_of c.args.man.now (g.M.Machine.held c.args.machine.now) k) a b d) refl c.get-in-35.result c.get-in-35-2.result c.get-in-35-3.result c.get-in-35.ensures c.get-in-35-2.ensures c.get-in-35-3.ensures) is_file_call (c.sys_unlinkat.ensures.stops k)

pub returns-in_err-sys_unlinkat-in-35-clause-stops : goal.returns-in_err-sys_unlinkat-in-35-clause-stops
returns-in_err-sys_unlinkat-in-35-clause-stops g c k =
    numbered_stops g.M.Machine.held g.M.Machine.does g.M.Machine.stops g.met.M.Machine.lawful c.args.machine.now c.sys_unlinkat.new.machine c.args.man.now c.args.pid.0 c.cpu-cpu.result c.cpu-cpu.ensures k (λ p k. unlinkat_row p k c.get-in-35.result c.get-in-35-2.result c.get-in-35-3.result) (λ p own. row_of_three p (kernel_of c.args.man.now (g.M.Machine.held c.args.machine.now) k) c.cpu-cpu.result own c.get.result c.get.ensures 35 c.in-35.is (λ a b d. unlinkat_row p (kernel_of c.args.man.now (g.M.Machine.held c.args.machine.now) k) a b d) refl c.get-in-35.result c.get-in-35-2.result c.get-in-35-3.result c.get-in-35.ensures c.get-in-35-2.ensures c.get-in-35-3.ensures) is_file_call (c.sys_unlinkat.ensures.stops k)

pub returns-in_ok-sys_ftruncate-in-46-clause-ends : goal.returns-in_ok-sys_ftruncate-in-46-clause-ends
returns-in_ok-sys_ftruncate-in-46-clause-ends g c k =
    numbered_ends g.M.Machine.held g.M.Machine.does g.M.Machine.stops g.met.M.Machine.lawful c.args.machine.now c.sys_ftruncate.new.machine c.args.man.now c.args.pid.0 c.cpu-cpu.result c.cpu-cpu.ensures k (λ p k. ftruncate_row p k c.get-in-46.result c.get-in-46-2.result) (λ p own. row_of_two p (kernel_of c.args.man.now (g.M.Machine.held c.args.machine.now) k) c.cpu-cpu.result own c.get.result c.get.ensures 46 c.in-46.is (λ a b. ftruncate_row p (kernel_of c.args.man.now (g.M.Machine.held c.args.machine.now) k) a b) refl c.get-in-46.result c.get-in-46-2.result c.get-in-46.ensures c.get-in-46-2.ensures) c.args.man.now (Value c.in_ok-sys_ftruncate-in-46.field-0) (c.in_ok-sys_ftruncate-in-46.ensures.answers k)

pub returns-in_ok-sys_ftruncate-in-46-clause-stops : goal.returns-in_ok-sys_ftruncate-in-46-clause-stops
returns-in_ok-sys_ftruncate-in-46-clause-stops g c k =
    numbered_stops g.M.Machine.held g.M.Machine.does g.M.Machine.stops g.met.M.Machine.lawful c.args.machine.now c.sys_ftruncate.new.machine c.args.man.now c.args.pid.0 c.cpu-cpu.result c.cpu-cpu.ensures k (λ p k. ftruncate_row p k c.get-in-46.result c.get-in-46-2.result) (λ p own. row_of_two p (kernel_of c.args.man.now (g.M.Machine.held c.args.machine.now) k) c.cpu-cpu.result own c.get.result c.get.ensures 46 c.in-46.is (λ a b. ftruncate_row p (kernel_of c.args.man.now (g.M.Machine.held c.args.machine.now) k) a b) refl c.get-in-46.result c.get-in-46-2.result c.get-in-46.ensures c.get-in-46-2.ensures) is_file_call (c.sys_ftruncate.ensures.stops k)

pub returns-in_err-sys_ftruncate-in-46-clause-stops : goal.returns-in_err-sys_ftruncate-in-46-clause-stops
returns-in_err-sys_ftruncate-in-46-clause-stops g c k =
    numbered_stops g.M.Machine.held g.M.Machine.does g.M.Machine.stops g.met.M.Machine.lawful c.args.machine.now c.sys_ftruncate.new.machine c.args.man.now c.args.pid.0 c.cpu-cpu.result c.cpu-cpu.ensures k (λ p k. ftruncate_row p k c.get-in-46.result c.get-in-46-2.result) (λ p own. row_of_two p (kernel_of c.args.man.now (g.M.Machine.held c.args.machine.now) k) c.cpu-cpu.result own c.get.result c.get.ensures 46 c.in-46.is (λ a b. ftruncate_row p (kernel_of c.args.man.now (g.M.Machine.held c.args.machine.now) k) a b) refl c.get-in-46.result c.get-in-46-2.result c.get-in-46.ensures c.get-in-46-2.ensures) is_file_call (c.sys_ftruncate.ensures.stops k)

pub returns-in_ok-sys_openat-in-56-clause-ends : goal.returns-in_ok-sys_openat-in-56-clause-ends
returns-in_ok-sys_openat-in-56-clause-ends g c k =
    numbered_ends g.M.Machine.held g.M.Machine.does g.M.Machine.stops g.met.M.Machine.lawful c.args.machine.now c.sys_openat.new.machine c.args.man.now c.args.pid.0 c.cpu-cpu.result c.cpu-cpu.ensures k (λ p k. openat_row p k c.get-in-56.result c.get-in-56-2.result c.get-in-56-3.result) (λ p own. row_of_three p (kernel_of c.args.man.now (g.M.Machine.held c.args.machine.now) k) c.cpu-cpu.result own c.get.result c.get.ensures 56 c.in-56.is (λ a b d. openat_row p (kernel_of c.args.man.now (g.M.Machine.held c.args.machine.now) k) a b d) refl c.get-in-56.result c.get-in-56-2.result c.get-in-56-3.result c.get-in-56.ensures c.get-in-56-2.ensures c.get-in-56-3.ensures) c.sys_openat.new.man (Value c.in_ok-sys_openat-in-56.field-0) (c.in_ok-sys_openat-in-56.ensures.answers k)

pub returns-in_ok-sys_openat-in-56-clause-stops : goal.returns-in_ok-sys_openat-in-56-clause-stops
returns-in_ok-sys_openat-in-56-clause-stops g c k =
    numbered_stops g.M.Machine.held g.M.Machine.does g.M.Machine.stops g.met.M.Machine.lawful c.args.machine.now c.sys_openat.new.machine c.args.man.now c.args.pid.0 c.cpu-cpu.result c.cpu-cpu.ensures k (λ p k. openat_row p k c.get-in-56.result c.get-in-56-2.result c.get-in-56-3.result) (λ p own. row_of_three p (kernel_of c.args.man.now (g.M.Machine.held c.args.machine.now) k) c.cpu-cpu.result own c.get.result c.get.ensures 56 c.in-56.is (λ a b d. openat_row p (kernel_of c.args.man.now (g.M.Machine.held c.args.machine.now) k) a b d) refl c.get-in-56.result c.get-in-56-2.result c.get-in-56-3.result c.get-in-56.ensures c.get-in-56-2.ensures c.get-in-56-3.ensures) is_file_call (c.sys_openat.ensures.stops k)

pub returns-in_err-sys_openat-in-56-clause-stops : goal.returns-in_err-sys_openat-in-56-clause-stops
returns-in_err-sys_openat-in-56-clause-stops g c k =
    numbered_stops g.M.Machine.held g.M.Machine.does g.M.Machine.stops g.met.M.Machine.lawful c.args.machine.now c.sys_openat.new.machine c.args.man.now c.args.pid.0 c.cpu-cpu.result c.cpu-cpu.ensures k (λ p k. openat_row p k c.get-in-56.result c.get-in-56-2.result c.get-in-56-3.result) (λ p own. row_of_three p (kernel_of c.args.man.now (g.M.Machine.held c.args.machine.now) k) c.cpu-cpu.result own c.get.result c.get.ensures 56 c.in-56.is (λ a b d. openat_row p (kernel_of c.args.man.now (g.M.Machine.held c.args.machine.now) k) a b d) refl c.get-in-56.result c.get-in-56-2.result c.get-in-56-3.result c.get-in-56.ensures c.get-in-56-2.ensures c.get-in-56-3.ensures) is_file_call (c.sys_openat.ensures.stops k)

pub returns-in_ok-sys_close-in-57-clause-ends : goal.returns-in_ok-sys_close-in-57-clause-ends
returns-in_ok-sys_close-in-57-clause-ends g c k =
    numbered_ends g.M.Machine.held g.M.Machine.does g.M.Machine.stops g.met.M.Machine.lawful c.args.machine.now c.sys_close.new.machine c.args.man.now c.args.pid.0 c.cpu-cpu.result c.cpu-cpu.ensures k (λ p k. close_row p k c.get-in-57.result) (λ p own. row_of_one p (kernel_of c.args.man.now (g.M.Machine.held c.args.machine.now) k) c.cpu-cpu.result own c.get.result c.get.ensures 57 c.in-57.is (λ a. close_row p (kernel_of c.args.man.now (g.M.Machine.held c.args.machine.now) k) a) refl c.get-in-57.result c.get-in-57.ensures) c.sys_close.new.man (Value c.in_ok-sys_close-in-57.field-0) (c.in_ok-sys_close-in-57.ensures.answers k)

pub returns-in_ok-sys_close-in-57-clause-stops : goal.returns-in_ok-sys_close-in-57-clause-stops
returns-in_ok-sys_close-in-57-clause-stops g c k =
    numbered_stops g.M.Machine.held g.M.Machine.does g.M.Machine.stops g.met.M.Machine.lawful c.args.machine.now c.sys_close.new.machine c.args.man.now c.args.pid.0 c.cpu-cpu.result c.cpu-cpu.ensures k (λ p k. close_row p k c.get-in-57.result) (λ p own. row_of_one p (kernel_of c.args.man.now (g.M.Machine.held c.args.machine.now) k) c.cpu-cpu.result own c.get.result c.get.ensures 57 c.in-57.is (λ a. close_row p (kernel_of c.args.man.now (g.M.Machine.held c.args.machine.now) k) a) refl c.get-in-57.result c.get-in-57.ensures) is_file_call (c.sys_close.ensures.stops k)

pub returns-in_err-sys_close-in-57-clause-stops : goal.returns-in_err-sys_close-in-57-clause-stops
returns-in_err-sys_close-in-57-clause-stops g c k =
    numbered_stops g.M.Machine.held g.M.Machine.does g.M.Machine.stops g.met.M.Machine.lawful c.args.machine.now c.sys_close.new.machine c.args.man.now c.args.pid.0 c.cpu-cpu.result c.cpu-cpu.ensures k (λ p k. close_row p k c.get-in-57.result) (λ p own. row_of_one p (kernel_of c.args.man.now (g.M.Machine.held c.args.machine.now) k) c.cpu-cpu.result own c.get.result c.get.ensures 57 c.in-57.is (λ a. close_row p (kernel_of c.args.man.now (g.M.Machine.held c.args.machine.now) k) a) refl c.get-in-57.result c.get-in-57.ensures) is_file_call (c.sys_close.ensures.stops k)

pub returns-in_ok-sys_pipe2-in-59-clause-ends : goal.returns-in_ok-sys_pipe2-in-59-clause-ends
returns-in_ok-sys_pipe2-in-59-clause-ends g c k =
    numbered_ends g.M.Machine.held g.M.Machine.does g.M.Machine.stops g.met.M.Machine.lawful c.args.machine.now c.sys_pipe2.new.machine c.args.man.now c.args.pid.0 c.cpu-cpu.result c.cpu-cpu.ensures k (λ p k. pipe2_row p k c.get-in-59.result c.get-in-59-2.result) (λ p own. row_of_two p (kernel_of c.args.man.now (g.M.Machine.held c.args.machine.now) k) c.cpu-cpu.result own c.get.result c.get.ensures 59 c.in-59.is (λ a b. pipe2_row p (kernel_of c.args.man.now (g.M.Machine.held c.args.machine.now) k) a b) refl c.get-in-59.result c.get-in-59-2.result c.get-in-59.ensures c.get-in-59-2.ensures) c.sys_pipe2.new.man (Value c.in_ok-sys_pipe2-in-59.field-0) (c.in_ok-sys_pipe2-in-59.ensures.answers k)

pub returns-in_ok-sys_pipe2-in-59-clause-stops : goal.returns-in_ok-sys_pipe2-in-59-clause-stops
returns-in_ok-sys_pipe2-in-59-clause-stops g c k =
    numbered_stops g.M.Machine.held g.M.Machine.does g.M.Machine.stops g.met.M.Machine.lawful c.args.machine.now c.sys_pipe2.new.machine c.args.man.now c.args.pid.0 c.cpu-cpu.result c.cpu-cpu.ensures k (λ p k. pipe2_row p k c.get-in-59.result c.get-in-59-2.result) (λ p own. row_of_two p (kernel_of c.args.man.now (g.M.Machine.held c.args.machine.now) k) c.cpu-cpu.result own c.get.result c.get.ensures 59 c.in-59.is (λ a b. pipe2_row p (kernel_of c.args.man.now (g.M.Machine.held c.args.machine.now) k) a b) refl c.get-in-59.result c.get-in-59-2.result c.get-in-59.ensures c.get-in-59-2.ensures) is_file_call (c.sys_pipe2.ensures.stops k)

pub returns-in_err-sys_pipe2-in-59-clause-stops : goal.returns-in_err-sys_pipe2-in-59-clause-stops
returns-in_err-sys_pipe2-in-59-clause-stops g c k =
    numbered_stops g.M.Machine.held g.M.Machine.does g.M.Machine.stops g.met.M.Machine.lawful c.args.machine.now c.sys_pipe2.new.machine c.args.man.now c.args.pid.0 c.cpu-cpu.result c.cpu-cpu.ensures k (λ p k. pipe2_row p k c.get-in-59.result c.get-in-59-2.result) (λ p own. row_of_two p (kernel_of c.args.man.now (g.M.Machine.held c.args.machine.now) k) c.cpu-cpu.result own c.get.result c.get.ensures 59 c.in-59.is (λ a b. pipe2_row p (kernel_of c.args.man.now (g.M.Machine.held c.args.machine.now) k) a b) refl c.get-in-59.result c.get-in-59-2.result c.get-in-59.ensures c.get-in-59-2.ensures) is_file_call (c.sys_pipe2.ensures.stops k)

pub returns-in_ok-sys_lseek-in-62-clause-ends : goal.returns-in_ok-sys_lseek-in-62-clause-ends
returns-in_ok-sys_lseek-in-62-clause-ends g c k =
    numbered_ends g.M.Machine.held g.M.Machine.does g.M.Machine.stops g.met.M.Machine.lawful c.args.machine.now c.sys_lseek.new.machine c.args.man.now c.args.pid.0 c.cpu-cpu.result c.cpu-cpu.ensures k (λ p k. lseek_row p k c.get-in-62.result c.get-in-62-2.result c.get-in-62-3.result) (λ p own. row_of_three p (kernel_of c.args.man.now (g.M.Machine.held c.args.machine.now) k) c.cpu-cpu.result own c.get.result c.get.ensures 62 c.in-62.is (λ a b d. lseek_row p (kernel_of c.args.man.now (g.M.Machine.held c.args.machine.now) k) a b d) refl c.get-in-62.result c.get-in-62-2.result c.get-in-62-3.result c.get-in-62.ensures c.get-in-62-2.ensures c.get-in-62-3.ensures) c.sys_lseek.new.man (Value c.in_ok-sys_lseek-in-62.field-0) (c.in_ok-sys_lseek-in-62.ensures.answers k)

pub returns-in_ok-sys_lseek-in-62-clause-stops : goal.returns-in_ok-sys_lseek-in-62-clause-stops
returns-in_ok-sys_lseek-in-62-clause-stops g c k =
    numbered_stops g.M.Machine.held g.M.Machine.does g.M.Machine.stops g.met.M.Machine.lawful c.args.machine.now c.sys_lseek.new.machine c.args.man.now c.args.pid.0 c.cpu-cpu.result c.cpu-cpu.ensures k (λ p k. lseek_row p k c.get-in-62.result c.get-in-62-2.result c.get-in-62-3.result) (λ p own. row_of_three p (kernel_of c.args.man.now (g.M.Machine.held c.args.machine.now) k) c.cpu-cpu.result own c.get.result c.get.ensures 62 c.in-62.is (λ a b d. lseek_row p (kernel_of c.args.man.now (g.M.Machine.held c.args.machine.now) k) a b d) refl c.get-in-62.result c.get-in-62-2.result c.get-in-62-3.result c.get-in-62.ensures c.get-in-62-2.ensures c.get-in-62-3.ensures) is_file_call (c.sys_lseek.ensures.stops k)

pub returns-in_err-sys_lseek-in-62-clause-stops : goal.returns-in_err-sys_lseek-in-62-clause-stops
returns-in_err-sys_lseek-in-62-clause-stops g c k =
    numbered_stops g.M.Machine.held g.M.Machine.does g.M.Machine.stops g.met.M.Machine.lawful c.args.machine.now c.sys_lseek.new.machine c.args.man.now c.args.pid.0 c.cpu-cpu.result c.cpu-cpu.ensures k (λ p k. lseek_row p k c.get-in-62.result c.get-in-62-2.result c.get-in-62-3.result) (λ p own. row_of_three p (kernel_of c.args.man.now (g.M.Machine.held c.args.machine.now) k) c.cpu-cpu.result own c.get.result c.get.ensures 62 c.in-62.is (λ a b d. lseek_row p (kernel_of c.args.man.now (g.M.Machine.held c.args.machine.now) k) a b d) refl c.get-in-62.result c.get-in-62-2.result c.get-in-62-3.result c.get-in-62.ensures c.get-in-62-2.ensures c.get-in-62-3.ensures) is_file_call (c.sys_lseek.ensures.stops k)
