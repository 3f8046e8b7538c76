use Rattle.std.proofs.Common.{refl}
use Rattle.linux_model.specs.FileCalls.{pread64_row, pwrite64_row, read_row, readv_row, write_row, writev_row}
use Rattle.call_machine.specs.declared.end.CallEnd.TheVariants.{Value}
use Rattle.call_machine.specs.Lent.{kernel_of}
use Rattle.call_parts.proofs.Numbered.{numbered_ends, numbered_stops, row_of_four, row_of_three}
use Rattle.sys_io.specs.Numbers.{is_io_call}
use Rattle.sys_io.proofs.dispatch.io_call.Goals as goal

pub returns-in_ok-sys_read-in-63-clause-ends : goal.returns-in_ok-sys_read-in-63-clause-ends
returns-in_ok-sys_read-in-63-clause-ends g c k =
    numbered_ends g.M.Machine.held g.M.Machine.does g.M.Machine.stops g.met.M.Machine.lawful c.args.machine.now c.sys_read.new.machine c.args.man.now c.args.pid.0 c.cpu-cpu.result c.cpu-cpu.ensures k (λ p k. read_row p k c.get-in-63.result c.get-in-63-2.result c.get-in-63-3.result) (λ p own. row_of_three p (kernel_of c.args.man.now (g.M.Machine.held c.args.machine.now) k) c.cpu-cpu.result own c.get.result c.get.ensures 63 c.in-63.is (λ a b d. read_row p (kernel_of c.args.man.now (g.M.Machine.held c.args.machine.now) k) a b d) refl c.get-in-63.result c.get-in-63-2.result c.get-in-63-3.result c.get-in-63.ensures c.get-in-63-2.ensures c.get-in-63-3.ensures) c.sys_read.new.man c.in_ok-sys_read-in-63.field-0 (c.in_ok-sys_read-in-63.ensures.ends k)

pub returns-in_ok-sys_read-in-63-clause-stops : goal.returns-in_ok-sys_read-in-63-clause-stops
returns-in_ok-sys_read-in-63-clause-stops g c k =
    numbered_stops g.M.Machine.held g.M.Machine.does g.M.Machine.stops g.met.M.Machine.lawful c.args.machine.now c.sys_read.new.machine c.args.man.now c.args.pid.0 c.cpu-cpu.result c.cpu-cpu.ensures k (λ p k. read_row p k c.get-in-63.result c.get-in-63-2.result c.get-in-63-3.result) (λ p own. row_of_three p (kernel_of c.args.man.now (g.M.Machine.held c.args.machine.now) k) c.cpu-cpu.result own c.get.result c.get.ensures 63 c.in-63.is (λ a b d. read_row p (kernel_of c.args.man.now (g.M.Machine.held c.args.machine.now) k) a b d) refl c.get-in-63.result c.get-in-63-2.result c.get-in-63-3.result c.get-in-63.ensures c.get-in-63-2.ensures c.get-in-63-3.ensures) is_io_call (c.sys_read.ensures.stops k)

pub returns-in_err-sys_read-in-63-clause-stops : goal.returns-in_err-sys_read-in-63-clause-stops
returns-in_err-sys_read-in-63-clause-stops g c k =
    numbered_stops g.M.Machine.held g.M.Machine.does g.M.Machine.stops g.met.M.Machine.lawful c.args.machine.now c.sys_read.new.machine c.args.man.now c.args.pid.0 c.cpu-cpu.result c.cpu-cpu.ensures k (λ p k. read_row p k c.get-in-63.result c.get-in-63-2.result c.get-in-63-3.result) (λ p own. row_of_three p (kernel_of c.args.man.now (g.M.Machine.held c.args.machine.now) k) c.cpu-cpu.result own c.get.result c.get.ensures 63 c.in-63.is (λ a b d. read_row p (kernel_of c.args.man.now (g.M.Machine.held c.args.machine.now) k) a b d) refl c.get-in-63.result c.get-in-63-2.result c.get-in-63-3.result c.get-in-63.ensures c.get-in-63-2.ensures c.get-in-63-3.ensures) is_io_call (c.sys_read.ensures.stops k)

pub returns-in_ok-sys_write-in-64-clause-ends : goal.returns-in_ok-sys_write-in-64-clause-ends
returns-in_ok-sys_write-in-64-clause-ends g c k =
    numbered_ends g.M.Machine.held g.M.Machine.does g.M.Machine.stops g.met.M.Machine.lawful c.args.machine.now c.sys_write.new.machine c.args.man.now c.args.pid.0 c.cpu-cpu.result c.cpu-cpu.ensures k (λ p k. write_row p k c.get-in-64.result c.get-in-64-2.result c.get-in-64-3.result) (λ p own. row_of_three p (kernel_of c.args.man.now (g.M.Machine.held c.args.machine.now) k) c.cpu-cpu.result own c.get.result c.get.ensures 64 c.in-64.is (λ a b d. write_row p (kernel_of c.args.man.now (g.M.Machine.held c.args.machine.now) k) a b d) refl c.get-in-64.result c.get-in-64-2.result c.get-in-64-3.result c.get-in-64.ensures c.get-in-64-2.ensures c.get-in-64-3.ensures) c.sys_write.new.man c.in_ok-sys_write-in-64.field-0 (c.in_ok-sys_write-in-64.ensures.ends k)

pub returns-in_ok-sys_write-in-64-clause-stops : goal.returns-in_ok-sys_write-in-64-clause-stops
returns-in_ok-sys_write-in-64-clause-stops g c k =
    numbered_stops g.M.Machine.held g.M.Machine.does g.M.Machine.stops g.met.M.Machine.lawful c.args.machine.now c.sys_write.new.machine c.args.man.now c.args.pid.0 c.cpu-cpu.result c.cpu-cpu.ensures k (λ p k. write_row p k c.get-in-64.result c.get-in-64-2.result c.get-in-64-3.result) (λ p own. row_of_three p (kernel_of c.args.man.now (g.M.Machine.held c.args.machine.now) k) c.cpu-cpu.result own c.get.result c.get.ensures 64 c.in-64.is (λ a b d. write_row p (kernel_of c.args.man.now (g.M.Machine.held c.args.machine.now) k) a b d) refl c.get-in-64.result c.get-in-64-2.result c.get-in-64-3.result c.get-in-64.ensures c.get-in-64-2.ensures c.get-in-64-3.ensures) is_io_call (c.sys_write.ensures.stops k)

pub returns-in_err-sys_write-in-64-clause-stops : goal.returns-in_err-sys_write-in-64-clause-stops
returns-in_err-sys_write-in-64-clause-stops g c k =
    numbered_stops g.M.Machine.held g.M.Machine.does g.M.Machine.stops g.met.M.Machine.lawful c.args.machine.now c.sys_write.new.machine c.args.man.now c.args.pid.0 c.cpu-cpu.result c.cpu-cpu.ensures k (λ p k. write_row p k c.get-in-64.result c.get-in-64-2.result c.get-in-64-3.result) (λ p own. row_of_three p (kernel_of c.args.man.now (g.M.Machine.held c.args.machine.now) k) c.cpu-cpu.result own c.get.result c.get.ensures 64 c.in-64.is (λ a b d. write_row p (kernel_of c.args.man.now (g.M.Machine.held c.args.machine.now) k) a b d) refl c.get-in-64.result c.get-in-64-2.result c.get-in-64-3.result c.get-in-64.ensures c.get-in-64-2.ensures c.get-in-64-3.ensures) is_io_call (c.sys_write.ensures.stops k)

pub returns-in_ok-sys_readv-in-65-clause-ends : goal.returns-in_ok-sys_readv-in-65-clause-ends
returns-in_ok-sys_readv-in-65-clause-ends g c k =
    numbered_ends g.M.Machine.held g.M.Machine.does g.M.Machine.stops g.met.M.Machine.lawful c.args.machine.now c.sys_readv.new.machine c.args.man.now c.args.pid.0 c.cpu-cpu.result c.cpu-cpu.ensures k (λ p k. readv_row p k c.get-in-65.result c.get-in-65-2.result c.get-in-65-3.result) (λ p own. row_of_three p (kernel_of c.args.man.now (g.M.Machine.held c.args.machine.now) k) c.cpu-cpu.result own c.get.result c.get.ensures 65 c.in-65.is (λ a b d. readv_row p (kernel_of c.args.man.now (g.M.Machine.held c.args.machine.now) k) a b d) refl c.get-in-65.result c.get-in-65-2.result c.get-in-65-3.result c.get-in-65.ensures c.get-in-65-2.ensures c.get-in-65-3.ensures) c.sys_readv.new.man c.in_ok-sys_readv-in-65.field-0 (c.in_ok-sys_readv-in-65.ensures.ends k)

pub returns-in_ok-sys_readv-in-65-clause-stops : goal.returns-in_ok-sys_readv-in-65-clause-stops
returns-in_ok-sys_readv-in-65-clause-stops g c k =
    numbered_stops g.M.Machine.held g.M.Machine.does g.M.Machine.stops g.met.M.Machine.lawful c.args.machine.now c.sys_readv.new.machine c.args.man.now c.args.pid.0 c.cpu-cpu.result c.cpu-cpu.ensures k (λ p k. readv_row p k c.get-in-65.result c.get-in-65-2.result c.get-in-65-3.result) (λ p own. row_of_three p (kernel_of c.args.man.now (g.M.Machine.held c.args.machine.now) k) c.cpu-cpu.result own c.get.result c.get.ensures 65 c.in-65.is (λ a b d. readv_row p (kernel_of c.args.man.now (g.M.Machine.held c.args.machine.now) k) a b d) refl c.get-in-65.result c.get-in-65-2.result c.get-in-65-3.result c.get-in-65.ensures c.get-in-65-2.ensures c.get-in-65-3.ensures) is_io_call (c.sys_readv.ensures.stops k)

pub returns-in_err-sys_readv-in-65-clause-stops : goal.returns-in_err-sys_readv-in-65-clause-stops
returns-in_err-sys_readv-in-65-clause-stops g c k =
    numbered_stops g.M.Machine.held g.M.Machine.does g.M.Machine.stops g.met.M.Machine.lawful c.args.machine.now c.sys_readv.new.machine c.args.man.now c.args.pid.0 c.cpu-cpu.result c.cpu-cpu.ensures k (λ p k. readv_row p k c.get-in-65.result c.get-in-65-2.result c.get-in-65-3.result) (λ p own. row_of_three p (kernel_of c.args.man.now (g.M.Machine.held c.args.machine.now) k) c.cpu-cpu.result own c.get.result c.get.ensures 65 c.in-65.is (λ a b d. readv_row p (kernel_of c.args.man.now (g.M.Machine.held c.args.machine.now) k) a b d) refl c.get-in-65.result c.get-in-65-2.result c.get-in-65-3.result c.get-in-65.ensures c.get-in-65-2.ensures c.get-in-65-3.ensures) is_io_call (c.sys_readv.ensures.stops k)

pub returns-in_ok-sys_writev-in-66-clause-ends : goal.returns-in_ok-sys_writev-in-66-clause-ends
returns-in_ok-sys_writev-in-66-clause-ends g c k =
    numbered_ends g.M.Machine.held g.M.Machine.does g.M.Machine.stops g.met.M.Machine.lawful c.args.machine.now c.sys_writev.new.machine c.args.man.now c.args.pid.0 c.cpu-cpu.result c.cpu-cpu.ensures k (λ p k. writev_row p k c.get-in-66.result c.get-in-66-2.result c.get-in-66-3.result) (λ p own. row_of_three p (kernel_of c.args.man.now (g.M.Machine.held c.args.machine.now) k) c.cpu-cpu.result own c.get.result c.get.ensures 66 c.in-66.is (λ a b d. writev_row p (kernel_of c.args.man.now (g.M.Machine.held c.args.machine.now) k) a b d) refl c.get-in-66.result c.get-in-66-2.result c.get-in-66-3.result c.get-in-66.ensures c.get-in-66-2.ensures c.get-in-66-3.ensures) c.sys_writev.new.man c.in_ok-sys_writev-in-66.field-0 (c.in_ok-sys_writev-in-66.ensures.ends k)

pub returns-in_ok-sys_writev-in-66-clause-stops : goal.returns-in_ok-sys_writev-in-66-clause-stops
returns-in_ok-sys_writev-in-66-clause-stops g c k =
    numbered_stops g.M.Machine.held g.M.Machine.does g.M.Machine.stops g.met.M.Machine.lawful c.args.machine.now c.sys_writev.new.machine c.args.man.now c.args.pid.0 c.cpu-cpu.result c.cpu-cpu.ensures k (λ p k. writev_row p k c.get-in-66.result c.get-in-66-2.result c.get-in-66-3.result) (λ p own. row_of_three p (kernel_of c.args.man.now (g.M.Machine.held c.args.machine.now) k) c.cpu-cpu.result own c.get.result c.get.ensures 66 c.in-66.is (λ a b d. writev_row p (kernel_of c.args.man.now (g.M.Machine.held c.args.machine.now) k) a b d) refl c.get-in-66.result c.get-in-66-2.result c.get-in-66-3.result c.get-in-66.ensures c.get-in-66-2.ensures c.get-in-66-3.ensures) is_io_call (c.sys_writev.ensures.stops k)

pub returns-in_err-sys_writev-in-66-clause-stops : goal.returns-in_err-sys_writev-in-66-clause-stops
returns-in_err-sys_writev-in-66-clause-stops g c k =
    numbered_stops g.M.Machine.held g.M.Machine.does g.M.Machine.stops g.met.M.Machine.lawful c.args.machine.now c.sys_writev.new.machine c.args.man.now c.args.pid.0 c.cpu-cpu.result c.cpu-cpu.ensures k (λ p k. writev_row p k c.get-in-66.result c.get-in-66-2.result c.get-in-66-3.result) (λ p own. row_of_three p (kernel_of c.args.man.now (g.M.Machine.held c.args.machine.now) k) c.cpu-cpu.result own c.get.result c.get.ensures 66 c.in-66.is (λ a b d. writev_row p (kernel_of c.args.man.now (g.M.Machine.held c.args.machine.now) k) a b d) refl c.get-in-66.result c.get-in-66-2.result c.get-in-66-3.result c.get-in-66.ensures c.get-in-66-2.ensures c.get-in-66-3.ensures) is_io_call (c.sys_writev.ensures.stops k)

pub returns-in_ok-sys_pread64-in-67-clause-ends : goal.returns-in_ok-sys_pread64-in-67-clause-ends
returns-in_ok-sys_pread64-in-67-clause-ends g c k =
    numbered_ends g.M.Machine.held g.M.Machine.does g.M.Machine.stops g.met.M.Machine.lawful c.args.machine.now c.sys_pread64.new.machine c.args.man.now c.args.pid.0 c.cpu-cpu.result c.cpu-cpu.ensures k (λ p k. pread64_row p k c.get-in-67.result c.get-in-67-2.result c.get-in-67-3.result c.get-in-67-4.result) (λ p own. row_of_four p (kernel_of c.args.man.now (g.M.Machine.held c.args.machine.now) k) c.cpu-cpu.result own c.get.result c.get.ensures 67 c.in-67.is (λ a b d e. pread64_row p (kernel_of c.args.man.now (g.M.Machine.held c.args.machine.now) k) a b d e) refl c.get-in-67.result c.get-in-67-2.result c.get-in-67-3.result c.get-in-67-4.result c.get-in-67.ensures c.get-in-67-2.ensures c.get-in-67-3.ensures c.get-in-67-4.ensures) c.args.man.now (Value c.in_ok-sys_pread64-in-67.field-0) (c.in_ok-sys_pread64-in-67.ensures.answers k)

pub returns-in_ok-sys_pread64-in-67-clause-stops : goal.returns-in_ok-sys_pread64-in-67-clause-stops
returns-in_ok-sys_pread64-in-67-clause-stops g c k =
    numbered_stops g.M.Machine.held g.M.Machine.does g.M.Machine.stops g.met.M.Machine.lawful c.args.machine.now c.sys_pread64.new.machine c.args.man.now c.args.pid.0 c.cpu-cpu.result c.cpu-cpu.ensures k (λ p k. pread64_row p k c.get-in-67.result c.get-in-67-2.result c.get-in-67-3.result c.get-in-67-4.result) (λ p own. row_of_four p (kernel_of c.args.man.now (g.M.Machine.held c.args.machine.now) k) c.cpu-cpu.result own c.get.result c.get.ensures 67 c.in-67.is (λ a b d e. pread64_row p (kernel_of c.args.man.now (g.M.Machine.held c.args.machine.now) k) a b d e) refl c.get-in-67.result c.get-in-67-2.result c.get-in-67-3.result c.get-in-67-4.result c.get-in-67.ensures c.get-in-67-2.ensures c.get-in-67-3.ensures c.get-in-67-4.ensures) is_io_call (c.sys_pread64.ensures.stops k)

pub returns-in_err-sys_pread64-in-67-clause-stops : goal.returns-in_err-sys_pread64-in-67-clause-stops
returns-in_err-sys_pread64-in-67-clause-stops g c k =
    numbered_stops g.M.Machine.held g.M.Machine.does g.M.Machine.stops g.met.M.Machine.lawful c.args.machine.now c.sys_pread64.new.machine c.args.man.now c.args.pid.0 c.cpu-cpu.result c.cpu-cpu.ensures k (λ p k. pread64_row p k c.get-in-67.result c.get-in-67-2.result c.get-in-67-3.result c.get-in-67-4.result) (λ p own. row_of_four p (kernel_of c.args.man.now (g.M.Machine.held c.args.machine.now) k) c.cpu-cpu.result own c.get.result c.get.ensures 67 c.in-67.is (λ a b d e. pread64_row p (kernel_of c.args.man.now (g.M.Machine.held c.args.machine.now) k) a b d e) refl c.get-in-67.result c.get-in-67-2.result c.get-in-67-3.result c.get-in-67-4.result c.get-in-67.ensures c.get-in-67-2.ensures c.get-in-67-3.ensures c.get-in-67-4.ensures) is_io_call (c.sys_pread64.ensures.stops k)

pub returns-in_ok-sys_pwrite64-in-68-clause-ends : goal.returns-in_ok-sys_pwrite64-in-68-clause-ends
returns-in_ok-sys_pwrite64-in-68-clause-ends g c k =
    numbered_ends g.M.Machine.held g.M.Machine.does g.M.Machine.stops g.met.M.Machine.lawful c.args.machine.now c.sys_pwrite64.new.machine c.args.man.now c.args.pid.0 c.cpu-cpu.result c.cpu-cpu.ensures k (λ p k. pwrite64_row p k c.get-in-68.result c.get-in-68-2.result c.get-in-68-3.result c.get-in-68-4.result) (λ p own. row_of_four p (kernel_of c.args.man.now (g.M.Machine.held c.args.machine.now) k) c.cpu-cpu.result own c.get.result c.get.ensures 68 c.in-68.is (λ a b d e. pwrite64_row p (kernel_of c.args.man.now (g.M.Machine.held c.args.machine.now) k) a b d e) refl c.get-in-68.result c.get-in-68-2.result c.get-in-68-3.result c.get-in-68-4.result c.get-in-68.ensures c.get-in-68-2.ensures c.get-in-68-3.ensures c.get-in-68-4.ensures) c.args.man.now (Value c.in_ok-sys_pwrite64-in-68.field-0) (c.in_ok-sys_pwrite64-in-68.ensures.answers k)

pub returns-in_ok-sys_pwrite64-in-68-clause-stops : goal.returns-in_ok-sys_pwrite64-in-68-clause-stops
returns-in_ok-sys_pwrite64-in-68-clause-stops g c k =
    numbered_stops g.M.Machine.held g.M.Machine.does g.M.Machine.stops g.met.M.Machine.lawful c.args.machine.now c.sys_pwrite64.new.machine c.args.man.now c.args.pid.0 c.cpu-cpu.result c.cpu-cpu.ensures k (λ p k. pwrite64_row p k c.get-in-68.result c.get-in-68-2.result c.get-in-68-3.result c.get-in-68-4.result) (λ p own. row_of_four p (kernel_of c.args.man.now (g.M.Machine.held c.args.machine.now) k) c.cpu-cpu.result own c.get.result c.get.ensures 68 c.in-68.is (λ a b d e. pwrite64_row p (kernel_of c.args.man.now (g.M.Machine.held c.args.machine.now) k) a b d e) refl c.get-in-68.result c.get-in-68-2.result c.get-in-68-3.result c.get-in-68-4.result c.get-in-68.ensures c.get-in-68-2.ensures c.get-in-68-3.ensures c.get-in-68-4.ensures) is_io_call (c.sys_pwrite64.ensures.stops k)

pub returns-in_err-sys_pwrite64-in-68-clause-stops : goal.returns-in_err-sys_pwrite64-in-68-clause-stops
returns-in_err-sys_pwrite64-in-68-clause-stops g c k =
    numbered_stops g.M.Machine.held g.M.Machine.does g.M.Machine.stops g.met.M.Machine.lawful c.args.machine.now c.sys_pwrite64.new.machine c.args.man.now c.args.pid.0 c.cpu-cpu.result c.cpu-cpu.ensures k (λ p k. pwrite64_row p k c.get-in-68.result c.get-in-68-2.result c.get-in-68-3.result c.get-in-68-4.result) (λ p own. row_of_four p (kernel_of c.args.man.now (g.M.Machine.held c.args.machine.now) k) c.cpu-cpu.result own c.get.result c.get.ensures 68 c.in-68.is (λ a b d e. pwrite64_row p (kernel_of c.args.man.now (g.M.Machine.held c.args.machine.now) k) a b d e) refl c.get-in-68.result c.get-in-68-2.result c.get-in-68-3.result c.get-in-68-4.result c.get-in-68.ensures c.get-in-68-2.ensures c.get-in-68-3.ensures c.get-in-68-4.ensures) is_io_call (c.sys_pwrite64.ensures.stops k)
