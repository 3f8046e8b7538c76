-- The system calls: the number is in register 17 (a7), arguments are in registers 10 to 15 (a0 to a5), and the answer
-- goes to register 10, as in syscall(2) for RISC-V.
use Rattle.std.specs.Prelude.{ℕ, ◌==◌, ◌&&◌, Bool, false, if◌then◌else◌, nat_lt, nat_le, List, [], ◌∷◌, ◌++◌, length, Option, Some, None, is_none}
use Rattle.rv64_step.specs.Meaning.{reg, with_reg, next_pc}
use Rattle.kernel_objects.specs.declared.descriptor.Object.{Object}
use Rattle.kernel_objects.specs.declared.descriptor.Object.TheVariants.{PipeRead, PipeWrite}
use Rattle.kernel_objects.specs.declared.process.Waiting.{Waiting}
use Rattle.linux_model.specs.Limits.{ENOSYS, PIPE_BUF}
use Rattle.linux_model.specs.State.{Kernel, Process}
use Rattle.linux_model.specs.Processes.{has_reader, has_writer, has_child, dead_child}
use Rattle.linux_model.specs.Effects.{Effect, Returns, Keeps, applies, pipe_bytes}
use Rattle.linux_model.specs.Called.{Called, Gives, Becomes, Waits, Death, says}
use Rattle.linux_model.specs.Descriptors.{Open, arg, opened, close_row, dup_row, dup3_row, pipe2_row}
use Rattle.linux_model.specs.FileCalls.{room_of, unlinkat_row, openat_row, ftruncate_row, lseek_row, read_row, write_row, readv_row, writev_row, pread64_row, pwrite64_row}
use Rattle.linux_model.specs.SpaceCalls.{brk_row, munmap_row, mmap_row, mprotect_row}
use Rattle.linux_model.specs.ProcessCalls.{dying, exit_row, clone_row, execve_row, wait4_row}

pub data Call : Type 0 where
  Dup : Call
  Dup3 : Call
  Unlinkat : Call
  Ftruncate : Call
  Openat : Call
  Close : Call
  Pipe2 : Call
  Lseek : Call
  Read : Call
  Write : Call
  Readv : Call
  Writev : Call
  Pread64 : Call
  Pwrite64 : Call
  Exit : Call
  ExitGroup : Call
  SetTidAddress : Call
  SchedYield : Call
  GetPid : Call
  GetPpid : Call
  GetTid : Call
  BrkCall : Call
  Munmap : Call
  Clone : Call
  Execve : Call
  Mmap : Call
  Mprotect : Call
  Wait4 : Call

-- the table of numbers
abbrev pub call_of : ℕ → Option Call
call_of number =
    if number == 23 then Some Dup else (
    if number == 24 then Some Dup3 else (
    if number == 35 then Some Unlinkat else (
    if number == 46 then Some Ftruncate else (
    if number == 56 then Some Openat else (
    if number == 57 then Some Close else (
    if number == 59 then Some Pipe2 else (
    if number == 62 then Some Lseek else (
    if number == 63 then Some Read else (
    if number == 64 then Some Write else (
    if number == 65 then Some Readv else (
    if number == 66 then Some Writev else (
    if number == 67 then Some Pread64 else (
    if number == 68 then Some Pwrite64 else (
    if number == 93 then Some Exit else (
    if number == 94 then Some ExitGroup else (
    if number == 96 then Some SetTidAddress else (
    if number == 124 then Some SchedYield else (
    if number == 172 then Some GetPid else (
    if number == 173 then Some GetPpid else (
    if number == 178 then Some GetTid else (
    if number == 214 then Some BrkCall else (
    if number == 215 then Some Munmap else (
    if number == 220 then Some Clone else (
    if number == 221 then Some Execve else (
    if number == 222 then Some Mmap else (
    if number == 226 then Some Mprotect else (
    if number == 260 then Some Wait4 else
    None)))))))))))))))))))))))))))

abbrev pub call_by : Process → Option Call
call_by p = call_of (reg p.cpu 17)

-- A process has one thread, whose tid is the pid. sched_yield(2) ends the turn, as each call does.
abbrev pub row : Option Call → Process → Kernel → Called
row None p k = says ENOSYS
row (Some Dup) p k = dup_row p k (arg p 0)
row (Some Dup3) p k = dup3_row p k (arg p 0) (arg p 1) (arg p 2)
row (Some Unlinkat) p k = unlinkat_row p k (arg p 0) (arg p 1) (arg p 2)
row (Some Ftruncate) p k = ftruncate_row p k (arg p 0) (arg p 1)
row (Some Openat) p k = openat_row p k (arg p 0) (arg p 1) (arg p 2)
row (Some Close) p k = close_row p k (arg p 0)
row (Some Pipe2) p k = pipe2_row p k (arg p 0) (arg p 1)
row (Some Lseek) p k = lseek_row p k (arg p 0) (arg p 1) (arg p 2)
row (Some Read) p k = read_row p k (arg p 0) (arg p 1) (arg p 2)
row (Some Write) p k = write_row p k (arg p 0) (arg p 1) (arg p 2)
row (Some Readv) p k = readv_row p k (arg p 0) (arg p 1) (arg p 2)
row (Some Writev) p k = writev_row p k (arg p 0) (arg p 1) (arg p 2)
row (Some Pread64) p k = pread64_row p k (arg p 0) (arg p 1) (arg p 2) (arg p 3)
row (Some Pwrite64) p k = pwrite64_row p k (arg p 0) (arg p 1) (arg p 2) (arg p 3)
row (Some Exit) p k = exit_row (arg p 0)
row (Some ExitGroup) p k = exit_row (arg p 0)
row (Some SetTidAddress) p k = says p.pid
row (Some SchedYield) p k = says 0
row (Some GetPid) p k = says p.pid
row (Some GetPpid) p k = says p.parent
row (Some GetTid) p k = says p.pid
row (Some BrkCall) p k = brk_row p k (arg p 0)
row (Some Munmap) p k = munmap_row p k (arg p 0) (arg p 1)
row (Some Clone) p k = clone_row p k (arg p 0) (arg p 1)
row (Some Execve) p k = execve_row p k (arg p 0) (arg p 1) (arg p 2)
row (Some Mmap) p k = mmap_row p k (arg p 0) (arg p 1) (arg p 2) (arg p 3)
row (Some Mprotect) p k = mprotect_row p k (arg p 0) (arg p 1) (arg p 2)
row (Some Wait4) p k = wait4_row p k (arg p 0) (arg p 1) (arg p 2) (arg p 3)

-- what a call does: the process goes on after it, with the answer, or with other registers; or is kept waiting at the
-- call; or dies
abbrev pub called : Process → Called → Kernel → List Effect
called p (Gives effects value) k = effects ++ Returns p.pid (with_reg p.cpu 10 value (next_pc p.cpu)) ∷ []
called p (Becomes effects cpu) k = effects ++ Returns p.pid cpu ∷ []
called p (Waits effects moved len) k = effects ++ Keeps p.pid moved len ∷ []
called p (Death effects status) k = effects ++ dying p.pid status (applies effects k)

abbrev pub call_effects : Option Process → Kernel → List Effect
call_effects None k = []
call_effects (Some p) k = called p (row (call_by p) p k) k

-- ---- waiting

abbrev pub is_empty_for : Object → Kernel → Bool
is_empty_for (PipeRead pipe) k = length (pipe_bytes pipe k) == 0 && has_writer pipe k.descs
is_empty_for other k = false

-- a read waits while the pipe is empty and somebody may write to it
abbrev pub read_waits : Option Open → Kernel → Bool
read_waits None k = false
read_waits (Some o) k = is_empty_for o.is.object k

abbrev pub is_full_for : Object → ℕ → Kernel → Bool
is_full_for (PipeWrite pipe) len k =
    (if nat_le len PIPE_BUF then nat_lt (room_of pipe k) len else room_of pipe k == 0) && has_reader pipe k.descs
is_full_for other len k = false

-- a write waits while somebody may read from the pipe and it has no room: for all of up to PIPE_BUF bytes, for any of more
abbrev pub write_waits : Option Open → ℕ → Kernel → Bool
write_waits None len k = false
write_waits (Some o) len k = is_full_for o.is.object len k

-- wait4 waits while there is a child and no such child is dead
abbrev pub wait_waits : ℕ → ℕ → Kernel → Bool
wait_waits pid want k = has_child pid want k.procs && is_none (dead_child pid want k.procs)

-- whether the condition for which a kept call waits still holds
abbrev pub call_waits : Option Call → Process → Waiting → Kernel → Bool
call_waits (Some Read) p w k = read_waits (opened p (arg p 0) k) k
call_waits (Some Readv) p w k = read_waits (opened p (arg p 0) k) k
call_waits (Some Write) p w k = write_waits (opened p (arg p 0) k) w.len k
call_waits (Some Writev) p w k = write_waits (opened p (arg p 0) k) w.len k
call_waits (Some Wait4) p w k = wait_waits p.pid (arg p 0) k
call_waits other p w k = false

abbrev pub still_waits : Option Waiting → Process → Kernel → Bool
still_waits None p k = false
still_waits (Some w) p k = call_waits (call_by p) p w k
