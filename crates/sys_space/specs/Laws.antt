-- What a reader may ask of the calls' clauses.
use Rattle.std.specs.Prelude.{◌≡◌, Some}
use Rattle.linux_model.specs.State.{Kernel, Process}
use Rattle.linux_model.specs.Processes.{process}
use Rattle.linux_model.specs.Fits.{PidsRise}
use Rattle.linux_model.specs.Held.{held_in, with_held}
use Rattle.sys_space.specs.Calls.{kernel_with, with_break, with_pid}

-- A process of a kernel whose pids rise, and what a machine holds of that kernel, are its own parts.
pub record IsThere (k : Kernel) (p : Process) : Type 0 where
  pub caller : with_break p.brk (with_pid p.pid p) ≡ p
  pub held : with_held (held_in k) k ≡ k
  pub lent : kernel_with p.pid p.brk (held_in k) k ≡ k

abbrev pub LentIsThere : Type 0
LentIsThere = (k : Kernel) (p : Process) → PidsRise 0 k.last k.procs → process k.procs p.pid ≡ Some p → IsThere k p
