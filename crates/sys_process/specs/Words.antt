-- Words of the calls' contracts.
use Rattle.std.specs.Prelude.{◌≡◌, ℕ, ◌+◌, ◌-◌, ◌<◌, ◌^◌, ◌==◌, ◌||◌, Bool, if◌then◌else◌, List, [], ◌∷◌, Option, Some}
use Rattle.lego_base.specs.Space.{bytes_of, no_space}
use Rattle.kernel_objects.specs.Slots.{picks, slot}
use Rattle.linux_model.specs.Descriptors.{closing_if, closings}
use Rattle.linux_model.specs.Buffers.{to_write, where_good}
use Rattle.linux_model.specs.Called.{Called}
use Rattle.linux_model.specs.Effects.{Effect, Writes, CopyOut}
use Rattle.linux_model.specs.Held.{Held}
use Rattle.linux_model.specs.Managed.{Managed, with_managed}
use Rattle.linux_model.specs.Processes.{Dead, dead_child, fds_of, has_child, process}
use Rattle.linux_model.specs.State.{Kernel, Process}
use Rattle.linux_model.specs.ProcessCalls.{reaps, status_buffer}
use Rattle.proc_table.specs.Entries.{reaped_of}
use Rattle.proc_table.specs.declared.table.Reaped.{Reaped}

-- what a parent finds that waits for a child of a pid, or for any
abbrev pub child_found : ℕ → ℕ → Managed → Reaped
child_found parent want m = reaped_of (has_child parent want m.procs) (dead_child parent want m.procs)

-- what comes of who was found, where the status may be written
abbrev pub status_row : ℕ → ℕ → Option Dead → Process → Kernel → Called
status_row address options dead p k = where_good p k to_write (status_buffer address) (reaps p address options dead)

abbrev pub died : ℕ → ℕ → Option Dead
died child status = Some (record { pid = child; status = status })

-- the copy of a wait status, none where the address is 0
abbrev pub status_copies : ℕ → ℕ → ℕ → List Effect
status_copies pid address status = if address == 0 then [] else Writes CopyOut pid address (bytes_of 4 status) ∷ []

-- There is a pid for another process, and nothing is left of one that had it.
pub record CanFork (man : Managed) (held : Held) : Type 0 where
  pub last : man.last < 2 ^ 32 - 1
  pub bare : held.space (man.last + 1) ≡ no_space

-- the closing of all descriptors of a process, or of those alone that execve(2) closes; and of one of them
abbrev pub closings_of : Bool → ℕ → Managed → Kernel → List Effect
closings_of all pid m k = closings (λ e. all || e.cloexec) pid 0 (fds_of (process m.procs pid)) (with_managed m k)

abbrev pub closing_of : Bool → ℕ → ℕ → Managed → Kernel → List Effect
closing_of all pid fd m k = closing_if (picks (λ e. all || e.cloexec) (slot (fds_of (process m.procs pid)) fd)) pid fd (with_managed m k)
