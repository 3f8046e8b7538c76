-- A descriptor that is to be free.
use Rattle.std.specs.Prelude.{ℕ, List}
use Rattle.kernel_objects.specs.Slots.{slot}
use Rattle.linux_model.specs.State.{Kernel}
use Rattle.linux_model.specs.Processes.{fds_of, process}
use Rattle.linux_model.specs.Effects.{Effect}
use Rattle.linux_model.specs.Descriptors.{closing_entry}
use Rattle.linux_model.specs.Managed.{Managed, with_managed}

-- it is closed where it is open
abbrev pub freeing : ℕ → ℕ → Managed → Kernel → List Effect
freeing pid fd man k = closing_entry pid fd (slot (fds_of (process man.procs pid)) fd) (with_managed man k)
