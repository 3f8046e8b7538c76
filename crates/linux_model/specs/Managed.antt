-- The part of the kernel that its manager holds: processes, descriptions, pipes, standard input and exits.
use Rattle.std.specs.Prelude.{ℕ, List, [], ◌∷◌, Option}
use Rattle.lego_base.specs.declared.report.Exit.{Exit}
use Rattle.kernel_objects.specs.declared.descriptor.Description.{Description}
use Rattle.linux_model.specs.State.{Kernel, Process, unbooted}
use Rattle.linux_model.specs.Effects.{Effect, apply}

pub record Managed : Type 0 where
  pub procs : List Process
  pub last : ℕ
  pub descs : List (Option Description)
  pub pipes : List (Option (List ℕ))
  pub input : List ℕ
  pub exits : List Exit

abbrev pub managed_in : Kernel → Managed
managed_in k = record { procs = k.procs; last = k.last; descs = k.descs; pipes = k.pipes; input = k.input; exits = k.exits }

-- a kernel with this in place of what it manages
abbrev pub with_managed : Managed → Kernel → Kernel
with_managed m k = record k { procs = m.procs; last = m.last; descs = m.descs; pipes = m.pipes; input = m.input; exits = m.exits }

-- what an effect makes of this part
abbrev pub managed_after : Effect → Managed → Managed
managed_after e m = managed_in (apply e (with_managed m (unbooted [])))

abbrev pub managed_after_all : List Effect → Managed → Managed
managed_after_all [] m = m
managed_after_all (e ∷ es) m = managed_after_all es (managed_after e m)
