use Rattle.std.proofs.Common.{◌≡◌, ◌++◌, drop, map}
use Rattle.lego_base.specs.declared.ids.Pid.{Pid}
use Rattle.linux_model.specs.Managed.{with_managed}
use Rattle.linux_model.specs.State.{Kernel}
use Rattle.linux_model.specs.Turns.{ready, ready_in}
use Rattle.manager.proofs.manager.Manager.ready.Given as goal

abbrev pub invariant-loop-place : goal.invariant-loop-place
invariant-loop-place l =
    (k : Kernel) → map (λ (pid : Pid). pid.0) l.ready.items ++ ready_in (with_managed l.self k) (drop l.place l.self.procs) ≡ ready (with_managed l.self k)
