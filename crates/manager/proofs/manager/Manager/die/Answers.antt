use Rattle.std.proofs.Common.{◌≡◌, false, true, subst, sym, rules}
use Rattle.kernel_objects.specs.Slots.{holds_some}
use Rattle.linux_model.specs.Processes.{fds_of, process}
use Rattle.proc_table.specs.Entries.{Table}
use Rattle.manager.specs.Sound.{Sound}
use Rattle.manager.proofs.Deaths.{dead_sound}
use Rattle.manager.proofs.manager.Manager.die.Goals as goal

pub invariant_of-self-2 : goal.invariant_of-self-2
invariant_of-self-2 c =
    let closed : holds_some (λ e. true) (fds_of (process c.self.inside.procs.procs c.args.pid.0)) ≡ false = search rules in
    subst (λ (t : Table). Sound t c.self.inside.descs c.self.inside.pipes) (sym c.die.ensures)
    (dead_sound c.self.inside.procs c.self.inside.descs c.self.inside.pipes c.args.pid.0 c.args.status closed c.self.invariant)
