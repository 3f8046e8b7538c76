use Rattle.std.proofs.Common.{subst, sym, Some}
use Rattle.proc_table.specs.Entries.{Table}
use Rattle.manager.specs.Sound.{Sound}
use Rattle.manager.proofs.Changes.{waiting_changed}
use Rattle.manager.proofs.manager.Manager.set_waiting.Goals as goal

pub invariant_of-self : goal.invariant_of-self
invariant_of-self c =
    subst (λ (t : Table). Sound t c.self.inside.descs c.self.inside.pipes) (sym c.set_waiting.ensures)
    (waiting_changed c.self.inside.procs c.self.inside.descs c.self.inside.pipes c.args.pid.0 (Some c.args.waiting) c.self.invariant)
