use Rattle.std.proofs.Common.{◌≡◌, ◌∙◌, ap, subst, sym, rules, None}
use Rattle.linux_model.specs.Processes.{at_pid}
use Rattle.proc_table.specs.Entries.{Table}
use Rattle.manager.specs.Sound.{Sound}
use Rattle.manager.proofs.Changes.{cpu_changed, waiting_changed, returned}
use Rattle.manager.proofs.manager.Manager.returns.Goals as goal

pub invariant_of-self : goal.invariant_of-self
invariant_of-self c =
    let S = λ (t : Table). Sound t c.self.inside.descs c.self.inside.pipes in
    subst S (sym c.set_waiting.ensures)
    (waiting_changed c.set_cpu.new.self c.self.inside.descs c.self.inside.pipes c.args.pid.0 None
    (subst S (sym c.set_cpu.ensures) (cpu_changed c.self.inside.procs c.self.inside.descs c.self.inside.pipes c.args.pid.0 c.args.cpu c.self.invariant)))

pub returns : goal.returns
returns c =
    let both : c.set_waiting.new.self.procs ≡ at_pid c.args.pid.0 (λ p. record p { cpu = c.args.cpu; waiting = None }) c.self.inside.procs.procs =
    ap (λ (t : Table). t.procs) c.set_waiting.ensures
    ∙ ap (λ (t : Table). at_pid c.args.pid.0 (λ p. record p { waiting = None }) t.procs) c.set_cpu.ensures
    ∙ returned c.args.pid.0 c.args.cpu c.self.inside.procs.procs in
    search (rules, both)
