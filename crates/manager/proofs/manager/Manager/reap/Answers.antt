use Rattle.std.proofs.Common.{◌≡◌, ◌∙◌, ap, subst, sym, rules}
use Rattle.proc_table.specs.Entries.{Table, child_for}
use Rattle.manager.specs.Sound.{Sound, managed_of}
use Rattle.manager.specs.Words.{after_reaped}
use Rattle.manager.proofs.Deaths.{reaped_sound, reaped_is}
use Rattle.manager.proofs.manager.Manager.reap.Goals as goal

pub invariant_of-self : goal.invariant_of-self
invariant_of-self c =
    let found : c.reap.result ≡ child_for c.args.parent.0 c.args.want c.self.inside.procs = search rules in
    subst (λ (t : Table). Sound t c.self.inside.descs c.self.inside.pipes) (sym c.reap.ensures.gone)
    (reaped_sound c.reap.result c.self.inside.procs c.self.inside.descs c.self.inside.pipes c.args.parent.0 c.args.want found c.self.invariant)

pub returns-clause-gone : goal.returns-clause-gone
returns-clause-gone c =
    ap (λ (t : Table). managed_of t c.self.inside.descs c.self.inside.pipes c.self.inside.input c.self.inside.exits.items) c.reap.ensures.gone
    ∙ reaped_is c.reap.result c.self.inside.procs c.self.inside.descs c.self.inside.pipes c.self.inside.input c.self.inside.exits.items
    ∙ ap (after_reaped c.reap.result) c.self.view_is
