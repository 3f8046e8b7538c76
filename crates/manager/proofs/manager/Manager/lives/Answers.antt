use Rattle.std.proofs.Common.{◌≡◌, ◌∙◌, ap, sym, rules, Some, None, Bool, true, false, not, is_some}
use Rattle.std.specs.Prelude.{option_map}
use Rattle.linux_model.specs.Processes.{process}
use Rattle.proc_table.specs.Entries.{proc_of}
use Rattle.manager.specs.Words.{is_alive}
use Rattle.manager.proofs.Open.{known_lives, absent_lives}
use Rattle.manager.proofs.manager.Manager.lives.Goals as goal

not_back : (r s : Bool) → not r ≡ s → r ≡ not s
not_back true s e = ap not e
not_back false s e = ap not e

pub returns-in-Some : goal.returns-in-Some
returns-in-Some c =
    let found : Some c.in-Some.known ≡ option_map proc_of (process c.self.inside.procs.procs c.args.pid.0) = search rules in
    let is = known_lives (process c.self.inside.procs.procs c.args.pid.0) c.in-Some.known found in
    not_back c.is_none.result (is_some c.in-Some.known.status) (sym c.is_none.ensures) ∙ is ∙ ap (is_alive c.args.pid.0) c.self.view_is

pub returns-in-None : goal.returns-in-None
returns-in-None c =
    let gone : None ≡ option_map proc_of (process c.self.inside.procs.procs c.args.pid.0) = search rules in
    let is = absent_lives (process c.self.inside.procs.procs c.args.pid.0) gone in
    is ∙ ap (is_alive c.args.pid.0) c.self.view_is
