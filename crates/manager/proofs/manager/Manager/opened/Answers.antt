use Rattle.std.proofs.Common.{ℕ, subst, arith, ◌≡◌, ap, rules, true, is_some, Some, None}
use Rattle.kernel_objects.specs.Slots.{slot}
use Rattle.linux_model.specs.Processes.{fds_of, process}
use Rattle.linux_model.specs.Managed.{Managed}
use Rattle.manager.specs.Tables.{PipeThere}
use Rattle.manager.proofs.Closed.{pipe_there}
use Rattle.manager.proofs.Closing.{open_below, reads_fewer, writes_fewer}
use Rattle.manager.proofs.Open.{entry_there}
use Rattle.manager.proofs.manager.Manager.opened.Goals as goal

pub returns-in_err-description-clause-entry : goal.returns-in_err-description-clause-entry
returns-in_err-description-clause-entry c =
    let e = c.in_ok-entry.entry in
    let is_open : slot (fds_of (process c.self.inside.procs.procs c.args.pid.0)) c.args.fd ≡ Some e = search rules in
    let there : is_some (slot c.self.inside.descs.descs e.desc) ≡ true = entry_there c.self.inside.descs.descs c.self.inside.procs.procs c.args.pid.0 c.args.fd e c.self.invariant.counted.procs is_open in
    let none : slot c.self.inside.descs.descs e.desc ≡ None = search rules in
    let gone = ap (λ o. is_some o) none in
    absurd (cc (there, gone))

pub returns-clause-within : goal.returns-clause-within
returns-clause-within c =
    let is_open : slot (fds_of (process c.self.inside.procs.procs c.args.pid.0)) c.args.fd ≡ Some c.in_ok-entry.entry = search rules in
    open_below c.self.inside.procs c.self.inside.descs c.self.inside.pipes c.args.pid.0 c.args.fd c.in_ok-entry.entry c.self.invariant.counted is_open

pub returns-clause-pipe : goal.returns-clause-pipe
returns-clause-pipe c =
    let d = c.self.inside.descs in
    let x = c.in_ok-description.description in
    let desc : ℕ = c.in_ok-entry.entry.desc in
    let is : slot d.descs desc ≡ Some x = search rules in
    let there : PipeThere c.self.inside.pipes.pipes x.object =
    pipe_there c.self.inside.procs d c.self.inside.pipes x.object c.self.invariant.counted
    (λ n. let r = reads_fewer n desc x d.descs is in omega (arith, r))
    (λ n. let w = writes_fewer n desc x d.descs is in omega (arith, w)) in
    subst (λ (m : Managed). PipeThere m.pipes x.object) c.self.view_is there
