use Rattle.std.proofs.Common.{◌≡◌, subst, rules, Some, ℕ, arith}
use Rattle.kernel_objects.specs.Slots.{slot}
use Rattle.manager.specs.Tables.{PipeThere}
use Rattle.linux_model.specs.Managed.{Managed}
use Rattle.manager.proofs.Closing.{reads_fewer, writes_fewer}
use Rattle.manager.proofs.Closed.{pipe_there}
use Rattle.manager.proofs.manager.Manager.object_at.Goals as goal

pub returns-clause-pipe : goal.returns-clause-pipe
returns-clause-pipe c =
    let d = c.self.inside.descs in
    let x = c.in_ok-description.description in
    let desc : ℕ = c.in_ok-entry.entry.desc in
    let is : slot d.descs desc ≡ Some x = search rules in
    let there : PipeThere c.self.inside.pipes.pipes x.object =
    pipe_there c.self.inside.procs d c.self.inside.pipes x.object c.self.invariant.counted
    (λ n. let r = reads_fewer n desc x d.descs is in omega (arith, r))
    (λ n. let w = writes_fewer n desc x d.descs is in omega (arith, w)) in
    subst (λ (m : Managed). PipeThere m.pipes x.object) c.self.view_is there
