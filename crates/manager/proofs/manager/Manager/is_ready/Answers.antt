use Rattle.std.proofs.Common.{◌≡◌, rules, not, is_some, false}
use Rattle.std.specs.Prelude.{slice_get}
use Rattle.linux_model.specs.Calls.{call_by, call_waits}
use Rattle.linux_model.specs.Managed.{with_managed}
use Rattle.linux_model.specs.State.{Kernel}
use Rattle.linux_model.specs.Turns.{is_ready}
use Rattle.manager.proofs.Waiting.{if_both, known_at, IsKnown, ready_waiting}
use Rattle.manager.proofs.manager.Manager.is_ready.Goals as goal

pub returns-in-Some : goal.returns-in-Some
returns-in-Some c = λ k.
    let K : Kernel = with_managed c.args.self.now k in
    let live : is_some c.args.known.now.status ≡ false = search rules in
    if_both (slice_get c.args.self.now.procs c.args.place) (IsKnown c.args.pid c.args.known.now) (λ p. c.call_waits.result ≡ call_waits (call_by p) p c.in-Some.waiting K)
    (λ p. not c.call_waits.result ≡ is_ready K p)
    (λ p is e. ready_waiting c.args.pid c.args.known.now p c.in-Some.waiting K c.call_waits.result is live c.in-Some.is e)
    (known_at (slice_get c.args.self.now.procs c.args.place) c.args.pid c.args.known.now c.requires) (c.call_waits.ensures k)
