use Rattle.std.proofs.Common.{◌≡◌, ◌∙◌}
use Rattle.std.specs.Prelude.{slice_get}
use Rattle.linux_model.specs.Calls.{call_by, call_waits, read_waits, write_waits}
use Rattle.linux_model.specs.Descriptors.{opened}
use Rattle.linux_model.specs.Managed.{with_managed}
use Rattle.linux_model.specs.State.{Kernel}
use Rattle.manager.proofs.Waiting.{if_both, if_map, known_at, IsKnown, read_call, write_call, wait_call}
use Rattle.manager.proofs.manager.Manager.call_waits.Goals as goal

pub returns-in-63 : goal.returns-in-63
returns-in-63 c = λ k.
    let K : Kernel = with_managed c.args.self.now k in
    if_both (slice_get c.args.self.now.procs c.args.place) (IsKnown c.args.pid c.args.known.now) (λ p. c.read_waits.result ≡ read_waits (opened p c.get-first.result K) K)
    (λ p. c.read_waits.result ≡ call_waits (call_by p) p c.args.waiting K)
    (λ p is e. e ∙ read_call c.args.pid c.args.known.now p c.get.result c.get-first.result c.args.waiting K is c.get.ensures c.get-first.ensures c.in-63.is)
    (known_at (slice_get c.args.self.now.procs c.args.place) c.args.pid c.args.known.now c.requires) (c.read_waits.ensures k)

pub returns-in-64 : goal.returns-in-64
returns-in-64 c = λ k.
    let K : Kernel = with_managed c.args.self.now k in
    if_both (slice_get c.args.self.now.procs c.args.place) (IsKnown c.args.pid c.args.known.now) (λ p. c.write_waits.result ≡ write_waits (opened p c.get-first.result K) c.args.waiting.len K)
    (λ p. c.write_waits.result ≡ call_waits (call_by p) p c.args.waiting K)
    (λ p is e. e ∙ write_call c.args.pid c.args.known.now p c.get.result c.get-first.result c.args.waiting K is c.get.ensures c.get-first.ensures c.in-64.is)
    (known_at (slice_get c.args.self.now.procs c.args.place) c.args.pid c.args.known.now c.requires) (c.write_waits.ensures k)

pub returns-in-260 : goal.returns-in-260
returns-in-260 c = λ k.
    let K : Kernel = with_managed c.args.self.now k in
    if_map (slice_get c.args.self.now.procs c.args.place) (IsKnown c.args.pid c.args.known.now)
    (λ p. c.wait_waits.result ≡ call_waits (call_by p) p c.args.waiting K)
    (λ p is. c.wait_waits.ensures k ∙ wait_call c.args.pid c.args.known.now p c.get.result c.get-first.result c.args.waiting K is c.get.ensures c.get-first.ensures c.in-260.is)
    (known_at (slice_get c.args.self.now.procs c.args.place) c.args.pid c.args.known.now c.requires)
