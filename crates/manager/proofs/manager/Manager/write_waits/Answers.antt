use Rattle.std.proofs.Common.{◌≡◌, ◌∙◌, sym, false}
use Rattle.std.specs.Prelude.{option_map, slice_get}
use Rattle.linux_model.specs.Calls.{write_waits}
use Rattle.linux_model.specs.Descriptors.{opened}
use Rattle.linux_model.specs.Managed.{with_managed}
use Rattle.linux_model.specs.State.{Kernel}
use Rattle.manager.proofs.Waiting.{if_map, writes_object, writes_none}
use Rattle.manager.proofs.manager.Manager.write_waits.Goals as goal

pub returns-in-Some : goal.returns-in-Some
returns-in-Some c = λ k.
    let K : Kernel = with_managed c.args.self.now k in
    if_map (slice_get c.args.self.now.procs c.args.place) (λ p. c.object_at.result ≡ option_map (λ o. o.is.object) (opened p c.args.fd K))
    (λ p. c.is_full_for.result ≡ write_waits (opened p c.args.fd K) c.args.len K)
    (λ p is. c.is_full_for.ensures k ∙ writes_object (opened p c.args.fd K) c.in-Some.object c.args.len K (sym c.in-Some.is ∙ is)) (c.object_at.ensures.is k)

pub returns-in-None : goal.returns-in-None
returns-in-None c = λ k.
    let K : Kernel = with_managed c.args.self.now k in
    if_map (slice_get c.args.self.now.procs c.args.place) (λ p. c.object_at.result ≡ option_map (λ o. o.is.object) (opened p c.args.fd K))
    (λ p. false ≡ write_waits (opened p c.args.fd K) c.args.len K)
    (λ p is. writes_none (opened p c.args.fd K) c.args.len K (sym c.in-None.is ∙ is)) (c.object_at.ensures.is k)
