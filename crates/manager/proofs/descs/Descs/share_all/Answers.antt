use Rattle.std.proofs.Common.{◌≡◌, ◌<◌, ◌∙◌, ap, rules, Some, None, is_some, slice_index, length, arith}
use Rattle.kernel_objects.specs.Slots.{slot}
use Rattle.linux_model.proofs.fits.Found.{entry_fits}
use Rattle.manager.proofs.Forking.{shared_next, shared_fit}
use Rattle.manager.proofs.descs.Descs.share_all.Goals as goal
use Rattle.manager.proofs.descs.Descs.share_all.Goals.{in-Some, in_default}

pub share-requires-clause-there : goal.share-requires-clause-there
share-requires-clause-there c =
    let is_open : slot c.args.fds.now c.loop-fd.fd ≡ Some c.in-Some.entry = search rules in
    ap (λ descs. is_some (slot descs c.in-Some.entry.desc)) c.loop-fd.invariant.descs
    ∙ entry_fits c.args.self.now.descs c.args.fds.now c.loop-fd.fd c.in-Some.entry c.requires.entries is_open

pub share-requires-clause-refs : goal.share-requires-clause-refs
share-requires-clause-refs c =
    shared_fit c.in-Some.entry.desc (slice_index c.loop-fd.self.refs c.in-Some.entry.desc) (slice_index c.args.self.now.refs c.in-Some.entry.desc) c.args.fds.now _
    c.requires.slots (c.loop-fd.invariant.refs c.in-Some.entry.desc) (c.requires.refs c.in-Some.entry.desc)

pub loop-fd-preserved : goal.loop-fd-preserved
loop-fd-preserved c =
    let within : c.loop-fd.fd < length c.args.fds.now = omega (arith, c.requires.slots) in
    elim c.match-get.branch [
      | in-Some w ↦
          let is_open : slot c.args.fds.now c.loop-fd.fd ≡ Some w.in-Some.entry = search rules in
          record {
            descs = ap (λ d. d.descs) w.self-is ∙ w.share.ensures.descs ∙ c.loop-fd.invariant.descs;
            refs = λ n. shared_next n (slice_index c.loop-fd.self.refs n) (slice_index c.match-get.self.refs n) _ c.args.fds.now c.loop-fd.fd (Some w.in-Some.entry) within is_open
                (ap (λ d. slice_index d.refs n) w.self-is ∙ w.share.ensures.refs n) (c.loop-fd.invariant.refs n);
          }
      | in_default w ↦
          let free : slot c.args.fds.now c.loop-fd.fd ≡ None = search rules in
          record {
            descs = ap (λ d. d.descs) w.self-is ∙ c.loop-fd.invariant.descs;
            refs = λ n.
                let same = ap (λ d. slice_index d.refs n) w.self-is in
                shared_next n (slice_index c.loop-fd.self.refs n) (slice_index c.match-get.self.refs n) _ c.args.fds.now c.loop-fd.fd None within free (omega (arith, same)) (c.loop-fd.invariant.refs n);
          }
    ]
