use Rattle.std.proofs.Common.{◌≡◌, rules, true, None, Some, subst, sym}
use Rattle.kernel_objects.specs.declared.descriptor.FdEntry.{FdEntry}
use Rattle.kernel_objects.specs.Slots.{picks, slot}
use Rattle.linux_model.specs.Effects.{at_fd}
use Rattle.linux_model.specs.Processes.{at_pid, fds_of, is_live, process}
use Rattle.proc_table.specs.Entries.{Table}
use Rattle.manager.specs.Sound.{Sound}
use Rattle.manager.specs.Tables.{DescTable}
use Rattle.manager.proofs.Open.{entry_there}
use Rattle.manager.proofs.Opening.{refs_fit, shared}
use Rattle.manager.proofs.manager.Manager.dup.Goals as goal

pub share-requires-clause-there : goal.share-requires-clause-there
share-requires-clause-there c =
    let is_open : slot (fds_of (process c.self.inside.procs.procs c.args.pid.0)) c.args.from ≡ Some c.in-Some.entry = search rules in
    entry_there c.self.inside.descs.descs c.self.inside.procs.procs c.args.pid.0 c.args.from c.in-Some.entry c.self.invariant.counted.procs is_open

pub share-requires-clause-refs : goal.share-requires-clause-refs
share-requires-clause-refs c = refs_fit c.self.inside.procs c.self.inside.descs c.self.inside.pipes c.in-Some.entry.desc c.self.invariant.counted

pub invariant_of-self : goal.invariant_of-self
invariant_of-self c =
    let t : Table = c.self.inside.procs in
    let d : DescTable = c.self.inside.descs in
    let pid = c.args.pid.0 in
    let e : FdEntry = record { desc = c.in-Some.entry.desc; cloexec = c.args.cloexec } in
    let is_open : slot (fds_of (process t.procs pid)) c.args.from ≡ Some c.in-Some.entry = search rules in
    let alive : picks (λ p. is_live p.state) (process t.procs pid) ≡ true = search rules in
    let free : slot (fds_of (process t.procs pid)) c.args.to ≡ None = search rules in
    let there = entry_there d.descs t.procs pid c.args.from c.in-Some.entry c.self.invariant.counted.procs is_open in
    let descs : c.share.new.self ≡ record { descs = d.descs; refs = c.share.new.self.refs } = λ i. record { descs = c.share.ensures.descs i; refs = c.share.new.self.refs } in
    subst (λ (t : Table). Sound t c.share.new.self c.self.inside.pipes) (sym c.set_fd.ensures)
    (subst (λ (d : DescTable). Sound (record t { procs = at_pid pid (at_fd c.args.to (Some e)) t.procs }) d c.self.inside.pipes) (sym descs)
    (shared t d c.self.inside.pipes c.share.new.self.refs pid c.args.to e alive c.requires.to free there c.share.ensures.refs c.self.invariant))
