use Rattle.std.proofs.Common.{◌≡◌, ◌+◌, ◌∙◌, ap, subst, sym, rules, true, false, leb, length, List, Option, Some}
use Rattle.std.specs.Prelude.{IfSome}
use Rattle.kernel_objects.specs.declared.descriptor.FdEntry.{FdEntry}
use Rattle.kernel_objects.specs.Slots.{picks}
use Rattle.linux_model.specs.Effects.{Forks}
use Rattle.linux_model.specs.Fits.{EntriesFit}
use Rattle.linux_model.specs.Managed.{Managed, managed_after}
use Rattle.linux_model.specs.Processes.{is_live, process}
use Rattle.linux_model.specs.State.{Process}
use Rattle.linux_model.proofs.fits.Processes.{process_fits}
use Rattle.proc_table.specs.Entries.{Table, proc_of, spawned}
use Rattle.proc_table.specs.declared.table.Proc.{Proc}
use Rattle.manager.specs.Tables.{DescTable}
use Rattle.manager.proofs.Forking.{forked_is, forked_sound, parent_fds, refs_small}
use Rattle.manager.proofs.Open.{Found, found_alive}
use Rattle.manager.proofs.manager.Manager.fork.Goals as goal

pub share_all-requires-clause-entries : goal.share_all-requires-clause-entries
share_all-requires-clause-entries c =
    let t : Table = c.self.inside.procs in
    let d : DescTable = c.self.inside.descs in
    let alive : picks (λ p. is_live p.state) (process t.procs c.args.parent.0) ≡ true = search rules in
    let q : Found t.procs c.args.parent.0 = found_alive t.procs c.args.parent.0 alive in
    let same : c.in_ok-fds.fds ≡ q.p.fds = parent_fds t.procs c.args.parent.0 q.p c.in_ok-fds.fds q.is c.in_ok-fds.ensures in
    subst (EntriesFit d.descs) (sym same) (process_fits d.descs t.procs c.args.parent.0 q.p c.self.invariant.counted.procs q.is).entries

pub share_all-requires-clause-refs : goal.share_all-requires-clause-refs
share_all-requires-clause-refs c = λ n. refs_small c.self.inside.procs c.self.inside.descs c.self.inside.pipes n c.self.invariant.counted

pub share_all-requires-clause-slots : goal.share_all-requires-clause-slots
share_all-requires-clause-slots c =
    let t : Table = c.self.inside.procs in
    let d : DescTable = c.self.inside.descs in
    let alive : picks (λ p. is_live p.state) (process t.procs c.args.parent.0) ≡ true = search rules in
    let q : Found t.procs c.args.parent.0 = found_alive t.procs c.args.parent.0 alive in
    let same : c.in_ok-fds.fds ≡ q.p.fds = parent_fds t.procs c.args.parent.0 q.p c.in_ok-fds.fds q.is c.in_ok-fds.ensures in
    ap (λ (fds : List (Option FdEntry)). length fds) same ∙ (process_fits d.descs t.procs c.args.parent.0 q.p c.self.invariant.counted.procs q.is).slots

pub invariant_of-self-2 : goal.invariant_of-self-2
invariant_of-self-2 c =
    let t : Table = c.self.inside.procs in
    let d : DescTable = c.self.inside.descs in
    let alive : picks (λ p. is_live p.state) (process t.procs c.args.parent.0) ≡ true = search rules in
    let q : Found t.procs c.args.parent.0 = found_alive t.procs c.args.parent.0 alive in
    let same : c.in_ok-fds.fds ≡ q.p.fds = parent_fds t.procs c.args.parent.0 q.p c.in_ok-fds.fds q.is c.in_ok-fds.ensures in
    let room : leb 64 (length t.procs) ≡ false = search rules in
    let table : c.spawn.new.self ≡ spawned c.args.parent.0 c.args.cpu c.known.result.brk c.in_ok-fds.fds t = search rules in
    forked_sound t d c.self.inside.pipes c.spawn.new.self c.share_all.new.self c.args.parent.0 q.p c.args.cpu c.known.result.brk c.in_ok-fds.fds q.is room same table c.share_all.ensures.descs c.share_all.ensures.refs c.self.invariant

pub returns-clause-ok : goal.returns-clause-ok
returns-clause-ok c =
    let t : Table = c.self.inside.procs in
    let d : DescTable = c.self.inside.descs in
    let alive : picks (λ p. is_live p.state) (process t.procs c.args.parent.0) ≡ true = search rules in
    let q : Found t.procs c.args.parent.0 = found_alive t.procs c.args.parent.0 alive in
    let same : c.in_ok-fds.fds ≡ q.p.fds = parent_fds t.procs c.args.parent.0 q.p c.in_ok-fds.fds q.is c.in_ok-fds.ensures in
    let table : c.spawn.new.self ≡ spawned c.args.parent.0 c.args.cpu c.known.result.brk c.in_ok-fds.fds t = search rules in
    let there : process c.args.self.now.procs c.args.parent.0 ≡ Some q.p = ap (λ (m : Managed). process m.procs c.args.parent.0) (sym c.self.view_is) ∙ q.is in
    let known : c.known.result ≡ proc_of q.p = subst (λ (o : Option Process). IfSome o (λ p. c.known.result ≡ proc_of p)) there c.known.ensures in
    sym (forked_is t d c.self.inside.pipes c.spawn.new.self c.share_all.new.self c.self.inside.input c.self.inside.exits.items c.args.parent.0 q.p c.args.cpu c.known.result.brk c.in_ok-fds.fds q.is
    (ap (λ (k : Proc). k.brk) known) same table c.share_all.ensures.descs)
    ∙ ap (λ (m : Managed). managed_after (Forks c.args.parent.0 (m.last + 1) c.args.cpu) m) c.self.view_is
