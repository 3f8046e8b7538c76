use Rattle.std.proofs.Common.{◌≡◌, ◌+◌, ◌∙◌, ap, sym, rules, false, leb, length, List, Option, Some}
use Rattle.kernel_objects.specs.declared.descriptor.FdEntry.{FdEntry}
use Rattle.linux_model.specs.Managed.{Managed}
use Rattle.linux_model.specs.Processes.{first_process, no_descriptors, process}
use Rattle.proc_table.specs.Entries.{Table, spawned}
use Rattle.manager.proofs.Starting.{first_there, started_sound}
use Rattle.manager.proofs.manager.Manager.spawn.Goals as goal

pub invariant_of-self-2 : goal.invariant_of-self-2
invariant_of-self-2 c =
    let t : Table = c.self.inside.procs in
    let room : leb 64 (length t.procs) ≡ false = search rules in
    let free : c.in_ok-fds.fds ≡ no_descriptors = c.in_ok-fds.ensures in
    let table : c.spawn.new.self ≡ spawned 0 c.args.cpu c.args.brk c.in_ok-fds.fds t = search rules in
    started_sound t c.self.inside.descs c.self.inside.pipes c.spawn.new.self c.args.cpu c.args.brk c.in_ok-fds.fds room free table c.self.invariant

pub returns-clause-there : goal.returns-clause-there
returns-clause-there c =
    let t : Table = c.self.inside.procs in
    let free : c.in_ok-fds.fds ≡ no_descriptors = c.in_ok-fds.ensures in
    let table : c.spawn.new.self ≡ spawned 0 c.args.cpu c.args.brk c.in_ok-fds.fds t = search rules in
    ap (λ (m : Managed). process c.spawn.new.self.procs (m.last + 1)) (sym c.self.view_is)
    ∙ ap (λ (t' : Table). process t'.procs (t.last + 1)) (table ∙ ap (λ (fds : List (Option FdEntry)). spawned 0 c.args.cpu c.args.brk fds t) free)
    ∙ first_there t c.args.cpu c.args.brk c.self.invariant.counted.pids
    ∙ ap (λ (m : Managed). Some (first_process (m.last + 1) c.args.cpu c.args.brk)) c.self.view_is
