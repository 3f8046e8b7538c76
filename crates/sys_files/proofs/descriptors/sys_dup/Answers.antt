use Rattle.std.proofs.Common.{rules, ◌≡◌, refl, [], ◌∷◌, Some, false}
use Rattle.kernel_objects.specs.Slots.{slot, lowest_free}
use Rattle.linux_model.specs.Descriptors.{dup_row}
use Rattle.linux_model.specs.Called.{Gives}
use Rattle.linux_model.specs.Effects.{Shares}
use Rattle.linux_model.specs.Managed.{with_managed}
use Rattle.linux_model.specs.Processes.{fds_of, process}
use Rattle.call_machine.proofs.Rows.{each_process}
use Rattle.call_parts.proofs.Opened.{entry_by}
use Rattle.manager.specs.Words.{entry_of}
use Rattle.manager.proofs.Making.{lowest_is}
use Rattle.sys_files.proofs.descriptors.sys_dup.Goals as goal

pub dup-requires-clause-free : goal.dup-requires-clause-free
dup-requires-clause-free c =
    let is : lowest_free (fds_of (process c.args.man.now.procs c.args.pid.0)) 0 ≡ Some c.in-Some-lowest_free.to = search rules in
    (lowest_is (fds_of (process c.args.man.now.procs c.args.pid.0)) 0 c.in-Some-lowest_free.to is).free

pub returns : goal.returns
returns c k = each_process c.args.man.now c.args.pid.0 _ (λ p own there.
    let K = with_managed c.args.man.now k in
    let shares = Shares c.args.pid.0 c.in-Some-lowest_free.to c.in-Some._open.desc false in
    let is : slot p.fds c.args.fd ≡ Some (entry_of c.in-Some._open) = entry_by c.args.man.now c.args.pid.0 c.args.fd p (Some c.in-Some._open) there c.in-Some.ensures.entry in
    let row : dup_row p K c.args.fd ≡ Gives (shares ∷ []) c.from.result = search rules in
    record { effects = shares ∷ []; row_is = row; apart = (refl, tt); managed = search rules })
