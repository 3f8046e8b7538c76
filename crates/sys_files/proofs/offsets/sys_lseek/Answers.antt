use Rattle.std.proofs.Common.{rules, ◌≡◌, subst, refl, [], ◌∷◌, Some, length}
use Rattle.lego_base.specs.Files.{file_bytes}
use Rattle.kernel_objects.specs.declared.descriptor.Object.{Object}
use Rattle.linux_model.specs.Called.{following}
use Rattle.linux_model.specs.Descriptors.{opened}
use Rattle.linux_model.specs.Effects.{AsksSize}
use Rattle.linux_model.specs.FileCalls.{lseek_row, seeks_from}
use Rattle.linux_model.specs.Fits.{ObjectFits}
use Rattle.linux_model.specs.Processes.{process}
use Rattle.call_machine.specs.Lent.{kernel_of}
use Rattle.call_machine.proofs.Rows.{ran_stops, each_process, ran_after, stops_asked, stops_at_once, stops_in}
use Rattle.call_parts.proofs.Opened.{object_there, opened_by}
use Rattle.manager.specs.Words.{open_of}
use Rattle.sys_files.proofs.offsets.sys_lseek.Goals as goal

pub size-requires : goal.size-requires
size-requires g c =
    let man = c.args.man.now in
    let held = g.M.Machine.held c.args.machine.now in
    record { there = subst (λ (o : Object). ObjectFits held.files man.pipes o) c.in-Regular.is (object_there man held c.in-Some.open.desc c.in-Some.open.is c.requires.fit c.in-Some.ensures.there) }

pub returns-in_err-size-clause-stops : goal.returns-in_err-size-clause-stops
returns-in_err-size-clause-stops g c k = each_process c.args.man.now c.args.pid.0 _ (λ p own there.
    let man = c.args.man.now in
    let held = g.M.Machine.held c.args.machine.now in
    let K = kernel_of man held k in
    let asks = AsksSize c.in-Regular.file.0 ∷ [] in
    let o = open_of c.in-Some.open in
    let is : opened p c.args.fd K ≡ Some o = opened_by man held k c.args.pid.0 c.args.fd p (Some c.in-Some.open) there c.in-Some.ensures.is in
    let row : lseek_row p K c.args.fd c.args.off c.args.whence ≡ following asks (seeks_from o (length (file_bytes held.files c.in-Regular.file.0)) c.args.off) = search rules in
    stops_in g.M.Machine.held g.M.Machine.does g.M.Machine.stops g.met.M.Machine.lawful _ _ asks _ _ row c.size.ensures.stops)

pub returns-then-whence-eq-SEEK_END-clause-answers : goal.returns-then-whence-eq-SEEK_END-clause-answers
returns-then-whence-eq-SEEK_END-clause-answers g c k = each_process c.args.man.now c.args.pid.0 _ (λ p own there.
    let man = c.args.man.now in
    let held = g.M.Machine.held c.args.machine.now in
    let K = kernel_of man held k in
    let asks = AsksSize c.in-Regular.file.0 ∷ [] in
    let o = open_of c.in-Some.open in
    let is : opened p c.args.fd K ≡ Some o = opened_by man held k c.args.pid.0 c.args.fd p (Some c.in-Some.open) there c.in-Some.ensures.is in
    let row : lseek_row p K c.args.fd c.args.off c.args.whence ≡ following asks (seeks_from o c.in_ok-size.size c.args.off) = search rules in
    ran_after g.M.Machine.held g.M.Machine.does g.M.Machine.stops g.met.M.Machine.lawful _ _ man _ asks _ _ c.seek.result row c.in_ok-size.ensures.does refl c.seek.ensures)

pub returns-then-whence-eq-SEEK_END-clause-stops : goal.returns-then-whence-eq-SEEK_END-clause-stops
returns-then-whence-eq-SEEK_END-clause-stops g c k = ran_stops g.M.Machine.held g.M.Machine.does g.M.Machine.stops g.met.M.Machine.lawful _ _ _ _ (process c.args.man.now.procs c.args.pid.0) _ _ (λ es. refl) (returns-then-whence-eq-SEEK_END-clause-answers g c k)

pub returns-clause-stops : goal.returns-clause-stops
returns-clause-stops g c k = each_process c.args.man.now c.args.pid.0 _ (λ p own there. stops_at_once g.M.Machine.held g.M.Machine.does g.M.Machine.stops g.met.M.Machine.lawful _ (lseek_row p (kernel_of c.args.man.now (g.M.Machine.held c.args.machine.now) k) c.args.fd c.args.off c.args.whence))
