use Rattle.std.proofs.Common.{rules, ◌≡◌, ℕ, refl, sym, subst, ◌∙◌, List, [], ◌++◌, Option, Some, None, false}
use Rattle.kernel_objects.specs.declared.descriptor.Object.{Object}
use Rattle.linux_model.specs.Called.{Gives}
use Rattle.linux_model.specs.Buffers.{one_piece, counted}
use Rattle.linux_model.specs.Descriptors.{file_of, is_readable, opened, that}
use Rattle.linux_model.specs.Effects.{Effect}
use Rattle.linux_model.specs.FileCalls.{pread64_row, reads_file}
use Rattle.linux_model.specs.Fits.{ObjectFits}
use Rattle.linux_model.specs.Held.{with_held}
use Rattle.linux_model.specs.Limits.{EBADF, ESPIPE, is_negative}
use Rattle.linux_model.specs.Managed.{with_managed}
use Rattle.linux_model.proofs.Managing.{managed-append}
use Rattle.linux_model.specs.Processes.{process}
use Rattle.call_machine.specs.Lent.{kernel_of}
use Rattle.call_machine.proofs.Rows.{ran_stops, each_process, stops_as, stops_at_once, stops_end}
use Rattle.call_machine.proofs.Stops.{stops_follow}
use Rattle.call_parts.proofs.Opened.{object_there}
use Rattle.manager.specs.Words.{open_of}
use Rattle.sys_io.specs.Moving.{Faulted, Moved, MovedOr}
use Rattle.sys_io.proofs.Moving.{found_by, not_regular}
use Rattle.sys_io.proofs.reading.sys_pread64.Goals as goal

pub read_at-requires : goal.read_at-requires
read_at-requires g c =
    let man = c.args.man.now in
    let held = g.M.Machine.held c.args.machine.now in
    record { there = subst (λ (o : Object). ObjectFits held.files man.pipes o) c.in-Regular.is (object_there man held c.in-Some.found.desc c.in-Some.found.is c.requires.fit c.in-Some.ensures.there) }

pub returns-in_default-clause-answers : goal.returns-in_default-clause-answers
returns-in_default-clause-answers g c k = each_process c.args.man.now c.args.pid.0 _ (λ p own there.
    let man = c.args.man.now in
    let held = g.M.Machine.held c.args.machine.now in
    let K = kernel_of man held k in
    let pieces = one_piece c.args.address (counted c.args.len) in
    let positive : is_negative c.args.off ≡ false = search rules in
    let found : that is_readable (opened p c.args.fd K) ≡ None = found_by man held k c.args.pid.0 p is_readable c.args.fd None there c.in_default.ensures.is in
    let row : pread64_row p K c.args.fd c.args.address c.args.len c.args.off ≡ Gives [] EBADF = search rules in
    record { effects = []; row_is = row; did = g.met.M.Machine.lawful.none _; managed = refl })

pub returns-in_default-clause-stops : goal.returns-in_default-clause-stops
returns-in_default-clause-stops g c k = ran_stops g.M.Machine.held g.M.Machine.does g.M.Machine.stops g.met.M.Machine.lawful _ _ _ _ (process c.args.man.now.procs c.args.pid.0) _ _ (λ es. refl) (returns-in_default-clause-answers g c k)

pub returns-in_err-count-clause-stops : goal.returns-in_err-count-clause-stops
returns-in_err-count-clause-stops g c k = each_process c.args.man.now c.args.pid.0 _ (λ p own there.
    let man = c.args.man.now in
    let held = g.M.Machine.held c.args.machine.now in
    let K = kernel_of man held k in
    let pieces = one_piece c.args.address (counted c.args.len) in
    let positive : is_negative c.args.off ≡ false = search rules in
    let found : that is_readable (opened p c.args.fd K) ≡ Some (open_of c.in-Some.found) = found_by man held k c.args.pid.0 p is_readable c.args.fd (Some c.in-Some.found) there c.in-Some.ensures.is in
    let size : counted c.args.len ≡ c.min.result = sym c.min.ensures in
    let counted_row : pread64_row p K c.args.fd c.args.address c.args.len c.args.off ≡ reads_file p K c.in-Regular.file.0 c.args.off pieces (counted c.args.len) (λ moved. []) = search rules in
    let row = counted_row ∙ (λ i. reads_file p K c.in-Regular.file.0 c.args.off (one_piece c.args.address (size i)) (size i) (λ moved. [])) in
    stops_as g.M.Machine.held g.M.Machine.does g.M.Machine.stops g.met.M.Machine.lawful _ _ _ _ row (c.read_at.ensures.stops p (with_managed man k) (λ moved. []) own))

pub returns-in-Some-2-clause-answers : goal.returns-in-Some-2-clause-answers
returns-in-Some-2-clause-answers g c k = each_process c.args.man.now c.args.pid.0 _ (λ p own there.
    let man = c.args.man.now in
    let held = g.M.Machine.held c.args.machine.now in
    let K = kernel_of man held k in
    let pieces = one_piece c.args.address (counted c.args.len) in
    let positive : is_negative c.args.off ≡ false = search rules in
    let found : that is_readable (opened p c.args.fd K) ≡ Some (open_of c.in-Some.found) = found_by man held k c.args.pid.0 p is_readable c.args.fd (Some c.in-Some.found) there c.in-Some.ensures.is in
    let size : counted c.args.len ≡ c.min.result = sym c.min.ensures in
    let counted_row : pread64_row p K c.args.fd c.args.address c.args.len c.args.off ≡ reads_file p K c.in-Regular.file.0 c.args.off pieces (counted c.args.len) (λ moved. []) = search rules in
    let row = counted_row ∙ (λ i. reads_file p K c.in-Regular.file.0 c.args.off (one_piece c.args.address (size i)) (size i) (λ moved. [])) in
    let m : Moved g.M.Machine.does c.args.machine.now c.read_at.new.machine (λ after. reads_file p (with_held held (with_managed man k)) c.in-Regular.file.0 c.args.off (one_piece c.args.address c.min.result) c.min.result after) c.in-Some-2.count = subst (λ (o : Option ℕ). MovedOr g.M.Machine.does c.args.machine.now c.read_at.new.machine (λ after. reads_file p (with_held held (with_managed man k)) c.in-Regular.file.0 c.args.off (one_piece c.args.address c.min.result) c.min.result after) o) c.in-Some-2.is (c.in_ok-count.ensures.moves p (with_managed man k) own) in
    let after : ℕ → List Effect = λ moved. [] in
    record {
      effects = m.effects ++ [];
      row_is = row ∙ m.row_is after;
      did = g.met.M.Machine.lawful.both _ _ _ m.effects [] m.apart.did (g.met.M.Machine.lawful.none _);
      managed = managed-append m.effects [] man ∙ m.apart.still man;
    })

pub returns-in-Some-2-clause-stops : goal.returns-in-Some-2-clause-stops
returns-in-Some-2-clause-stops g c k = ran_stops g.M.Machine.held g.M.Machine.does g.M.Machine.stops g.met.M.Machine.lawful _ _ _ _ (process c.args.man.now.procs c.args.pid.0) _ _ (λ es. refl) (returns-in-Some-2-clause-answers g c k)

pub returns-in-None-clause-answers : goal.returns-in-None-clause-answers
returns-in-None-clause-answers g c k = each_process c.args.man.now c.args.pid.0 _ (λ p own there.
    let man = c.args.man.now in
    let held = g.M.Machine.held c.args.machine.now in
    let K = kernel_of man held k in
    let pieces = one_piece c.args.address (counted c.args.len) in
    let positive : is_negative c.args.off ≡ false = search rules in
    let found : that is_readable (opened p c.args.fd K) ≡ Some (open_of c.in-Some.found) = found_by man held k c.args.pid.0 p is_readable c.args.fd (Some c.in-Some.found) there c.in-Some.ensures.is in
    let size : counted c.args.len ≡ c.min.result = sym c.min.ensures in
    let counted_row : pread64_row p K c.args.fd c.args.address c.args.len c.args.off ≡ reads_file p K c.in-Regular.file.0 c.args.off pieces (counted c.args.len) (λ moved. []) = search rules in
    let row = counted_row ∙ (λ i. reads_file p K c.in-Regular.file.0 c.args.off (one_piece c.args.address (size i)) (size i) (λ moved. [])) in
    let f : Faulted g.M.Machine.does c.args.machine.now c.read_at.new.machine (λ after. reads_file p (with_held held (with_managed man k)) c.in-Regular.file.0 c.args.off (one_piece c.args.address c.min.result) c.min.result after) = subst (λ (o : Option ℕ). MovedOr g.M.Machine.does c.args.machine.now c.read_at.new.machine (λ after. reads_file p (with_held held (with_managed man k)) c.in-Regular.file.0 c.args.off (one_piece c.args.address c.min.result) c.min.result after) o) c.in-None.is (c.in_ok-count.ensures.moves p (with_managed man k) own) in
    let after : ℕ → List Effect = λ moved. [] in
    record { effects = f.effects; row_is = row ∙ f.row_is after; did = f.apart.did; managed = f.apart.still man })

pub returns-in-None-clause-stops : goal.returns-in-None-clause-stops
returns-in-None-clause-stops g c k = ran_stops g.M.Machine.held g.M.Machine.does g.M.Machine.stops g.met.M.Machine.lawful _ _ _ _ (process c.args.man.now.procs c.args.pid.0) _ _ (λ es. refl) (returns-in-None-clause-answers g c k)

pub returns-in_default-object : goal.returns-in_default-object
returns-in_default-object g c = record {
  answers = λ k. each_process c.args.man.now c.args.pid.0 _ (λ p own there.
      let man = c.args.man.now in
      let held = g.M.Machine.held c.args.machine.now in
      let K = kernel_of man held k in
      let pieces = one_piece c.args.address (counted c.args.len) in
      let positive : is_negative c.args.off ≡ false = search rules in
      let found : that is_readable (opened p c.args.fd K) ≡ Some (open_of c.in-Some.found) = found_by man held k c.args.pid.0 p is_readable c.args.fd (Some c.in-Some.found) there c.in-Some.ensures.is in
      let file : file_of c.in-Some.found.is.object ≡ None = not_regular c.in-Some.found.is.object c.in_default-object.not-Regular in
      let row : pread64_row p K c.args.fd c.args.address c.args.len c.args.off ≡ Gives [] ESPIPE = search rules in
      record { effects = []; row_is = row; did = g.met.M.Machine.lawful.none _; managed = refl });
  stops = λ k. each_process c.args.man.now c.args.pid.0 _ (λ p own there.
      let man = c.args.man.now in
      let held = g.M.Machine.held c.args.machine.now in
      let K = kernel_of man held k in
      let pieces = one_piece c.args.address (counted c.args.len) in
      let positive : is_negative c.args.off ≡ false = search rules in
      stops_at_once g.M.Machine.held g.M.Machine.does g.M.Machine.stops g.met.M.Machine.lawful _ (pread64_row p K c.args.fd c.args.address c.args.len c.args.off));
}
