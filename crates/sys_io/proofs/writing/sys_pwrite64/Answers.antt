use Rattle.std.proofs.Common.{rules, ◌≡◌, ◌==◌, ℕ, Result, true, refl, sym, subst, ◌∙◌, List, [], ◌++◌, Some, None, false}
use Rattle.kernel_objects.specs.declared.descriptor.Object.{Object}
use Rattle.linux_model.specs.Called.{Gives}
use Rattle.linux_model.specs.Buffers.{one_piece, counted, to_read, where_good}
use Rattle.linux_model.specs.Descriptors.{file_of, is_writable, opened, that}
use Rattle.linux_model.specs.Effects.{Effect}
use Rattle.linux_model.specs.FileCalls.{pwrite64_row, writes_file}
use Rattle.linux_model.specs.Fits.{ObjectFits}
use Rattle.linux_model.specs.Held.{with_held}
use Rattle.linux_model.specs.Limits.{EBADF, ESPIPE, is_negative}
use Rattle.linux_model.specs.Managed.{with_managed}
use Rattle.linux_model.proofs.Managing.{managed-append}
use Rattle.linux_model.specs.Processes.{process}
use Rattle.call_machine.specs.Lent.{kernel_of}
use Rattle.call_machine.proofs.Rows.{ran_stops, each_process, stops_as, stops_at_once, stops_end}
use Rattle.call_machine.proofs.Stops.{stops_follow}
use Rattle.call_parts.proofs.Opened.{object_there}
use Rattle.manager.specs.Words.{open_of}
use Rattle.sys_io.specs.Moving.{Refused, Wrote, WroteOr}
use Rattle.sys_io.proofs.Moving.{found_by, not_regular}
use Rattle.sys_io.proofs.writing.sys_pwrite64.Goals as goal

pub write_at-requires-clause-there : goal.write_at-requires-clause-there
write_at-requires-clause-there g c =
    let man = c.args.man.now in
    let held = g.M.Machine.held c.args.machine.now in
    subst (λ (o : Object). ObjectFits held.files man.pipes o) c.in-Regular.is (object_there man held c.in-Some.found.desc c.in-Some.found.is c.requires.fit c.in-Some.ensures.there)

pub returns-in_default-clause-answers : goal.returns-in_default-clause-answers
returns-in_default-clause-answers g c k = each_process c.args.man.now c.args.pid.0 _ (λ p own there.
    let man = c.args.man.now in
    let held = g.M.Machine.held c.args.machine.now in
    let K = kernel_of man held k in
    let positive : is_negative c.args.off ≡ false = search rules in
    let found : that is_writable (opened p c.args.fd K) ≡ None = found_by man held k c.args.pid.0 p is_writable c.args.fd None there c.in_default.ensures.is in
    let row : pwrite64_row p K c.args.fd c.args.address c.args.len c.args.off ≡ Gives [] EBADF = search rules in
    record { effects = []; row_is = row; did = g.met.M.Machine.lawful.none _; managed = refl })

pub returns-in_default-clause-stops : goal.returns-in_default-clause-stops
returns-in_default-clause-stops g c k = ran_stops g.M.Machine.held g.M.Machine.does g.M.Machine.stops g.met.M.Machine.lawful _ _ _ _ (process c.args.man.now.procs c.args.pid.0) _ _ (λ es. refl) (returns-in_default-clause-answers g c k)

pub returns-then-len-eq0-clause-answers : goal.returns-then-len-eq0-clause-answers
returns-then-len-eq0-clause-answers g c k = each_process c.args.man.now c.args.pid.0 _ (λ p own there.
    let man = c.args.man.now in
    let held = g.M.Machine.held c.args.machine.now in
    let K = kernel_of man held k in
    let positive : is_negative c.args.off ≡ false = search rules in
    let found : that is_writable (opened p c.args.fd K) ≡ Some (open_of c.in-Some.found) = found_by man held k c.args.pid.0 p is_writable c.args.fd (Some c.in-Some.found) there c.in-Some.ensures.is in
    let none : (c.args.len == 0) ≡ true = search rules in
    let row : pwrite64_row p K c.args.fd c.args.address c.args.len c.args.off ≡ Gives [] 0 = search rules in
    record { effects = []; row_is = row; did = g.met.M.Machine.lawful.none _; managed = refl })

pub returns-then-len-eq0-clause-stops : goal.returns-then-len-eq0-clause-stops
returns-then-len-eq0-clause-stops g c k = ran_stops g.M.Machine.held g.M.Machine.does g.M.Machine.stops g.met.M.Machine.lawful _ _ _ _ (process c.args.man.now.procs c.args.pid.0) _ _ (λ es. refl) (returns-then-len-eq0-clause-answers g c k)

pub returns-in_err-_end-clause-stops : goal.returns-in_err-_end-clause-stops
returns-in_err-_end-clause-stops g c k = each_process c.args.man.now c.args.pid.0 _ (λ p own there.
    let man = c.args.man.now in
    let held = g.M.Machine.held c.args.machine.now in
    let K = kernel_of man held k in
    let positive : is_negative c.args.off ≡ false = search rules in
    let found : that is_writable (opened p c.args.fd K) ≡ Some (open_of c.in-Some.found) = found_by man held k c.args.pid.0 p is_writable c.args.fd (Some c.in-Some.found) there c.in-Some.ensures.is in
    let n = c.min-n.result in
    let after : ℕ → List Effect = λ offset. [] in
    let size : counted c.args.len ≡ n = sym c.min-n.ensures in
    let some : (c.args.len == 0) ≡ false = search rules in
    let counted_row : pwrite64_row p K c.args.fd c.args.address c.args.len c.args.off ≡ where_good p K to_read (one_piece c.args.address (counted c.args.len)) (writes_file p K c.in-Regular.file.0 c.in-Some.found.is.flags c.args.off (one_piece c.args.address (counted c.args.len)) (counted c.args.len) after) = search rules in
    let row = counted_row ∙ (λ i. where_good p K to_read (one_piece c.args.address (size i)) (writes_file p K c.in-Regular.file.0 c.in-Some.found.is.flags c.args.off (one_piece c.args.address (size i)) (size i) after)) in
    stops_as g.M.Machine.held g.M.Machine.does g.M.Machine.stops g.met.M.Machine.lawful _ _ _ _ row (c.write_at.ensures.stops p (with_managed man k) after own))

pub returns-in-Ok-clause-answers : goal.returns-in-Ok-clause-answers
returns-in-Ok-clause-answers g c k = each_process c.args.man.now c.args.pid.0 _ (λ p own there.
    let man = c.args.man.now in
    let held = g.M.Machine.held c.args.machine.now in
    let K = kernel_of man held k in
    let positive : is_negative c.args.off ≡ false = search rules in
    let found : that is_writable (opened p c.args.fd K) ≡ Some (open_of c.in-Some.found) = found_by man held k c.args.pid.0 p is_writable c.args.fd (Some c.in-Some.found) there c.in-Some.ensures.is in
    let n = c.min-n.result in
    let after : ℕ → List Effect = λ offset. [] in
    let size : counted c.args.len ≡ n = sym c.min-n.ensures in
    let some : (c.args.len == 0) ≡ false = search rules in
    let counted_row : pwrite64_row p K c.args.fd c.args.address c.args.len c.args.off ≡ where_good p K to_read (one_piece c.args.address (counted c.args.len)) (writes_file p K c.in-Regular.file.0 c.in-Some.found.is.flags c.args.off (one_piece c.args.address (counted c.args.len)) (counted c.args.len) after) = search rules in
    let row = counted_row ∙ (λ i. where_good p K to_read (one_piece c.args.address (size i)) (writes_file p K c.in-Regular.file.0 c.in-Some.found.is.flags c.args.off (one_piece c.args.address (size i)) (size i) after)) in
    let w : Wrote g.M.Machine.does c.args.machine.now c.write_at.new.machine (λ after. where_good p (with_held held (with_managed man k)) to_read (one_piece c.args.address n) (writes_file p (with_held held (with_managed man k)) c.in-Regular.file.0 c.in-Some.found.is.flags c.args.off (one_piece c.args.address n) n after)) n c.in-Ok._end = subst (λ (r : Result ℕ ℕ). WroteOr g.M.Machine.does c.args.machine.now c.write_at.new.machine (λ after. where_good p (with_held held (with_managed man k)) to_read (one_piece c.args.address n) (writes_file p (with_held held (with_managed man k)) c.in-Regular.file.0 c.in-Some.found.is.flags c.args.off (one_piece c.args.address n) n after)) n r) c.in-Ok.is (c.in_ok-_end.ensures.writes p (with_managed man k) own) in
    record {
      effects = w.effects ++ [];
      row_is = row ∙ w.row_is after;
      did = g.met.M.Machine.lawful.both _ _ _ w.effects [] w.apart.did (g.met.M.Machine.lawful.none _);
      managed = managed-append w.effects [] man ∙ w.apart.still man;
    })

pub returns-in-Ok-clause-stops : goal.returns-in-Ok-clause-stops
returns-in-Ok-clause-stops g c k = ran_stops g.M.Machine.held g.M.Machine.does g.M.Machine.stops g.met.M.Machine.lawful _ _ _ _ (process c.args.man.now.procs c.args.pid.0) _ _ (λ es. refl) (returns-in-Ok-clause-answers g c k)

pub returns-in-Err-clause-answers : goal.returns-in-Err-clause-answers
returns-in-Err-clause-answers g c k = each_process c.args.man.now c.args.pid.0 _ (λ p own there.
    let man = c.args.man.now in
    let held = g.M.Machine.held c.args.machine.now in
    let K = kernel_of man held k in
    let positive : is_negative c.args.off ≡ false = search rules in
    let found : that is_writable (opened p c.args.fd K) ≡ Some (open_of c.in-Some.found) = found_by man held k c.args.pid.0 p is_writable c.args.fd (Some c.in-Some.found) there c.in-Some.ensures.is in
    let n = c.min-n.result in
    let after : ℕ → List Effect = λ offset. [] in
    let size : counted c.args.len ≡ n = sym c.min-n.ensures in
    let some : (c.args.len == 0) ≡ false = search rules in
    let counted_row : pwrite64_row p K c.args.fd c.args.address c.args.len c.args.off ≡ where_good p K to_read (one_piece c.args.address (counted c.args.len)) (writes_file p K c.in-Regular.file.0 c.in-Some.found.is.flags c.args.off (one_piece c.args.address (counted c.args.len)) (counted c.args.len) after) = search rules in
    let row = counted_row ∙ (λ i. where_good p K to_read (one_piece c.args.address (size i)) (writes_file p K c.in-Regular.file.0 c.in-Some.found.is.flags c.args.off (one_piece c.args.address (size i)) (size i) after)) in
    let w : Refused g.M.Machine.does c.args.machine.now c.write_at.new.machine (λ after. where_good p (with_held held (with_managed man k)) to_read (one_piece c.args.address n) (writes_file p (with_held held (with_managed man k)) c.in-Regular.file.0 c.in-Some.found.is.flags c.args.off (one_piece c.args.address n) n after)) c.in-Err.errno = subst (λ (r : Result ℕ ℕ). WroteOr g.M.Machine.does c.args.machine.now c.write_at.new.machine (λ after. where_good p (with_held held (with_managed man k)) to_read (one_piece c.args.address n) (writes_file p (with_held held (with_managed man k)) c.in-Regular.file.0 c.in-Some.found.is.flags c.args.off (one_piece c.args.address n) n after)) n r) c.in-Err.is (c.in_ok-_end.ensures.writes p (with_managed man k) own) in
    record { effects = w.effects; row_is = row ∙ w.row_is after; did = w.apart.did; managed = w.apart.still man })

pub returns-in-Err-clause-stops : goal.returns-in-Err-clause-stops
returns-in-Err-clause-stops g c k = ran_stops g.M.Machine.held g.M.Machine.does g.M.Machine.stops g.met.M.Machine.lawful _ _ _ _ (process c.args.man.now.procs c.args.pid.0) _ _ (λ es. refl) (returns-in-Err-clause-answers g c k)

pub returns-in_default-object : goal.returns-in_default-object
returns-in_default-object g c = record {
  answers = λ k. each_process c.args.man.now c.args.pid.0 _ (λ p own there.
      let man = c.args.man.now in
      let held = g.M.Machine.held c.args.machine.now in
      let K = kernel_of man held k in
      let positive : is_negative c.args.off ≡ false = search rules in
      let found : that is_writable (opened p c.args.fd K) ≡ Some (open_of c.in-Some.found) = found_by man held k c.args.pid.0 p is_writable c.args.fd (Some c.in-Some.found) there c.in-Some.ensures.is in
      let file : file_of c.in-Some.found.is.object ≡ None = not_regular c.in-Some.found.is.object c.in_default-object.not-Regular in
      let row : pwrite64_row p K c.args.fd c.args.address c.args.len c.args.off ≡ Gives [] ESPIPE = search rules in
      record { effects = []; row_is = row; did = g.met.M.Machine.lawful.none _; managed = refl });
  stops = λ k. each_process c.args.man.now c.args.pid.0 _ (λ p own there.
      let man = c.args.man.now in
      let held = g.M.Machine.held c.args.machine.now in
      let K = kernel_of man held k in
      let positive : is_negative c.args.off ≡ false = search rules in
      stops_at_once g.M.Machine.held g.M.Machine.does g.M.Machine.stops g.met.M.Machine.lawful _ (pwrite64_row p K c.args.fd c.args.address c.args.len c.args.off));
}
