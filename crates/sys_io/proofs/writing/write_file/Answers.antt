use Rattle.std.proofs.Common.{ℕ, refl, sym, ◌∙◌, ap, subst, List, [], ◌∷◌, ◌++◌, Result}
use Rattle.linux_model.specs.Buffers.{to_read, where_good}
use Rattle.linux_model.specs.Effects.{Effect, Seeks}
use Rattle.linux_model.specs.FileCalls.{writes_file}
use Rattle.linux_model.specs.Held.{with_held}
use Rattle.linux_model.specs.Managed.{managed_after, with_managed}
use Rattle.linux_model.proofs.Managing.{managed-append}
use Rattle.linux_model.specs.Processes.{process}
use Rattle.call_machine.proofs.Rows.{ran_stops, each_process, stops_as, stops_end}
use Rattle.call_machine.proofs.Stops.{stops_follow}
use Rattle.sys_io.specs.Moving.{Refused, Wrote, WroteOr}
use Rattle.sys_io.proofs.writing.write_file.Goals as goal

pub returns-in_err-end-clause-stops : goal.returns-in_err-end-clause-stops
returns-in_err-end-clause-stops g c k = each_process c.args.man.now c.args.pid.0 _ (λ p own there.
    let laws = g.met.M.Machine.lawful in
    let held = g.M.Machine.held c.args.machine.now in
    let pid = c.args.pid.0 in
    let pieces = c.args.pieces.now in
    let n = c.args.n in
    let man = c.args.man.now in
    let K = with_managed man k in
    let is = c.args.found.now.is in
    let seeks : ℕ → List Effect = λ offset. Seeks c.args.found.now.desc offset ∷ [] in
    c.write_at.ensures.stops p K seeks own)

pub returns-in-Ok-clause-ends : goal.returns-in-Ok-clause-ends
returns-in-Ok-clause-ends g c k = each_process c.args.man.now c.args.pid.0 _ (λ p own there.
    let laws = g.met.M.Machine.lawful in
    let held = g.M.Machine.held c.args.machine.now in
    let pid = c.args.pid.0 in
    let pieces = c.args.pieces.now in
    let n = c.args.n in
    let man = c.args.man.now in
    let K = with_managed man k in
    let is = c.args.found.now.is in
    let seeks : ℕ → List Effect = λ offset. Seeks c.args.found.now.desc offset ∷ [] in
    let w : Wrote g.M.Machine.does c.args.machine.now c.write_at.new.machine (λ after. where_good p (with_held held K) to_read pieces (writes_file p (with_held held K) c.args.file.0 is.flags is.offset pieces n after)) n c.in-Ok.end = subst (λ (r : Result ℕ ℕ). WroteOr g.M.Machine.does c.args.machine.now c.write_at.new.machine (λ after. where_good p (with_held held K) to_read pieces (writes_file p (with_held held K) c.args.file.0 is.flags is.offset pieces n after)) n r) c.in-Ok.is (c.in_ok-end.ensures.writes p K own) in
    record {
      effects = w.effects ++ seeks c.in-Ok.end;
      row_is = w.row_is seeks;
      did = laws.both _ _ _ w.effects (seeks c.in-Ok.end) w.apart.did (laws.apart _ _ refl);
      managed = managed-append w.effects (seeks c.in-Ok.end) man ∙ ap (managed_after (Seeks c.args.found.now.desc c.in-Ok.end)) (w.apart.still man) ∙ sym c.set_offset.ensures;
    })

pub returns-in-Ok-clause-stops : goal.returns-in-Ok-clause-stops
returns-in-Ok-clause-stops g c k = ran_stops g.M.Machine.held g.M.Machine.does g.M.Machine.stops g.met.M.Machine.lawful _ _ _ _ (process c.args.man.now.procs c.args.pid.0) _ _ (λ es. refl) (returns-in-Ok-clause-ends g c k)

pub returns-in-Err-clause-ends : goal.returns-in-Err-clause-ends
returns-in-Err-clause-ends g c k = each_process c.args.man.now c.args.pid.0 _ (λ p own there.
    let laws = g.met.M.Machine.lawful in
    let held = g.M.Machine.held c.args.machine.now in
    let pid = c.args.pid.0 in
    let pieces = c.args.pieces.now in
    let n = c.args.n in
    let man = c.args.man.now in
    let K = with_managed man k in
    let is = c.args.found.now.is in
    let seeks : ℕ → List Effect = λ offset. Seeks c.args.found.now.desc offset ∷ [] in
    let w : Refused g.M.Machine.does c.args.machine.now c.write_at.new.machine (λ after. where_good p (with_held held K) to_read pieces (writes_file p (with_held held K) c.args.file.0 is.flags is.offset pieces n after)) c.in-Err.errno = subst (λ (r : Result ℕ ℕ). WroteOr g.M.Machine.does c.args.machine.now c.write_at.new.machine (λ after. where_good p (with_held held K) to_read pieces (writes_file p (with_held held K) c.args.file.0 is.flags is.offset pieces n after)) n r) c.in-Err.is (c.in_ok-end.ensures.writes p K own) in
    record { effects = w.effects; row_is = w.row_is seeks; did = w.apart.did; managed = w.apart.still man })

pub returns-in-Err-clause-stops : goal.returns-in-Err-clause-stops
returns-in-Err-clause-stops g c k = ran_stops g.M.Machine.held g.M.Machine.does g.M.Machine.stops g.met.M.Machine.lawful _ _ _ _ (process c.args.man.now.procs c.args.pid.0) _ _ (λ es. refl) (returns-in-Err-clause-ends g c k)
