use Rattle.std.proofs.Common.{ℕ, ◌+◌, refl, sym, ◌∙◌, ap, subst, List, [], ◌∷◌, ◌++◌, Option}
use Rattle.linux_model.specs.Effects.{Effect, Seeks}
use Rattle.linux_model.specs.FileCalls.{reads_file}
use Rattle.linux_model.specs.Held.{with_held}
use Rattle.linux_model.specs.Managed.{managed_after, with_managed}
use Rattle.linux_model.proofs.Managing.{managed-append}
use Rattle.linux_model.specs.Processes.{process}
use Rattle.call_machine.proofs.Rows.{ran_stops, each_process, stops_as, stops_end}
use Rattle.call_machine.proofs.Stops.{stops_follow}
use Rattle.sys_io.specs.Moving.{Faulted, Moved, MovedOr}
use Rattle.sys_io.proofs.reading.read_file.Goals as goal

pub returns-in_err-count-clause-stops : goal.returns-in_err-count-clause-stops
returns-in_err-count-clause-stops g c k = each_process c.args.man.now c.args.pid.0 _ (λ p own there.
    let laws = g.met.M.Machine.lawful in
    let man = c.args.man.now in
    let held = g.M.Machine.held c.args.machine.now in
    let K = with_managed man k in
    let seeks : ℕ → List Effect = λ moved. Seeks c.args.found.now.desc (c.args.found.now.is.offset + moved) ∷ [] in
    c.read_at.ensures.stops p K seeks own)

pub returns-in-Some-clause-ends : goal.returns-in-Some-clause-ends
returns-in-Some-clause-ends g c k = each_process c.args.man.now c.args.pid.0 _ (λ p own there.
    let laws = g.met.M.Machine.lawful in
    let man = c.args.man.now in
    let held = g.M.Machine.held c.args.machine.now in
    let K = with_managed man k in
    let seeks : ℕ → List Effect = λ moved. Seeks c.args.found.now.desc (c.args.found.now.is.offset + moved) ∷ [] in
    let m : Moved g.M.Machine.does c.args.machine.now c.read_at.new.machine (λ after. reads_file p (with_held held K) c.args.file.0 c.args.found.now.is.offset c.args.pieces.now c.args.n after) c.in-Some.count = subst (λ (o : Option ℕ). MovedOr g.M.Machine.does c.args.machine.now c.read_at.new.machine (λ after. reads_file p (with_held held K) c.args.file.0 c.args.found.now.is.offset c.args.pieces.now c.args.n after) o) c.in-Some.is (c.in_ok-count.ensures.moves p K own) in
    record {
      effects = m.effects ++ seeks c.in-Some.count;
      row_is = m.row_is seeks;
      did = laws.both _ _ _ m.effects (seeks c.in-Some.count) m.apart.did (laws.apart _ _ refl);
      managed = managed-append m.effects (seeks c.in-Some.count) man ∙ ap (managed_after (Seeks c.args.found.now.desc (c.args.found.now.is.offset + c.in-Some.count))) (m.apart.still man) ∙ sym c.set_offset.ensures;
    })

pub returns-in-Some-clause-stops : goal.returns-in-Some-clause-stops
returns-in-Some-clause-stops g c k = ran_stops g.M.Machine.held g.M.Machine.does g.M.Machine.stops g.met.M.Machine.lawful _ _ _ _ (process c.args.man.now.procs c.args.pid.0) _ _ (λ es. refl) (returns-in-Some-clause-ends g c k)

pub returns-in-None-clause-ends : goal.returns-in-None-clause-ends
returns-in-None-clause-ends g c k = each_process c.args.man.now c.args.pid.0 _ (λ p own there.
    let laws = g.met.M.Machine.lawful in
    let man = c.args.man.now in
    let held = g.M.Machine.held c.args.machine.now in
    let K = with_managed man k in
    let seeks : ℕ → List Effect = λ moved. Seeks c.args.found.now.desc (c.args.found.now.is.offset + moved) ∷ [] in
    let f : Faulted g.M.Machine.does c.args.machine.now c.read_at.new.machine (λ after. reads_file p (with_held held K) c.args.file.0 c.args.found.now.is.offset c.args.pieces.now c.args.n after) = subst (λ (o : Option ℕ). MovedOr g.M.Machine.does c.args.machine.now c.read_at.new.machine (λ after. reads_file p (with_held held K) c.args.file.0 c.args.found.now.is.offset c.args.pieces.now c.args.n after) o) c.in-None.is (c.in_ok-count.ensures.moves p K own) in
    record { effects = f.effects; row_is = f.row_is seeks; did = f.apart.did; managed = f.apart.still man })

pub returns-in-None-clause-stops : goal.returns-in-None-clause-stops
returns-in-None-clause-stops g c k = ran_stops g.M.Machine.held g.M.Machine.does g.M.Machine.stops g.met.M.Machine.lawful _ _ _ _ (process c.args.man.now.procs c.args.pid.0) _ _ (λ es. refl) (returns-in-None-clause-ends g c k)
