use Rattle.std.proofs.Common.{rules, ◌≡◌, ℕ, refl, ◌∙◌, ap, subst, List, [], ◌∷◌, ◌++◌, true, false}
use Rattle.linux_model.specs.Buffers.{are_good, asks_pieces, bytes_in, copies_in, where_good}
use Rattle.linux_model.specs.Called.{Gives}
use Rattle.linux_model.specs.Effects.{Puts}
use Rattle.linux_model.specs.FileCalls.{writes_stream}
use Rattle.linux_model.specs.Held.{Held}
use Rattle.linux_model.proofs.Looking.{looking_is_still}
use Rattle.linux_model.specs.Processes.{process}
use Rattle.call_machine.specs.Lent.{kernel_of}
use Rattle.call_machine.proofs.Rows.{ran_stops, each_process, ran_asked, stops_as, stops_in}
use Rattle.call_machine.proofs.Stops.{stops_follow}
use Rattle.sys_io.proofs.Moving.{asks_still, both_still, copies_in_still}
use Rattle.sys_io.proofs.Sending.{bad_then, good_then, where_good_asks}
use Rattle.sys_io.proofs.writing.write_stream.Goals as goal

pub returns-in_err-check_pieces-clause-stops : goal.returns-in_err-check_pieces-clause-stops
returns-in_err-check_pieces-clause-stops g c k = each_process c.args.man.now c.args.pid.0 _ (λ p own there.
    let laws = g.met.M.Machine.lawful in
    let held = g.M.Machine.held c.args.machine.now in
    let pid = c.args.pid.0 in
    let pieces = c.args.pieces.now in
    let n = c.args.n in
    let man = c.args.man.now in
    let K = kernel_of man held k in
    let stream = c.args.stream in
    let rest = writes_stream p K stream pieces n in
    let asks = asks_pieces pid (held.space pid) 1 pieces in
    stops_in g.M.Machine.held g.M.Machine.does g.M.Machine.stops g.met.M.Machine.lawful _ _ asks _ _ (where_good_asks p K pid 1 pieces rest own) c.check_pieces.ensures.stops)

pub returns-then-not-branch-clause-ends : goal.returns-then-not-branch-clause-ends
returns-then-not-branch-clause-ends g c k = each_process c.args.man.now c.args.pid.0 _ (λ p own there.
    let laws = g.met.M.Machine.lawful in
    let held = g.M.Machine.held c.args.machine.now in
    let pid = c.args.pid.0 in
    let pieces = c.args.pieces.now in
    let n = c.args.n in
    let man = c.args.man.now in
    let K = kernel_of man held k in
    let stream = c.args.stream in
    let rest = writes_stream p K stream pieces n in
    let asks = asks_pieces pid (held.space pid) 1 pieces in
    let bad : are_good (held.space pid) 1 pieces ≡ false = search rules in
    ran_asked g.M.Machine.held g.M.Machine.does g.M.Machine.stops g.met.M.Machine.lawful _ _ c.args.man.now asks _ _ (looking_is_still.checks pid (held.space pid) 1 pieces) c.in_ok-check_pieces.ensures.does (bad_then p K pid 1 pieces rest own bad))

pub returns-then-not-branch-clause-stops : goal.returns-then-not-branch-clause-stops
returns-then-not-branch-clause-stops g c k = ran_stops g.M.Machine.held g.M.Machine.does g.M.Machine.stops g.met.M.Machine.lawful _ _ _ _ (process c.args.man.now.procs c.args.pid.0) _ _ (λ es. refl) (returns-then-not-branch-clause-ends g c k)

pub returns-in_err-bytes-clause-stops : goal.returns-in_err-bytes-clause-stops
returns-in_err-bytes-clause-stops g c k = each_process c.args.man.now c.args.pid.0 _ (λ p own there.
    let laws = g.met.M.Machine.lawful in
    let held = g.M.Machine.held c.args.machine.now in
    let pid = c.args.pid.0 in
    let pieces = c.args.pieces.now in
    let n = c.args.n in
    let man = c.args.man.now in
    let K = kernel_of man held k in
    let stream = c.args.stream in
    let rest = writes_stream p K stream pieces n in
    let asks = asks_pieces pid (held.space pid) 1 pieces in
    let good : are_good (held.space pid) 1 pieces ≡ true = search rules in
    let asked = c.in_ok-check_pieces.ensures.does in
    let copies = copies_in pid (held.space pid) pieces in
    let bytes = bytes_in (held.space pid) pieces in
    let shows = Puts stream bytes ∷ [] in
    let row : where_good p K 1 pieces rest ≡ Gives (asks ++ (copies ++ shows)) n =
    good_then p K pid 1 pieces rest own good ∙ (λ i. Gives (asks ++ (copies_in (own i) (held.space (own i)) pieces ++ Puts stream (bytes_in (held.space (own i)) pieces) ∷ [])) n) in
    let held1 = c.in_ok-check_pieces.ensures.held in
    let stop = subst (λ (h : Held). g.M.Machine.stops c.check_pieces.new.machine c.read_pieces.new.machine (copies_in pid (h.space pid) pieces)) held1 c.read_pieces.ensures.stops in
    stops_as g.M.Machine.held g.M.Machine.does g.M.Machine.stops g.met.M.Machine.lawful _ _ _ _ row (laws.stops_then _ _ _ asks _ asked (laws.stops_front _ _ copies shows stop)))

pub returns-clause-ends : goal.returns-clause-ends
returns-clause-ends g c k = each_process c.args.man.now c.args.pid.0 _ (λ p own there.
    let laws = g.met.M.Machine.lawful in
    let held = g.M.Machine.held c.args.machine.now in
    let pid = c.args.pid.0 in
    let pieces = c.args.pieces.now in
    let n = c.args.n in
    let man = c.args.man.now in
    let K = kernel_of man held k in
    let stream = c.args.stream in
    let rest = writes_stream p K stream pieces n in
    let asks = asks_pieces pid (held.space pid) 1 pieces in
    let good : are_good (held.space pid) 1 pieces ≡ true = search rules in
    let asked = c.in_ok-check_pieces.ensures.does in
    let copies = copies_in pid (held.space pid) pieces in
    let bytes = bytes_in (held.space pid) pieces in
    let shows = Puts stream bytes ∷ [] in
    let row : where_good p K 1 pieces rest ≡ Gives (asks ++ (copies ++ shows)) n =
    good_then p K pid 1 pieces rest own good ∙ (λ i. Gives (asks ++ (copies_in (own i) (held.space (own i)) pieces ++ Puts stream (bytes_in (held.space (own i)) pieces) ∷ [])) n) in
    let held1 = c.in_ok-check_pieces.ensures.held in
    let read = subst (λ (h : Held). g.M.Machine.does c.check_pieces.new.machine c.read_pieces.new.machine (copies_in pid (h.space pid) pieces)) held1 c.in_ok-bytes.ensures.does in
    let bytes1 : c.as_slice.result.now ≡ bytes_in ((g.M.Machine.held c.check_pieces.new.machine).space pid) pieces = search rules in
    let bytes_are = bytes1 ∙ ap (λ (h : Held). bytes_in (h.space pid) pieces) held1 in
    let shown = subst (λ (l : List ℕ). g.M.Machine.does c.read_pieces.new.machine c.put_out.new.self (Puts stream l ∷ [])) bytes_are c.put_out.ensures.does in
    let did = laws.both _ _ _ asks (copies ++ shows) asked (laws.both _ _ _ copies shows read shown) in
    record {
      effects = asks ++ (copies ++ shows);
      row_is = row;
      did = did;
      managed = both_still asks (copies ++ shows) man (asks_still pid (held.space pid) 1 pieces man) (both_still copies shows man (copies_in_still pid (held.space pid) pieces man) refl);
    })

pub returns-clause-stops : goal.returns-clause-stops
returns-clause-stops g c k = ran_stops g.M.Machine.held g.M.Machine.does g.M.Machine.stops g.met.M.Machine.lawful _ _ _ _ (process c.args.man.now.procs c.args.pid.0) _ _ (λ es. refl) (returns-clause-ends g c k)
