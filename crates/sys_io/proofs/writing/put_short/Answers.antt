use Rattle.std.proofs.Common.{rules, ◌≡◌, ℕ, ltb, refl, sym, ◌∙◌, ap, List, [], ◌∷◌, ◌++◌, length, take, cond, false, arith}
use Rattle.std.proofs.lemmas.List.{take_all}
use Rattle.linux_model.specs.Buffers.{bytes_in, copies_in}
use Rattle.linux_model.specs.Called.{Gives, Waits}
use Rattle.linux_model.specs.Effects.{PutsPipe}
use Rattle.linux_model.specs.FileCalls.{puts_pieces, room_of, writes_short}
use Rattle.linux_model.specs.Managed.{managed_after}
use Rattle.linux_model.proofs.Managing.{managed-append}
use Rattle.linux_model.specs.Processes.{process}
use Rattle.call_machine.specs.Lent.{kernel_of}
use Rattle.call_machine.proofs.Rows.{ran_stops, each_process, stops_as}
use Rattle.call_machine.proofs.Stops.{stops_follow}
use Rattle.sys_io.proofs.Moving.{copies_in_still}
use Rattle.sys_io.proofs.Sending.{put_all, length_in}
use Rattle.sys_io.proofs.writing.put_short.Goals as goal

pub returns-in_err-bytes-clause-stops : goal.returns-in_err-bytes-clause-stops
returns-in_err-bytes-clause-stops g c k = each_process c.args.man.now c.args.pid.0 _ (λ p own there.
    let laws = g.met.M.Machine.lawful in
    let held = g.M.Machine.held c.args.machine.now in
    let pid = c.args.pid.0 in
    let pieces = c.args.pieces.now in
    let n = c.args.n in
    let man = c.args.man.now in
    let K = kernel_of man held k in
    let pipe = c.args.pipe in
    let copies = copies_in pid (held.space pid) pieces in
    let bytes = bytes_in (held.space pid) pieces in
    let puts = PutsPipe pipe bytes ∷ [] in
    let room : room_of pipe K ≡ c.args.room = sym c.requires.room in
    let enough : ltb c.args.room n ≡ false = search rules in
    let row : writes_short p K pipe pieces n ≡ Gives (copies ++ puts) n =
    ap (λ r. cond (ltb r n) (Waits [] 0 n) (Gives (puts_pieces p K pipe pieces) n)) room
    ∙ ap (λ b. cond b (Waits [] 0 n) (Gives (puts_pieces p K pipe pieces) n)) enough
    ∙ (λ i. Gives (copies_in (own i) (held.space (own i)) pieces ++ PutsPipe pipe (bytes_in (held.space (own i)) pieces) ∷ []) n) in
    stops_as g.M.Machine.held g.M.Machine.does g.M.Machine.stops g.met.M.Machine.lawful _ _ _ _ row (laws.stops_front _ _ copies puts c.read_pieces.ensures.stops))

pub returns-clause-ends : goal.returns-clause-ends
returns-clause-ends g c k = each_process c.args.man.now c.args.pid.0 _ (λ p own there.
    let laws = g.met.M.Machine.lawful in
    let held = g.M.Machine.held c.args.machine.now in
    let pid = c.args.pid.0 in
    let pieces = c.args.pieces.now in
    let n = c.args.n in
    let man = c.args.man.now in
    let K = kernel_of man held k in
    let pipe = c.args.pipe in
    let copies = copies_in pid (held.space pid) pieces in
    let bytes = bytes_in (held.space pid) pieces in
    let puts = PutsPipe pipe bytes ∷ [] in
    let room : room_of pipe K ≡ c.args.room = sym c.requires.room in
    let enough : ltb c.args.room n ≡ false = search rules in
    let row : writes_short p K pipe pieces n ≡ Gives (copies ++ puts) n =
    ap (λ r. cond (ltb r n) (Waits [] 0 n) (Gives (puts_pieces p K pipe pieces) n)) room
    ∙ ap (λ b. cond b (Waits [] 0 n) (Gives (puts_pieces p K pipe pieces) n)) enough
    ∙ (λ i. Gives (copies_in (own i) (held.space (own i)) pieces ++ PutsPipe pipe (bytes_in (held.space (own i)) pieces) ∷ []) n) in
    let did = laws.both _ _ _ copies puts c.in_ok-bytes.ensures.does (laws.apart _ _ refl) in
    let bytes_are : c.as_slice.result.now ≡ bytes = search rules in
    let size = ap (λ (l : List ℕ). length l) bytes_are ∙ length_in (held.space pid) pieces ∙ c.requires.all in
    let count : c.pipe_put.result ≡ length c.as_slice.result.now = put_all c.pipe_put.result (length c.as_slice.result.now) n c.args.room (room_of pipe K) size (search rules) c.pipe_put.ensures.count room in
    let all : take c.pipe_put.result c.as_slice.result.now ≡ bytes = ap (λ m. take m c.as_slice.result.now) count ∙ take_all (length c.as_slice.result.now) c.as_slice.result.now (omega arith) ∙ bytes_are in
    record {
      effects = copies ++ puts;
      row_is = row;
      did = did;
      managed = managed-append copies puts man ∙ ap (managed_after (PutsPipe pipe bytes)) (copies_in_still pid (held.space pid) pieces man) ∙ ap (λ (l : List ℕ). managed_after (PutsPipe pipe l) man) (sym all) ∙ sym c.pipe_put.ensures.put;
    })

pub returns-clause-stops : goal.returns-clause-stops
returns-clause-stops g c k = ran_stops g.M.Machine.held g.M.Machine.does g.M.Machine.stops g.met.M.Machine.lawful _ _ _ _ (process c.args.man.now.procs c.args.pid.0) _ _ (λ es. refl) (returns-clause-ends g c k)
