use Rattle.std.proofs.Common.{rules, ◌≡◌, ◌<◌, min, refl, sym, ◌∙◌, ap, subst, List, [], ◌∷◌, length, take, cond, true, false, arith}
use Rattle.std.proofs.lemmas.List.{take_min}
use Rattle.kernel_objects.specs.declared.piece.Piece.{Piece}
use Rattle.kernel_objects.specs.Slots.{slot}
use Rattle.linux_model.specs.Buffers.{are_good, asks_pieces, copies_out, part}
use Rattle.linux_model.specs.Called.{Waits, says}
use Rattle.linux_model.specs.Effects.{TakesPipe, bytes_in_pipe}
use Rattle.linux_model.specs.Held.{Held}
use Rattle.linux_model.specs.Managed.{managed_after}
use Rattle.linux_model.specs.Processes.{process}
use Rattle.call_machine.specs.Lent.{kernel_of}
use Rattle.call_machine.proofs.Rows.{ran_stops, each_process, ran_as, stops_as}
use Rattle.call_machine.proofs.Stops.{stops_follow}
use Rattle.sys_io.proofs.Moving.{faulted, moved, moves_out_is, none_in_pipe, some_in_pipe, stops_asking, stops_moved, stops_writing, take_size}
use Rattle.sys_io.proofs.reading.read_pipe.Goals as goal

pub returns-in_err-parts-clause-stops : goal.returns-in_err-parts-clause-stops
returns-in_err-parts-clause-stops g c k = each_process c.args.man.now c.args.pid.0 _ (λ p own there.
    let laws = g.met.M.Machine.lawful in
    let held = g.M.Machine.held c.args.machine.now in
    let pid = c.args.pid.0 in
    let pieces = c.args.pieces.now in
    let source = (bytes_in_pipe (slot c.args.man.now.pipes c.args.pipe)) in
    let n = c.args.n in
    let bytes = take n source in
    let count = c.min-count.result in
    let count_is : count ≡ min n (length source) = search rules in
    let size = take_size n source count count_is in
    let before = TakesPipe c.args.pipe (length bytes) ∷ [] in
    let parts = part 0 count pieces in
    let some : 0 < length source = search rules in
    let row = some_in_pipe p (kernel_of c.args.man.now held k) c.args.pipe pieces n source some ∙ moves_out_is p (kernel_of c.args.man.now held k) pid count pieces bytes before [] own size in
    stops_as g.M.Machine.held g.M.Machine.does g.M.Machine.stops g.met.M.Machine.lawful _ _ _ _ row (stops_asking g.M.Machine.held g.M.Machine.does g.M.Machine.stops g.met.M.Machine.lawful pid (held.space pid) parts before bytes count _ _ c.writable_part.ensures.stops))

pub returns-in_default-clause-ends : goal.returns-in_default-clause-ends
returns-in_default-clause-ends g c k = each_process c.args.man.now c.args.pid.0 _ (λ p own there.
    let laws = g.met.M.Machine.lawful in
    let held = g.M.Machine.held c.args.machine.now in
    let pid = c.args.pid.0 in
    let pieces = c.args.pieces.now in
    let source = (bytes_in_pipe (slot c.args.man.now.pipes c.args.pipe)) in
    let n = c.args.n in
    let bytes = take n source in
    let count = c.min-count.result in
    let count_is : count ≡ min n (length source) = search rules in
    let size = take_size n source count count_is in
    let before = TakesPipe c.args.pipe (length bytes) ∷ [] in
    let parts = part 0 count pieces in
    let some : 0 < length source = search rules in
    let row = some_in_pipe p (kernel_of c.args.man.now held k) c.args.pipe pieces n source some ∙ moves_out_is p (kernel_of c.args.man.now held k) pid count pieces bytes before [] own size in
    let bad : are_good (held.space pid) 2 parts ≡ false = search rules in
    ran_as _ _ _ _ _ _ _ _ row (faulted g.M.Machine.held g.M.Machine.does g.M.Machine.stops g.met.M.Machine.lawful pid (held.space pid) parts before bytes count _ _ _ c.in_ok-parts.ensures.does bad))

pub returns-in_default-clause-stops : goal.returns-in_default-clause-stops
returns-in_default-clause-stops g c k = ran_stops g.M.Machine.held g.M.Machine.does g.M.Machine.stops g.met.M.Machine.lawful _ _ _ _ (process c.args.man.now.procs c.args.pid.0) _ _ (λ es. refl) (returns-in_default-clause-ends g c k)

pub returns-in_err-bytes-clause-stops : goal.returns-in_err-bytes-clause-stops
returns-in_err-bytes-clause-stops g c k = each_process c.args.man.now c.args.pid.0 _ (λ p own there.
    let laws = g.met.M.Machine.lawful in
    let held = g.M.Machine.held c.args.machine.now in
    let pid = c.args.pid.0 in
    let pieces = c.args.pieces.now in
    let source = (bytes_in_pipe (slot c.args.man.now.pipes c.args.pipe)) in
    let n = c.args.n in
    let bytes = take n source in
    let count = c.min-count.result in
    let count_is : count ≡ min n (length source) = search rules in
    let size = take_size n source count count_is in
    let before = TakesPipe c.args.pipe (length bytes) ∷ [] in
    let parts = part 0 count pieces in
    let some : 0 < length source = search rules in
    let row = some_in_pipe p (kernel_of c.args.man.now held k) c.args.pipe pieces n source some ∙ moves_out_is p (kernel_of c.args.man.now held k) pid count pieces bytes before [] own size in
    let asked : g.M.Machine.does c.args.machine.now c.writable_part.new.machine (asks_pieces pid (held.space pid) 2 parts) = c.in_ok-parts.ensures.does in
    stops_as g.M.Machine.held g.M.Machine.does g.M.Machine.stops g.met.M.Machine.lawful _ _ _ _ row (stops_asking g.M.Machine.held g.M.Machine.does g.M.Machine.stops g.met.M.Machine.lawful pid (held.space pid) parts before bytes count _ _ ((stops_follow g.M.Machine.held g.M.Machine.does g.M.Machine.stops g.met.M.Machine.lawful).did _ _ _ asked)))

pub take_from_pipe-requires-clause-enough : goal.take_from_pipe-requires-clause-enough
take_from_pipe-requires-clause-enough g c =
    let source = (bytes_in_pipe (slot c.args.man.now.pipes c.args.pipe)) in
    let count_is : c.min-count.result ≡ min c.args.n (length source) = search rules in
    omega (arith, count_is)

pub write_pieces-requires : goal.write_pieces-requires
write_pieces-requires g c =
    let held = g.M.Machine.held c.args.machine.now in
    let pid = c.args.pid.0 in
    let parts = part 0 c.min-count.result c.args.pieces.now in
    let good : are_good (held.space pid) 2 parts ≡ true = search rules in
    let parts_are : c.as_slice.result.now ≡ parts = search rules in
    record {
      good = ap (λ (h : Held). are_good (h.space pid) 2 c.as_slice.result.now) c.in_ok-parts.ensures.held ∙ ap (λ (l : List Piece). are_good (held.space pid) 2 l) parts_are ∙ good;
    }

pub returns-in_err-write_pieces-clause-stops : goal.returns-in_err-write_pieces-clause-stops
returns-in_err-write_pieces-clause-stops g c k = each_process c.args.man.now c.args.pid.0 _ (λ p own there.
    let laws = g.met.M.Machine.lawful in
    let held = g.M.Machine.held c.args.machine.now in
    let pid = c.args.pid.0 in
    let pieces = c.args.pieces.now in
    let source = (bytes_in_pipe (slot c.args.man.now.pipes c.args.pipe)) in
    let n = c.args.n in
    let bytes = take n source in
    let count = c.min-count.result in
    let count_is : count ≡ min n (length source) = search rules in
    let size = take_size n source count count_is in
    let before = TakesPipe c.args.pipe (length bytes) ∷ [] in
    let parts = part 0 count pieces in
    let some : 0 < length source = search rules in
    let row = some_in_pipe p (kernel_of c.args.man.now held k) c.args.pipe pieces n source some ∙ moves_out_is p (kernel_of c.args.man.now held k) pid count pieces bytes before [] own size in
    let good : are_good (held.space pid) 2 parts ≡ true = search rules in
    let asked : g.M.Machine.does c.args.machine.now c.writable_part.new.machine (asks_pieces pid (held.space pid) 2 parts) = c.in_ok-parts.ensures.does in
    let got1 : c.as_slice-2.result.now ≡ take count source = search rules in
    let got = got1 ∙ ap (λ m. take m source) count_is ∙ take_min n source in
    let parts_are : c.as_slice.result.now ≡ parts = search rules in
    let copies_are : copies_out pid c.as_slice.result.now c.as_slice-2.result.now ≡ copies_out pid parts bytes = λ i. copies_out pid (parts_are i) (got i) in
    let stop = subst (g.M.Machine.stops c.writable_part.new.machine c.write_pieces.new.machine) copies_are c.write_pieces.ensures.stops in
    stops_as g.M.Machine.held g.M.Machine.does g.M.Machine.stops g.met.M.Machine.lawful _ _ _ _ row (stops_writing g.M.Machine.held g.M.Machine.does g.M.Machine.stops g.met.M.Machine.lawful pid (held.space pid) parts before bytes count _ _ _ good asked (refl, tt) stop))

pub returns-clause-ends : goal.returns-clause-ends
returns-clause-ends g c k = each_process c.args.man.now c.args.pid.0 _ (λ p own there.
    let laws = g.met.M.Machine.lawful in
    let held = g.M.Machine.held c.args.machine.now in
    let pid = c.args.pid.0 in
    let pieces = c.args.pieces.now in
    let source = (bytes_in_pipe (slot c.args.man.now.pipes c.args.pipe)) in
    let n = c.args.n in
    let bytes = take n source in
    let count = c.min-count.result in
    let count_is : count ≡ min n (length source) = search rules in
    let size = take_size n source count count_is in
    let before = TakesPipe c.args.pipe (length bytes) ∷ [] in
    let parts = part 0 count pieces in
    let some : 0 < length source = search rules in
    let row = some_in_pipe p (kernel_of c.args.man.now held k) c.args.pipe pieces n source some ∙ moves_out_is p (kernel_of c.args.man.now held k) pid count pieces bytes before [] own size in
    let good : are_good (held.space pid) 2 parts ≡ true = search rules in
    let asked : g.M.Machine.does c.args.machine.now c.writable_part.new.machine (asks_pieces pid (held.space pid) 2 parts) = c.in_ok-parts.ensures.does in
    let got1 : c.as_slice-2.result.now ≡ take count source = search rules in
    let got = got1 ∙ ap (λ m. take m source) count_is ∙ take_min n source in
    let parts_are : c.as_slice.result.now ≡ parts = search rules in
    let copies_are : copies_out pid c.as_slice.result.now c.as_slice-2.result.now ≡ copies_out pid parts bytes = λ i. copies_out pid (parts_are i) (got i) in
    let wrote = subst (g.M.Machine.does c.writable_part.new.machine c.write_pieces.new.machine) copies_are c.in_ok-write_pieces.ensures.does in
    let managed = ap (λ m. managed_after (TakesPipe c.args.pipe m) c.args.man.now) size ∙ sym c.in_ok-bytes.ensures.taken in
    ran_as _ _ _ _ _ _ _ _ row (moved g.M.Machine.held g.M.Machine.does g.M.Machine.stops g.met.M.Machine.lawful pid (held.space pid) parts before bytes count _ _ _ _ _ good asked (refl, tt) managed wrote))

pub returns-clause-stops : goal.returns-clause-stops
returns-clause-stops g c k = ran_stops g.M.Machine.held g.M.Machine.does g.M.Machine.stops g.met.M.Machine.lawful _ _ _ _ (process c.args.man.now.procs c.args.pid.0) _ _ (λ es. refl) (returns-clause-ends g c k)

pub returns-then-state-eq0-clause-ends : goal.returns-then-state-eq0-clause-ends
returns-then-state-eq0-clause-ends g c k = each_process c.args.man.now c.args.pid.0 _ (λ p own there.
    let held = g.M.Machine.held c.args.machine.now in
    let K = kernel_of c.args.man.now held k in
    let source = (bytes_in_pipe (slot c.args.man.now.pipes c.args.pipe)) in
    let none : length source ≡ 0 = search rules in
    let row = none_in_pipe p K c.args.pipe c.args.pieces.now c.args.n source none in
    record { effects = []; row_is = row ∙ ap (λ b. cond b (Waits [] 0 0) (says 0)) (sym c.pipe_state-state.ensures.writers) ∙ sym c.at_empty_pipe.ensures.end; did = g.met.M.Machine.lawful.none _; managed = refl })
