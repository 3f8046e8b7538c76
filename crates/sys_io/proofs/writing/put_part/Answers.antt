use Rattle.std.proofs.Common.{rules, ◌≡◌, ℕ, refl, ◌∙◌, ap, subst, List, [], ◌∷◌, ◌++◌, length, take, arith}
use Rattle.std.proofs.lemmas.List.{take_all}
use Rattle.kernel_objects.specs.declared.piece.Piece.{Piece}
use Rattle.linux_model.specs.Buffers.{are_good, part, bytes_in, copies_in}
use Rattle.linux_model.specs.Effects.{PutsPipe}
use Rattle.linux_model.specs.Managed.{managed_after}
use Rattle.call_machine.proofs.Rows.{stops_end}
use Rattle.call_machine.proofs.Stops.{stops_follow}
use Rattle.call_parts.proofs.Parts.{part_good, within_fits}
use Rattle.sys_io.proofs.Sending.{length_in, part_size}
use Rattle.sys_io.proofs.writing.put_part.Goals as goal

pub part-requires : goal.part-requires
part-requires g c =
    record { within = within_fits c.args.skip c.args.pieces.now c.requires.within }

pub returns-in_err-parts-clause-stops : goal.returns-in_err-parts-clause-stops
returns-in_err-parts-clause-stops g c =
    let laws = g.met.M.Machine.lawful in
    let man = c.args.man.now in
    let held = g.M.Machine.held c.args.machine.now in
    let pid = c.args.pid.0 in
    let pipe = c.args.pipe in
    let parts = part c.args.skip c.args.count c.args.pieces.now in
    let copies = copies_in pid (held.space pid) parts in
    let bytes = bytes_in (held.space pid) parts in
    let puts = PutsPipe pipe bytes ∷ [] in
    stops_end g.M.Machine.held g.M.Machine.does g.M.Machine.stops g.met.M.Machine.lawful _ _ [] (copies ++ puts) (laws.none _)

pub read_pieces-requires : goal.read_pieces-requires
read_pieces-requires g c =
    let laws = g.met.M.Machine.lawful in
    let man = c.args.man.now in
    let held = g.M.Machine.held c.args.machine.now in
    let pid = c.args.pid.0 in
    let pipe = c.args.pipe in
    let parts = part c.args.skip c.args.count c.args.pieces.now in
    let copies = copies_in pid (held.space pid) parts in
    let bytes = bytes_in (held.space pid) parts in
    let puts = PutsPipe pipe bytes ∷ [] in
    let parts_are : c.as_slice.result.now ≡ parts = search rules in
    record { good = ap (λ (l : List Piece). are_good (held.space pid) 1 l) parts_are ∙ part_good (held.space pid) 1 c.args.skip c.args.count c.args.pieces.now c.requires.good }

pub returns-in_err-bytes-clause-stops : goal.returns-in_err-bytes-clause-stops
returns-in_err-bytes-clause-stops g c =
    let laws = g.met.M.Machine.lawful in
    let man = c.args.man.now in
    let held = g.M.Machine.held c.args.machine.now in
    let pid = c.args.pid.0 in
    let pipe = c.args.pipe in
    let parts = part c.args.skip c.args.count c.args.pieces.now in
    let copies = copies_in pid (held.space pid) parts in
    let bytes = bytes_in (held.space pid) parts in
    let puts = PutsPipe pipe bytes ∷ [] in
    let parts_are : c.as_slice.result.now ≡ parts = search rules in
    laws.stops_front _ _ copies puts (subst (λ (l : List Piece). g.M.Machine.stops c.args.machine.now c.read_pieces.new.machine (copies_in pid (held.space pid) l)) parts_are c.read_pieces.ensures.stops)

pub returns-clause-does : goal.returns-clause-does
returns-clause-does g c =
    let laws = g.met.M.Machine.lawful in
    let man = c.args.man.now in
    let held = g.M.Machine.held c.args.machine.now in
    let pid = c.args.pid.0 in
    let pipe = c.args.pipe in
    let parts = part c.args.skip c.args.count c.args.pieces.now in
    let copies = copies_in pid (held.space pid) parts in
    let bytes = bytes_in (held.space pid) parts in
    let puts = PutsPipe pipe bytes ∷ [] in
    let parts_are : c.as_slice.result.now ≡ parts = search rules in
    let read = subst (λ (l : List Piece). g.M.Machine.does c.args.machine.now c.read_pieces.new.machine (copies_in pid (held.space pid) l)) parts_are c.in_ok-bytes.ensures.does in
    let did = laws.both _ _ _ copies puts read (laws.apart _ _ refl) in
    did

pub returns-clause-put : goal.returns-clause-put
returns-clause-put g c =
    let laws = g.met.M.Machine.lawful in
    let man = c.args.man.now in
    let held = g.M.Machine.held c.args.machine.now in
    let pid = c.args.pid.0 in
    let pipe = c.args.pipe in
    let parts = part c.args.skip c.args.count c.args.pieces.now in
    let copies = copies_in pid (held.space pid) parts in
    let bytes = bytes_in (held.space pid) parts in
    let puts = PutsPipe pipe bytes ∷ [] in
    let parts_are : c.as_slice.result.now ≡ parts = search rules in
    let bytes1 : c.as_slice-2.result.now ≡ bytes_in (held.space pid) c.as_slice.result.now = search rules in
    let bytes_are = bytes1 ∙ ap (λ (l : List Piece). bytes_in (held.space pid) l) parts_are in
    let size = ap (λ (l : List ℕ). length l) bytes_are ∙ length_in (held.space pid) parts in
    let few = part_size c.args.skip c.args.count c.args.pieces.now in
    let room = c.requires.room in
    let put = c.pipe_put.ensures.count in
    let count : c.pipe_put.result ≡ length c.as_slice-2.result.now = omega (arith, size, few, room, put) in
    let all : take c.pipe_put.result c.as_slice-2.result.now ≡ bytes = ap (λ m. take m c.as_slice-2.result.now) count ∙ take_all (length c.as_slice-2.result.now) c.as_slice-2.result.now (omega arith) ∙ bytes_are in
    c.pipe_put.ensures.put ∙ ap (λ (l : List ℕ). managed_after (PutsPipe pipe l) man) all

pub returns-clause-stops : goal.returns-clause-stops
returns-clause-stops g c = (stops_follow g.M.Machine.held g.M.Machine.does g.M.Machine.stops g.met.M.Machine.lawful).did _ _ _ (returns-clause-does g c)
