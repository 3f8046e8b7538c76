use Rattle.std.proofs.Common.{rules, ◌≡◌, ℕ, ◌+◌, sym, subst, List, ◌++◌, Some, drop, get_or}
use Rattle.std.proofs.lemmas.List.{at_drop_more}
use Rattle.kernel_objects.specs.declared.piece.Piece.{Piece}
use Rattle.call_machine.specs.Effects.{copied}
use Rattle.call_parts.proofs.Reading.{Reading, goes_on, stopped, stopped_after}
use Rattle.call_parts.proofs.buffers.read_pieces.Goals as goal

pub returns-in_err-bytes-clause-stops : goal.returns-in_err-bytes-clause-stops
returns-in_err-bytes-clause-stops g c =
    let pieces = c.args.pieces.now in
    let i = c.loop-piece.piece-index in
    let none : Piece = record { at = 0; size = 0 } in
    let x = get_or pieces i none in
    let reading = subst (λ (l : List Piece). Reading g.M.Machine.held g.M.Machine.does c.args.machine.now c.loop-piece.machine c.args.pid.0 pieces l c.loop-piece.joined.items) (at_drop_more (λ l. l) pieces i none c.loop-piece-test.true) c.loop-piece.invariant in
    stopped g.M.Machine.held g.M.Machine.does g.M.Machine.stops g.met.M.Machine.lawful c.args.pid.0 pieces _ _ _ x (drop (i + 1) pieces) c.loop-piece.joined.items reading c.copy_in.ensures.stops

pub returns-in_err-extend_from_slice-clause-stops : goal.returns-in_err-extend_from_slice-clause-stops
returns-in_err-extend_from_slice-clause-stops g c =
    let pieces = c.args.pieces.now in
    let i = c.loop-piece.piece-index in
    let none : Piece = record { at = 0; size = 0 } in
    let x = get_or pieces i none in
    let reading = subst (λ (l : List Piece). Reading g.M.Machine.held g.M.Machine.does c.args.machine.now c.loop-piece.machine c.args.pid.0 pieces l c.loop-piece.joined.items) (at_drop_more (λ l. l) pieces i none c.loop-piece-test.true) c.loop-piece.invariant in
    stopped_after g.M.Machine.held g.M.Machine.does g.M.Machine.stops g.met.M.Machine.lawful c.args.pid.0 pieces _ _ _ x (drop (i + 1) pieces) c.loop-piece.joined.items reading c.in_ok-bytes.ensures.does

pub loop-piece-preserved : goal.loop-piece-preserved
loop-piece-preserved g c =
    let pieces = c.args.pieces.now in
    let i = c.loop-piece.piece-index in
    let none : Piece = record { at = 0; size = 0 } in
    let x = get_or pieces i none in
    let reading = subst (λ (l : List Piece). Reading g.M.Machine.held g.M.Machine.does c.args.machine.now c.loop-piece.machine c.args.pid.0 pieces l c.loop-piece.joined.items) (at_drop_more (λ l. l) pieces i none c.loop-piece-test.true) c.loop-piece.invariant in
    let joined : c.extend_from_slice.new.self.items ≡ c.loop-piece.joined.items ++ c.in-Some.bytes = search rules in
    let answer : Some c.in-Some.bytes ≡ copied ((g.M.Machine.held c.loop-piece.machine).space c.args.pid.0) x.at x.size = search rules in
    let on = goes_on g.M.Machine.held g.M.Machine.does g.M.Machine.stops g.met.M.Machine.lawful c.args.pid.0 pieces _ _ _ x (drop (i + 1) pieces) c.loop-piece.joined.items c.in-Some.bytes reading c.in_ok-bytes.ensures.does answer in
    subst (λ (l : List ℕ). Reading g.M.Machine.held g.M.Machine.does c.args.machine.now c.copy_in.new.self c.args.pid.0 pieces (drop (i + 1) pieces) l) (sym joined) on
