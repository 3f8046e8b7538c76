use Rattle.std.proofs.Common.{rules, ◌≡◌, ℕ, ◌+◌, ◌∙◌, ap, sym, subst, List, [], ◌∷◌, length, min, take, drop, get_or}
use Rattle.std.proofs.lemmas.List.{at_drop_more}
use Rattle.kernel_objects.specs.declared.piece.Piece.{Piece}
use Rattle.lego_base.specs.Space.{permits}
use Rattle.linux_model.specs.Effects.{CopyOut, Writes}
use Rattle.call_parts.proofs.Writing.{Writing, goes_on, next_good, stopped}
use Rattle.call_parts.proofs.buffers.write_pieces.Goals as goal

pub copy_out-requires : goal.copy_out-requires
copy_out-requires g c =
    let pieces = c.args.pieces.now in
    let i = c.loop-piece.piece-index in
    let none : Piece = record { at = 0; size = 0 } in
    let x = get_or pieces i none in
    let writing = subst (λ (l : List Piece). Writing g.M.Machine.held g.M.Machine.does c.args.machine.now c.loop-piece.machine c.args.pid.0 pieces c.args.bytes.now l c.loop-piece.rest.now) (at_drop_more (λ l. l) pieces i none c.loop-piece-test.true) c.loop-piece.invariant in
    let count = min (length c.loop-piece.rest.now) x.size in
    let first : c.split_at.result.0.now ≡ take count c.loop-piece.rest.now = search rules in
    let good = next_good g.M.Machine.held g.M.Machine.does g.M.Machine.stops g.met.M.Machine.lawful c.args.pid.0 pieces c.args.bytes.now _ _ x (drop (i + 1) pieces) c.loop-piece.rest.now writing in
    record { good = ap (λ (l : List ℕ). permits ((g.M.Machine.held c.loop-piece.machine).space c.args.pid.0) 2 x.at (length l)) first ∙ good }

pub returns-in_err-copy_out-clause-stops : goal.returns-in_err-copy_out-clause-stops
returns-in_err-copy_out-clause-stops g c =
    let pieces = c.args.pieces.now in
    let i = c.loop-piece.piece-index in
    let none : Piece = record { at = 0; size = 0 } in
    let x = get_or pieces i none in
    let writing = subst (λ (l : List Piece). Writing g.M.Machine.held g.M.Machine.does c.args.machine.now c.loop-piece.machine c.args.pid.0 pieces c.args.bytes.now l c.loop-piece.rest.now) (at_drop_more (λ l. l) pieces i none c.loop-piece-test.true) c.loop-piece.invariant in
    let count = min (length c.loop-piece.rest.now) x.size in
    let first : c.split_at.result.0.now ≡ take count c.loop-piece.rest.now = search rules in
    let stop = subst (λ (l : List ℕ). g.M.Machine.stops c.loop-piece.machine c.copy_out.new.self (Writes CopyOut c.args.pid.0 x.at l ∷ [])) first c.copy_out.ensures.stops in
    stopped g.M.Machine.held g.M.Machine.does g.M.Machine.stops g.met.M.Machine.lawful c.args.pid.0 pieces c.args.bytes.now _ _ _ x (drop (i + 1) pieces) c.loop-piece.rest.now writing stop

pub loop-piece-preserved : goal.loop-piece-preserved
loop-piece-preserved g c =
    let pieces = c.args.pieces.now in
    let i = c.loop-piece.piece-index in
    let none : Piece = record { at = 0; size = 0 } in
    let x = get_or pieces i none in
    let writing = subst (λ (l : List Piece). Writing g.M.Machine.held g.M.Machine.does c.args.machine.now c.loop-piece.machine c.args.pid.0 pieces c.args.bytes.now l c.loop-piece.rest.now) (at_drop_more (λ l. l) pieces i none c.loop-piece-test.true) c.loop-piece.invariant in
    let count = min (length c.loop-piece.rest.now) x.size in
    let first : c.split_at.result.0.now ≡ take count c.loop-piece.rest.now = search rules in
    let later : c.split_at.result.1.now ≡ drop count c.loop-piece.rest.now = search rules in
    let did = subst (λ (l : List ℕ). g.M.Machine.does c.loop-piece.machine c.copy_out.new.self (Writes CopyOut c.args.pid.0 x.at l ∷ [])) first c.in_ok-copy_out.ensures.does in
    let on = goes_on g.M.Machine.held g.M.Machine.does g.M.Machine.stops g.met.M.Machine.lawful c.args.pid.0 pieces c.args.bytes.now _ _ _ x (drop (i + 1) pieces) c.loop-piece.rest.now writing did in
    subst (λ (l : List ℕ). Writing g.M.Machine.held g.M.Machine.does c.args.machine.now c.copy_out.new.self c.args.pid.0 pieces c.args.bytes.now (drop (i + 1) pieces) l) (sym later) on
