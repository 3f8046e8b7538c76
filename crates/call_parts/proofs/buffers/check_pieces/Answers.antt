use Rattle.std.proofs.Common.{rules, ◌≡◌, ◌+◌, subst, List, true, drop, get_or}
use Rattle.std.proofs.lemmas.List.{at_drop_more}
use Rattle.lego_base.specs.Space.{permits}
use Rattle.kernel_objects.specs.declared.piece.Piece.{Piece}
use Rattle.call_parts.specs.Pieces.{Within}
use Rattle.call_parts.proofs.Checking.{Checking, goes_on, stopped}
use Rattle.call_parts.proofs.buffers.check_pieces.Goals as goal

pub returns-in_err-check_span-clause-stops : goal.returns-in_err-check_span-clause-stops
returns-in_err-check_span-clause-stops g c =
    let pieces = c.args.pieces.now in
    let i = c.loop-piece.piece-index in
    let none : Piece = record { at = 0; size = 0 } in
    let checking = subst (λ (l : List Piece). Checking g.M.Machine.held g.M.Machine.does c.args.machine.now c.loop-piece.machine c.args.pid.0 c.args.need pieces l) (at_drop_more (λ l. l) pieces i none c.loop-piece-test.true) c.loop-piece.invariant in
    stopped g.M.Machine.held g.M.Machine.does g.M.Machine.stops g.met.M.Machine.lawful c.args.pid.0 c.args.need pieces _ _ _ (get_or pieces i none) (drop (i + 1) pieces) checking c.check_span.ensures.stops

pub loop-piece-preserved : goal.loop-piece-preserved
loop-piece-preserved g c =
    let pieces = c.args.pieces.now in
    let i = c.loop-piece.piece-index in
    let none : Piece = record { at = 0; size = 0 } in
    let x = get_or pieces i none in
    let checking = subst (λ (l : List Piece). Checking g.M.Machine.held g.M.Machine.does c.args.machine.now c.loop-piece.machine c.args.pid.0 c.args.need pieces l) (at_drop_more (λ l. l) pieces i none c.loop-piece-test.true) c.loop-piece.invariant in
    let good : permits ((g.M.Machine.held c.loop-piece.machine).space c.args.pid.0) c.args.need x.at x.size ≡ true = search rules in
    let within : Within x = search rules in
    goes_on g.M.Machine.held g.M.Machine.does g.M.Machine.stops g.met.M.Machine.lawful c.args.pid.0 c.args.need pieces _ _ _ x (drop (i + 1) pieces) checking good within c.in_ok-check_span.ensures.does
