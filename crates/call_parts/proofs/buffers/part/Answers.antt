use Rattle.std.proofs.Common.{rules, ◌≡◌, ◌+◌, ◌-◌, ◌≤◌, ◌++◌, [], ◌∷◌, min, subst, List, drop, get_or}
use Rattle.std.proofs.lemmas.List.{at_drop_more}
use Rattle.kernel_objects.specs.declared.piece.Piece.{Piece}
use Rattle.linux_model.specs.Buffers.{part}
use Rattle.call_parts.specs.Pieces.{Each, PastFits}
use Rattle.call_parts.proofs.Parts.{fits_fewer, part_on}
use Rattle.call_parts.proofs.buffers.part.Goals as goal

pub loop-piece-preserved : goal.loop-piece-preserved
loop-piece-preserved c =
    let pieces = c.args.pieces.now in
    let i = c.loop-piece.piece-index in
    let none : Piece = record { at = 0; size = 0 } in
    let x = get_or pieces i none in
    let skip = c.loop-piece.skip in
    let now =
    subst (λ (l : List Piece). (c.loop-piece.parts.items ++ part skip c.loop-piece.len l ≡ part c.args.skip c.args.len pieces) × Each (PastFits skip) l)
    (at_drop_more (λ l. l) pieces i none c.loop-piece-test.true) c.loop-piece.invariant in
    let past : c.min-past.result ≡ min skip x.size = search rules in
    let size : c.min-taken.result ≡ min c.loop-piece.len (x.size - c.min-past.result) = search rules in
    let items : c.push.new.self.items ≡ c.loop-piece.parts.items ++ record { at = x.at + c.min-past.result; size = c.min-taken.result } ∷ [] = search rules in
    let fewer : skip - c.min-past.result ≤ skip = search rules in
    (part_on _ _ skip c.loop-piece.len x (drop (i + 1) pieces) pieces _ _ _ _ past size items now.0, fits_fewer skip _ (drop (i + 1) pieces) fewer now.1.1)
