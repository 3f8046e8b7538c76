use Rattle.std.proofs.Common.{rules, ◌≡◌, ◌≤◌, ap, List, [], length, drop, arith}
use Rattle.std.proofs.lemmas.List.{drop_all}
use Rattle.kernel_objects.specs.declared.piece.Piece.{Piece}
use Rattle.linux_model.specs.Buffers.{total}
use Rattle.sys_io.proofs.vectors.total_of.Goals as goal

pub returns : goal.returns
returns c =
    let all : length c.args.pieces.now ≤ c.loop-piece.piece-index = search rules in
    let none : drop c.loop-piece.piece-index c.args.pieces.now ≡ [] = drop_all c.loop-piece.piece-index c.args.pieces.now all in
    let fits = c.loop-piece.invariant.0 in
    let is = c.loop-piece.invariant.1 in
    let rest = ap (λ (l : List Piece). total l) none in
    omega (arith, fits, is, rest)
