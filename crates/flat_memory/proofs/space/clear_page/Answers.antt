use Rattle.std.proofs.Common.{◌≡◌, arith}
use Rattle.flat_memory.specs.Pieces.{start_in}
use Rattle.flat_memory.proofs.Clearing.{shared-page, own-page}
use Rattle.flat_memory.proofs.space.clear_page.Goals as goal

pub returns-then-start-gt0-clause-cleared : goal.returns-then-start-gt0-clause-cleared
returns-then-start-gt0-clause-cleared c =
    let start = start_in c.args.starts.now in
    own-page start c.args.bytes.now c.clear_piece.new.bytes c.args.page c.start_of-start.result c.requires (omega (arith, c.if-start-gt0.true, c.start_of-start.ensures)) c.start_of-start.ensures c.clear_piece.ensures

pub returns-else-start-gt0-clause-cleared : goal.returns-else-start-gt0-clause-cleared
returns-else-start-gt0-clause-cleared c =
    let start = start_in c.args.starts.now in
    let none : start c.args.page ≡ 0 = omega (arith, c.if-start-gt0.false, c.start_of-start.ensures) in
    shared-page start c.args.bytes.now c.args.page c.requires none
