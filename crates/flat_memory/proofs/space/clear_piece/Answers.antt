use Rattle.std.proofs.Common.{◌≡◌, ℕ, ◌+◌, ◌-◌, ◌≤◌, length, refl, rules, arith}
use Rattle.std.proofs.lemmas.List.{length-replicate}
use Rattle.lego_base.specs.Pieces.{zeros}
use Rattle.flat_memory.proofs.Stores.{written-slice}
use Rattle.flat_memory.proofs.space.clear_piece.Goals as goal

pub returns : goal.returns
returns c =
    let n : length (zeros 4096) ≡ 4096 = length-replicate {A = ℕ} 4096 0 in
    let part : c.copy_from_slice.new.self ≡ zeros 4096 = search rules in
    let ends : c.args.start + length (zeros 4096) ≤ length c.args.bytes.now = omega (arith, c.requires, n) in
    written-slice c.args.bytes.now c.args.bytes.now c.args.start c.args.start (c.args.start + 4096 - c.args.start) (zeros 4096) c.copy_from_slice.new.self refl part (omega arith) refl ends
