use Rattle.std.proofs.Common.{◌≡◌, ◌+◌, ◌-◌, ◌<◌, ◌++◌, ◌∙◌, ap, arith, length, max, replicate, sym, take}
use Rattle.std.proofs.lemmas.Bool.{eqb-false}
use Rattle.std.proofs.lemmas.List.{append-nil, drop_all, take_all}
use Rattle.lego_base.specs.Pieces.{laid_over, of_size, written_at}
use Rattle.file_table.proofs.Pieces.{written}
use Rattle.file_table.proofs.bytes.write_at.Goals as goal

pub returns-clause-ok : goal.returns-clause-ok
returns-clause-ok c =
    let old = c.args.bytes.now in
    let piece = c.args.piece.now in
    let size : c.max-size.result ≡ max (length old.items) (c.args.off + length piece) = c.max-size.ensures ∙ ap (λ n. max n (c.args.off + length piece)) (c.len.ensures ∙ old.ok.0) in
    let filled : c.resize.new.self.items ≡ of_size (max (length old.items) (c.args.off + length piece)) old.items =
    c.in_ok-resize.ensures.items ∙ ap (λ n. take c.max-size.result old.items ++ replicate (c.max-size.result - n) 0) old.ok.0 ∙ ap (λ n. of_size n old.items) size in
    let ne : length piece ≡ 0 → ⊥ = eqb-false (length piece) 0 (sym c.if-is_empty.ensures) in
    let some : 0 < length piece = omega arith in
    let whole : c.put.new.bytes ≡ written_at old.items c.args.off piece = c.put.ensures ∙ ap (λ b. laid_over b c.args.off piece) (c.deref_mut.ensures.value ∙ filled) ∙ written old.items c.args.off piece some in
    let long : length c.put.new.bytes ≡ c.resize.new.self.len = c.put.auto.bytes ∙ ap length c.deref_mut.ensures.value ∙ sym c.resize.new.self.ok.0 in
    ap (λ t. take c.resize.new.self.len (c.put.new.bytes ++ t)) (drop_all (length c.put.new.bytes) c.resize.new.self.items (omega (arith, c.resize.new.self.ok.0)))
    ∙ ap (take c.resize.new.self.len) (append-nil c.put.new.bytes) ∙ take_all c.resize.new.self.len c.put.new.bytes (omega arith) ∙ whole
