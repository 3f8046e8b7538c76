use Rattle.std.proofs.Common.{◌≡◌, ℕ, refl, replicate, get_or, ap, ◌∙◌, rules}
use Rattle.std.proofs.lemmas.List.{get_or-replicate}
use Rattle.flat_memory.specs.Pieces.{start_in}
use Rattle.flat_memory.proofs.Zeros.{all_zero}
use Rattle.flat_memory.proofs.Pieces.{fresh-pieces, fresh-byte}
use Rattle.flat_memory.proofs.FastPath.{none-fast}
use Rattle.flat_memory.proofs.space.FlatSpace.new.Goals as goal

pub invariant_of-result : goal.invariant_of-result
invariant_of-result c =
    let bytes : c.in_ok-bytes.bytes.items ≡ replicate 4096 0 = c.in_ok-bytes.ensures.items_if_clones_equal (λ y h. search rules) in
    let slots : c.in_ok-slots.slots.items ≡ replicate 1024 _ = c.in_ok-slots.ensures.items_if_clones_equal (λ y h. search rules) in
    let none : (page : ℕ) → start_in c.new.result page ≡ 0 = λ page. search rules in
    record {
      pieces = fresh-pieces (start_in c.new.result) c.in_ok-bytes.bytes.items none (search rules) (all_zero c.in_ok-bytes.bytes.items 4096 bytes);
      fast = none-fast c.args.areas (start_in c.new.result) c.in_ok-slots.slots.items _ refl refl refl (search rules) (λ i d h. ap (λ xs. get_or xs i d) slots ∙ get_or-replicate 1024 i _ d h);
    }

pub returns : goal.returns
returns c =
    let bytes : c.in_ok-bytes.bytes.items ≡ replicate 4096 0 = c.in_ok-bytes.ensures.items_if_clones_equal (λ y h. search rules) in
    ap (λ (f : ℕ → ℕ). record { areas = c.args.areas; byte = f }) (fresh-byte (start_in c.new.result) c.in_ok-bytes.bytes.items (all_zero c.in_ok-bytes.bytes.items 4096 bytes))
