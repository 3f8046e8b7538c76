use Rattle.std.proofs.Common.{◌≡◌, ◌∙◌, ap, rules, slice_index, replicate}
use Rattle.manager.proofs.Numbers.{all_zero}
use Rattle.manager.proofs.counts.Counts.new.Goals as goal

pub returns : goal.returns
returns c = λ n.
    let items : c.in_ok-counts.counts.items ≡ replicate 1024 0 = c.in_ok-counts.ensures.items_if_clones_equal (λ y h. search rules) in
    ap (λ xs. slice_index xs n) items ∙ all_zero 1024 n
