use Rattle.std.proofs.Common.{◌≡◌, ◌%◌, ◌<◌, ◌∙◌, List, ap, arith, length, rules, sym, ℕ}
use Rattle.cache_tags.specs.Sets.{SetLines}
use Rattle.cache_tags.proofs.Made.{length-empty_sets, masked}
use Rattle.cache_tags.proofs.tags.Tags.new.Goals as goal

pub invariant_of-result : goal.invariant_of-result
invariant_of-result c =
    let n : length c.in_ok-sets.sets.items ≡ c.args.sets = ap (λ (ss : List SetLines). length ss) c.in_ok-sets.ensures ∙ length-empty_sets c.args.sets c.args.ways 0 in
    let some : 0 < c.args.sets = search rules in
    (omega (arith, n, some), λ line. masked c.args.sets c.requires.power line ∙ ap (λ (k : ℕ). line % k) (sym n))
