use Rattle.std.proofs.Common.{◌≡◌}
use Rattle.cache_tags.specs.Tags.{empty_sets}
use Rattle.cache_tags.proofs.tags.empty.Given as goal

abbrev pub invariant-loop-number : goal.invariant-loop-number
invariant-loop-number l = l.all.items ≡ empty_sets l.number l.ways 0
