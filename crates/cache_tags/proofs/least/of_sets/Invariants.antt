use Rattle.std.proofs.Common.{◌≡◌, drop}
use Rattle.cache_tags.specs.Tags.{least_of, lower}
use Rattle.cache_tags.proofs.least.of_sets.Given as goal

abbrev pub invariant-loop-set : goal.invariant-loop-set
invariant-loop-set l = lower l.least (least_of l.pid l.from l.to (drop l.set-index l.sets)) ≡ least_of l.pid l.from l.to l.sets
