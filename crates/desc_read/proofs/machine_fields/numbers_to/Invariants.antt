use Rattle.std.proofs.Common.{◌≡◌}
use Rattle.desc_read.specs.Plans.{numbers_below}
use Rattle.desc_read.proofs.machine_fields.numbers_to.Given as goal

abbrev pub invariant-loop-k : goal.invariant-loop-k
invariant-loop-k l = l.numbers.items ≡ numbers_below l.k
