use Rattle.std.proofs.Common.{◌≡◌, map, take}
use Rattle.desc_read.specs.Plans.{memory}
use Rattle.desc_read.proofs.machine_fields.memories_of.Given as goal

abbrev pub invariant-loop-n : goal.invariant-loop-n
invariant-loop-n l = l.memories.items ≡ map memory (take l.n-index l.numbers)
