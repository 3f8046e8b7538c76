use Rattle.std.proofs.Common.{◌≡◌, ◌++◌, drop, map}
use Rattle.desc_read.specs.Plans.{memory}
use Rattle.guest_gen.proofs.guest.memories.Given as goal

abbrev pub invariant-loop-place : goal.invariant-loop-place
invariant-loop-place l = l.memories.items ++ map memory (drop l.place-index l.places) ≡ map memory l.places
