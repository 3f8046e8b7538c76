use Rattle.std.proofs.Common.{◌≡◌, ◌-◌, vec_len}
use Rattle.flat_memory.specs.Spaces.{spaces_of}
use Rattle.flat_memory.proofs.memory.FlatMemory.grow.Given as goal

abbrev pub invariant-loop-self : goal.invariant-loop-self
invariant-loop-self l = spaces_of l.self ≡ spaces_of l.fn.self

abbrev pub decreases-loop-self : goal.decreases-loop-self
decreases-loop-self l = l.count - vec_len l.self.spaces
