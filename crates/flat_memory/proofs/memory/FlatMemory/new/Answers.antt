use Rattle.std.proofs.Common.{ap, ◌∙◌}
use Rattle.flat_memory.specs.Spaces.{space_at}
use Rattle.flat_memory.proofs.Spaces.{at-none}
use Rattle.flat_memory.proofs.memory.FlatMemory.new.Goals as goal

pub returns : goal.returns
returns c = ap space_at c.new.ensures.items ∙ at-none
