use Rattle.std.proofs.Common.{ap, ◌∙◌}
use Rattle.flat_memory.specs.Spaces.{space_at}
use Rattle.flat_memory.proofs.Spaces.{at-push}
use Rattle.flat_memory.proofs.memory.FlatMemory.grow.Goals as goal

pub loop-self-preserved : goal.loop-self-preserved
loop-self-preserved c = ap space_at c.in_ok-push.ensures.items ∙ at-push c.loop-self.self.spaces.items ∙ c.loop-self.invariant

pub returns-in_err-push-clause-spaces : goal.returns-in_err-push-clause-spaces
returns-in_err-push-clause-spaces c = ap space_at c.in_err-push.ensures.items ∙ c.loop-self.invariant
