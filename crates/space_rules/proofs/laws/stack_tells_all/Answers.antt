use Rattle.space_rules.proofs.Telling.{stack_tells}
use Rattle.space_rules.proofs.laws.stack_tells_all.Goals as goal

pub returns : goal.returns
returns c = stack_tells
