use Rattle.space_rules.proofs.Strings.{stack_within}
use Rattle.space_rules.proofs.laws.stack_is_within.Goals as goal

pub returns : goal.returns
returns c = stack_within
