use Rattle.space_rules.proofs.Few.{image_few}
use Rattle.space_rules.proofs.laws.image_has_few_runs.Goals as goal

pub returns : goal.returns
returns c = image_few
