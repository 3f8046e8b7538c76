use Rattle.area_list.proofs.Unique.{unique}
use Rattle.area_list.proofs.laws.canonical_runs_are_unique.Goals as goal

pub returns : goal.returns
returns c = unique
