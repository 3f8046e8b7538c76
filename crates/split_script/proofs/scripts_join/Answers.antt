use Rattle.split_script.proofs.Joins.{join}
use Rattle.split_script.proofs.scripts_join.Goals as goal

pub returns : goal.returns
returns c = join
