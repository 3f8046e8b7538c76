use Rattle.rest_laws.proofs.Stepping.{row-keeps}
use Rattle.rest_laws.proofs.laws.rows_of_memories_keep_the_relation.Goals as goal

pub returns : goal.returns
returns c = row-keeps
