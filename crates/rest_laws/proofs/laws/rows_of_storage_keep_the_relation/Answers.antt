use Rattle.rest_laws.proofs.Stepping.{storing-keeps}
use Rattle.rest_laws.proofs.laws.rows_of_storage_keep_the_relation.Goals as goal

pub returns : goal.returns
returns c = storing-keeps
