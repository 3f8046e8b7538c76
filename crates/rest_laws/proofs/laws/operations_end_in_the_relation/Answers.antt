use Rattle.rest_laws.proofs.Ended.{operation-ends}
use Rattle.rest_laws.proofs.laws.operations_end_in_the_relation.Goals as goal

pub returns : goal.returns
returns c = operation-ends
