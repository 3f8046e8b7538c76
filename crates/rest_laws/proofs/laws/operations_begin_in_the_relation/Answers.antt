use Rattle.rest_laws.proofs.Begun.{operation-begins}
use Rattle.rest_laws.proofs.laws.operations_begin_in_the_relation.Goals as goal

pub returns : goal.returns
returns c = operation-begins
