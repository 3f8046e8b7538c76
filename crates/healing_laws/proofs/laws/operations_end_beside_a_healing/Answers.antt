use Rattle.healing_laws.proofs.EndsBeside.{operation-ends-beside}
use Rattle.healing_laws.proofs.laws.operations_end_beside_a_healing.Goals as goal

pub returns : goal.returns
returns c = operation-ends-beside
