use Rattle.rest_laws.proofs.Net.{background-taken}
use Rattle.rest_laws.proofs.laws.batches_stay_until_they_are_delivered.Goals as goal

pub returns : goal.returns
returns c = background-taken
