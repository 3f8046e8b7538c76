use Rattle.rest_laws.proofs.Emptied.{logs-grow-by-writes}
use Rattle.rest_laws.proofs.laws.logs_grow_by_writes.Goals as goal

pub returns : goal.returns
returns c = logs-grow-by-writes
