use Rattle.rest_laws.proofs.Emptied.{empty-logs-stay}
use Rattle.rest_laws.proofs.laws.empty_logs_stay_empty.Goals as goal

pub returns : goal.returns
returns c = empty-logs-stay
