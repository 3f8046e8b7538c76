use Rattle.healing_laws.proofs.Emptying.{empty-logs-stay-there}
use Rattle.healing_laws.proofs.laws.empty_logs_stay_empty_through_crashes.Goals as goal

pub returns : goal.returns
returns c = empty-logs-stay-there
