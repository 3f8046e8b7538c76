use Rattle.healing_laws.proofs.Calling.{calls-drain-logs}
use Rattle.healing_laws.proofs.laws.calls_drain_logs.Goals as goal

pub returns : goal.returns
returns c = calls-drain-logs
