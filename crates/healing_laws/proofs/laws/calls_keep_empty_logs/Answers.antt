use Rattle.healing_laws.proofs.Calling.{calls-keep-empty-logs}
use Rattle.healing_laws.proofs.laws.calls_keep_empty_logs.Goals as goal

pub returns : goal.returns
returns c = calls-keep-empty-logs
