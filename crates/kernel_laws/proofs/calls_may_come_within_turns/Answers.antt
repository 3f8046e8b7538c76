use Rattle.kernel_laws.proofs.Within.{may_call}
use Rattle.kernel_laws.proofs.calls_may_come_within_turns.Goals as goal

pub returns : goal.returns
returns c = may_call
