use Rattle.healing_laws.proofs.Dry.{drains-empty-there}
use Rattle.healing_laws.proofs.laws.a_drain_leaves_its_log_empty_through_crashes.Goals as goal

pub returns : goal.returns
returns c = drains-empty-there
