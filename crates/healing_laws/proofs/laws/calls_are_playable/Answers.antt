use Rattle.healing_laws.proofs.Calling.{calls-are-playable}
use Rattle.healing_laws.proofs.laws.calls_are_playable.Goals as goal

pub returns : goal.returns
returns c = calls-are-playable
