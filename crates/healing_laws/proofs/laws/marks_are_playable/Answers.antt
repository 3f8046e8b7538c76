use Rattle.healing_laws.proofs.Calling.{marks-are-playable}
use Rattle.healing_laws.proofs.laws.marks_are_playable.Goals as goal

pub returns : goal.returns
returns c = marks-are-playable
