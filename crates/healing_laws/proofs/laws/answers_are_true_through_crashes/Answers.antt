use Rattle.healing_laws.proofs.Answering.{answers-are-true-there}
use Rattle.healing_laws.proofs.laws.answers_are_true_through_crashes.Goals as goal

pub returns : goal.returns
returns c = answers-are-true-there
