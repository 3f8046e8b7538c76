use Rattle.rest_laws.proofs.Noted.{answer-is-noted}
use Rattle.rest_laws.proofs.laws.answers_are_noted_in_the_relation.Goals as goal

pub returns : goal.returns
returns c = answer-is-noted
