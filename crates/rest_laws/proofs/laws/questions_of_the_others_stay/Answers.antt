use Rattle.rest_laws.proofs.Net.{any-taken}
use Rattle.rest_laws.proofs.laws.questions_of_the_others_stay.Goals as goal

pub returns : goal.returns
returns c = any-taken
