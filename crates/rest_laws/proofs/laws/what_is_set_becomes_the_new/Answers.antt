use Rattle.rest_laws.proofs.Moving.{sets-move}
use Rattle.rest_laws.proofs.laws.what_is_set_becomes_the_new.Goals as goal

pub returns : goal.returns
returns c = sets-move
