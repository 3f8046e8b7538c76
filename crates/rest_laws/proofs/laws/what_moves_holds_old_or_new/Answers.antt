use Rattle.rest_laws.proofs.Moving.{holds-move}
use Rattle.rest_laws.proofs.laws.what_moves_holds_old_or_new.Goals as goal

pub returns : goal.returns
returns c = holds-move
