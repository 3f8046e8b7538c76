use Rattle.lego_waits.proofs.InPlace.{start-in-place}
use Rattle.lego_waits.proofs.laws.memories_begin_in_place.Goals as goal

pub returns : goal.returns
returns c = start-in-place
