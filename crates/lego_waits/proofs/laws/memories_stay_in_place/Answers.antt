use Rattle.lego_waits.proofs.InPlace.{places-stay}
use Rattle.lego_waits.proofs.laws.memories_stay_in_place.Goals as goal

pub returns : goal.returns
returns c = places-stay
