use Rattle.healing_laws.proofs.Causing.{plain-maps-fit}
use Rattle.healing_laws.proofs.laws.plain_maps_fit_their_memories.Goals as goal

pub returns : goal.returns
returns c = plain-maps-fit
