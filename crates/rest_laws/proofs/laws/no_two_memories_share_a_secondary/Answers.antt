use Rattle.rest_laws.proofs.Around.{secondaries-differ}
use Rattle.rest_laws.proofs.laws.no_two_memories_share_a_secondary.Goals as goal

pub returns : goal.returns
returns c = secondaries-differ
