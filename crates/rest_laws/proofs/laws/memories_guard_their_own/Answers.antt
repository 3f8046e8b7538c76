use Rattle.rest_laws.proofs.Around.{guards-its-own}
use Rattle.rest_laws.proofs.laws.memories_guard_their_own.Goals as goal

pub returns : goal.returns
returns c = guards-its-own
