use Rattle.healing_laws.proofs.Playing.{something-is-pending}
use Rattle.healing_laws.proofs.laws.something_comes_through_crashes.Goals as goal

pub returns : goal.returns
returns c = something-is-pending
