use Rattle.lego_waits.proofs.Waits.{no-wait-is-for-ever}
use Rattle.lego_waits.proofs.laws.no_wait_is_for_ever.Goals as goal

pub returns : goal.returns
returns c = no-wait-is-for-ever
