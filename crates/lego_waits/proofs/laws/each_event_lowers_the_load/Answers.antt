use Rattle.lego_waits.proofs.Waits.{each-event-lowers}
use Rattle.lego_waits.proofs.laws.each_event_lowers_the_load.Goals as goal

pub returns : goal.returns
returns c = each-event-lowers
