use Rattle.healing_laws.proofs.Events.{every-event-keeps}
use Rattle.healing_laws.proofs.laws.every_event_keeps_the_relation_through_crashes.Goals as goal

pub returns : goal.returns
returns c = every-event-keeps
