use Rattle.healing_laws.proofs.Events.{every-list-keeps}
use Rattle.healing_laws.proofs.laws.every_list_keeps_the_relation_through_crashes.Goals as goal

pub returns : goal.returns
returns c = every-list-keeps
