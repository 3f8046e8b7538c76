use Rattle.healing_laws.proofs.Events.{every-list-ends-at-rest}
use Rattle.healing_laws.proofs.laws.every_list_ends_at_rest.Goals as goal

pub returns : goal.returns
returns c = every-list-ends-at-rest
