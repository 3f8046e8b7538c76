use Rattle.healing_laws.proofs.LeadsBack.{leads-back}
use Rattle.healing_laws.proofs.laws.operations_lead_back_through_crashes.Goals as goal

pub returns : goal.returns
returns c = leads-back
