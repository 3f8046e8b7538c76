use Rattle.rest_laws.proofs.Leads.{leads-back}
use Rattle.rest_laws.proofs.laws.an_operation_leads_back_to_rest.Goals as goal

pub returns : goal.returns
returns c = leads-back
