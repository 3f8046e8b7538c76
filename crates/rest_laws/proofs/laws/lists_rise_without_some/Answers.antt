use Rattle.rest_laws.proofs.Lookup.{without-rises}
use Rattle.rest_laws.proofs.laws.lists_rise_without_some.Goals as goal

pub returns : goal.returns
returns c = without-rises
