use Rattle.rest_laws.proofs.Lookup.{areas-with}
use Rattle.rest_laws.proofs.laws.areas_are_those_set.Goals as goal

pub returns : goal.returns
returns c = areas-with
