use Rattle.rest_laws.proofs.Lookup.{finds-without}
use Rattle.rest_laws.proofs.laws.entries_that_go_are_not_found.Goals as goal

pub returns : goal.returns
returns c = finds-without
