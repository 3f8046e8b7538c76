use Rattle.rest_laws.proofs.Lookup.{finds-put}
use Rattle.rest_laws.proofs.laws.entries_are_found_where_put.Goals as goal

pub returns : goal.returns
returns c = finds-put
