use Rattle.rest_laws.proofs.Goes.{lists-end-at-rest}
use Rattle.rest_laws.proofs.laws.lists_end_at_rest.Goals as goal

pub returns : goal.returns
returns c = lists-end-at-rest
