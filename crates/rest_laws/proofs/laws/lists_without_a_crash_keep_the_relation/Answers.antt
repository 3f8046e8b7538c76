use Rattle.rest_laws.proofs.Goes.{lists-keep}
use Rattle.rest_laws.proofs.laws.lists_without_a_crash_keep_the_relation.Goals as goal

pub returns : goal.returns
returns c = lists-keep
