use Rattle.rest_laws.proofs.Net.{takes-one}
use Rattle.rest_laws.proofs.laws.a_delivery_takes_one_out.Goals as goal

pub returns : goal.returns
returns c = takes-one
