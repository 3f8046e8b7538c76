use Rattle.lego_waits.proofs.Waits.{crashes-lower}
use Rattle.lego_waits.proofs.laws.crashes_lower_the_load.Goals as goal

pub returns : goal.returns
returns c = crashes-lower
