use Rattle.healing_laws.proofs.Refuses.{crashes-alone-refuse-nothing}
use Rattle.healing_laws.proofs.laws.crashes_alone_refuse_nothing.Goals as goal

pub returns : goal.returns
returns c = crashes-alone-refuse-nothing
