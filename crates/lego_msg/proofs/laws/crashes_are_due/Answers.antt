use Rattle.lego_msg.proofs.Moments.{crashes-are-due}
use Rattle.lego_msg.proofs.laws.crashes_are_due.Goals as goal

pub returns : goal.returns
returns c = crashes-are-due
