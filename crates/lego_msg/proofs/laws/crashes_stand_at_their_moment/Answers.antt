use Rattle.lego_msg.proofs.Moments.{crashes-stand}
use Rattle.lego_msg.proofs.laws.crashes_stand_at_their_moment.Goals as goal

pub returns : goal.returns
returns c = crashes-stand
