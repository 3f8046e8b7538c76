use Rattle.std.proofs.Common.{ap}
use Rattle.lego_msg.proofs.Clones.{same_body}
use Rattle.lego_msg.proofs.message.MessageClone.clone.Goals as goal

pub returns : goal.returns
returns c = record { cases = ap (λ body. record c.args.self.now { body = body }) (same_body _ _ c.in_ok-body.ensures.cases) }
