use Rattle.std.proofs.Common.{◌++◌, [], ◌∷◌, ◌∙◌, ap}
use Rattle.lego_msg.specs.declared.message.Message.{Message}
use Rattle.cluster_ops.proofs.Everyone.{sent_more}
use Rattle.cluster_ops.proofs.issuer.Issuer.drop_everywhere.Goals as goal

pub loop-number-preserved : goal.loop-number-preserved
loop-number-preserved c =
    sent_more c.args.self.by c.args.self.number _ _ c.args.self.memories c.loop-number.number c.loop-number.messages _ _ c.loop-number-test.true c.loop-number.invariant
    (c.in_ok-push.ensures.ok ∙ ap (λ (m : Message). c.loop-number.messages ++ m ∷ []) c.message.ensures)
