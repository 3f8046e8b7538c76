use Rattle.cluster_ops.proofs.Everyone.{placed_more}
use Rattle.cluster_ops.proofs.target_places.everyone.Goals as goal

pub loop-number-preserved : goal.loop-number-preserved
loop-number-preserved c each last = placed_more each last c.args.memories c.loop-number.number _ _ _ c.loop-number-test.true (c.loop-number.invariant each last) c.in_ok-push.ensures.ok
