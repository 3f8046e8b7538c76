use Rattle.cluster.proofs.Dropping.{drains_more}
use Rattle.cluster.proofs.spaces.drops_of.Goals as goal

pub loop-number-preserved : goal.loop-number-preserved
loop-number-preserved c = drains_more c.args.pid c.args.memories c.loop-number.number _ _ _ c.loop-number-test.true c.loop-number.invariant c.in_ok-push.ensures.items
