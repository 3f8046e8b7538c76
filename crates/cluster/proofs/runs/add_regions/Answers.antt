use Rattle.std.proofs.Common.{arith}
use Rattle.cluster.specs.Mapping.{end_met}
use Rattle.cluster.proofs.Newcomers.{numbers_more}
use Rattle.cluster.proofs.runs.add_regions.Goals as goal

pub loop-region-preserved : goal.loop-region-preserved
loop-region-preserved c =
    let low = c.loop-region.invariant.0 in
    let less = c.loop-region-test.true in
    (omega (arith, low), omega (arith, less), numbers_more (end_met c.args.run) c.loop-region.region c.loop-region.regions c.push.new.self _ less c.loop-region.invariant.2 c.in_ok-push.ensures.ok)
