use Rattle.host_io.proofs.SinkLaws.{wrote_nothing, wrote_more}
use Rattle.host_io.proofs.sink.write_all.Goals as goal

pub loop-rest-init : goal.loop-rest-init
loop-rest-init g c = wrote_nothing _ _

pub loop-rest-preserved : goal.loop-rest-preserved
loop-rest-preserved g c =
    rw c.split_at.ensures.back (wrote_more _ _ _ _ _ c.in_ok-count.count c.loop-rest.invariant c.in_ok-count.ensures.cause.later c.in_ok-count.ensures.took.taken)
