use Rattle.std.proofs.Common.{length}
use Rattle.host_io.proofs.SinkLaws.{WroteSoFar}
use Rattle.host_io.proofs.sink.write_all.Given as goal

abbrev pub invariant-loop-rest : goal.invariant-loop-rest
invariant-loop-rest g l =
    WroteSoFar (g.K.Sink.state l.fn.sink) (g.K.Sink.state l.sink) l.bytes l.rest

abbrev pub decreases-loop-rest : goal.decreases-loop-rest
decreases-loop-rest g l = length l.rest
