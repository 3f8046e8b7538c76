use Rattle.std.proofs.Common.{◌≡◌, false, drop}
use Rattle.lego_msg.specs.Judged.{answered_along}
use Rattle.lego_watch.proofs.judge.has_answered.Given as goal

abbrev pub invariant-loop-event : goal.invariant-loop-event
invariant-loop-event l = answered_along l.op.0 l.write l.place l.answered (drop l.event-index l.events) ≡ answered_along l.op.0 l.write l.place false l.events
