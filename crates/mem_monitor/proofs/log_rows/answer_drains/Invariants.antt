use Rattle.std.proofs.Common.{◌≡◌, ◌++◌, drop}
use Rattle.std.specs.Prelude.{map}
use Rattle.lego_msg.specs.Table.{drained}
use Rattle.mem_monitor.specs.Rows.{waiters}
use Rattle.mem_monitor.proofs.log_rows.answer_drains.Given as goal

abbrev pub invariant-loop-asker : goal.invariant-loop-asker
invariant-loop-asker l =
    l.out ++ map (drained l.id.0) (waiters (drop l.asker-index l.drains)) ≡ l.initial.out ++ map (drained l.id.0) (waiters l.initial.drains)
