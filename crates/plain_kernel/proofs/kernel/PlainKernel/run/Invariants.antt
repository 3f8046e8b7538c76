use Rattle.std.proofs.Common.{◌-◌}
use Rattle.linux_model.specs.State.{nothing}
use Rattle.plain_kernel.specs.Outcomes.{told, faults, Later}
use Rattle.plain_kernel.specs.Runs.{RanSoFar}
use Rattle.plain_kernel.specs.Standing.{kernel_in}
use Rattle.plain_kernel.specs.Turns.{schedule_of}
use Rattle.plain_kernel.specs.Written.{IsEmpty}
use Rattle.plain_kernel.proofs.kernel.PlainKernel.run.Given as goal

abbrev pub invariant-loop-pid : goal.invariant-loop-pid
invariant-loop-pid g l = record {
  later : Later (faults (g.O.Sink.state l.fn.out) (g.E.Sink.state l.fn.err)) (faults (g.O.Sink.state l.out) (g.E.Sink.state l.err));
  so : RanSoFar (schedule_of l.plan) (kernel_in l.fn.self nothing) (told (g.O.Sink.state l.fn.out) (g.E.Sink.state l.fn.err)) (told (g.O.Sink.state l.out) (g.E.Sink.state l.err)) l.self l.turns;
  empty : IsEmpty l.self.machine.output;
}

abbrev pub decreases-loop-pid : goal.decreases-loop-pid
decreases-loop-pid g l = l.plan.max_turns - l.turns
