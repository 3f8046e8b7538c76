use Rattle.std.proofs.Common.{◌≡◌, ℕ, suc, ◌+◌, refl, sym, ◌∙◌, subst, Result, Ok, Err, arith}
use Rattle.linux_model.specs.State.{Kernel, Written, nothing}
use Rattle.linux_model.specs.Turns.{Schedule, flat}
use Rattle.plain_kernel.specs.Outcomes.{Told, told, faults}
use Rattle.plain_kernel.specs.Runs.{StopsSo, Run}
use Rattle.plain_kernel.specs.Standing.{kernel_in}
use Rattle.plain_kernel.specs.Turns.{NextIs, schedule_of}
use Rattle.plain_kernel.specs.Written.{TurnWent}
use Rattle.plain_kernel.proofs.Rounds.{came_to_end, can_turn, failed, later_both, started, stops_so, turns_left, written}
use Rattle.plain_kernel.proofs.kernel.PlainKernel.run.Goals as goal

pub loop-pid-init : goal.loop-pid-init
loop-pid-init g c = record {
  later = record { out = omega arith; err = omega arith };
  so = started (schedule_of c.args.plan.now) (kernel_in c.args.self.now nothing) (told (g.O.Sink.state c.args.out.now) (g.E.Sink.state c.args.err.now)) c.args.self.now refl;
  empty = c.requires.empty;
}

pub turn_and_write-requires-clause-can : goal.turn_and_write-requires-clause-can
turn_and_write-requires-clause-can g c =
    let schedule : Schedule = schedule_of c.args.plan.now in
    let boot : Kernel = kernel_in c.args.self.now nothing in
    let next = subst (NextIs schedule c.loop-pid.turns (kernel_in c.loop-pid.self (flat schedule boot c.loop-pid.turns).written)) c.in-Turn.is (c.in_ok-pid.ensures (flat schedule boot c.loop-pid.turns).written) in
    can_turn schedule boot (told (g.O.Sink.state c.args.out.now) (g.E.Sink.state c.args.err.now)) (told (g.O.Sink.state c.loop-pid.out) (g.E.Sink.state c.loop-pid.err)) c.loop-pid.self c.loop-pid.turns c.loop-pid.invariant.so c.in-Turn.pid.0 next.0 next.1 c.requires.can.may

pub returns-in_err-turn_and_write-in-Turn-clause-run : goal.returns-in_err-turn_and_write-in-Turn-clause-run
returns-in_err-turn_and_write-in-Turn-clause-run g c =
    let schedule : Schedule = schedule_of c.args.plan.now in
    let boot : Kernel = kernel_in c.args.self.now nothing in
    let before : Told = told (g.O.Sink.state c.args.out.now) (g.E.Sink.state c.args.err.now) in
    let now : Told = told (g.O.Sink.state c.loop-pid.out) (g.E.Sink.state c.loop-pid.err) in
    let after : Told = told (g.O.Sink.state c.turn_and_write.new.out) (g.E.Sink.state c.turn_and_write.new.err) in
    let w : Written = (flat schedule boot c.loop-pid.turns).written in
    let next = subst (NextIs schedule c.loop-pid.turns (kernel_in c.loop-pid.self w)) c.in-Turn.is (c.in_ok-pid.ensures w) in
    let stopped : StopsSo schedule boot before after c.in_err-turn_and_write-in-Turn.field-0.0 =
    failed schedule boot before now after c.loop-pid.self c.turn_and_write.new.self c.loop-pid.turns c.in-Turn.pid.0 c.in_err-turn_and_write-in-Turn.field-0.0 c.loop-pid.invariant.so next.0 next.1 (c.in_err-turn_and_write-in-Turn.ensures.went w)
    in
    stops_so schedule boot before after c.turn_and_write.new.self c.from_residual-in_err-turn_and_write-in-Turn.result c.in_err-turn_and_write-in-Turn.field-0.0 c.from_residual-in_err-turn_and_write-in-Turn.ensures.1 stopped

pub returns-in-End-clause-run : goal.returns-in-End-clause-run
returns-in-End-clause-run g c =
    let schedule : Schedule = schedule_of c.args.plan.now in
    let boot : Kernel = kernel_in c.args.self.now nothing in
    let w : Written = (flat schedule boot c.loop-pid.turns).written in
    let next = subst (NextIs schedule c.loop-pid.turns (kernel_in c.loop-pid.self w)) c.in-End.is (c.in_ok-pid.ensures w) in
    record {
      ran = c.loop-pid.invariant.so;
      ends = came_to_end schedule boot (told (g.O.Sink.state c.args.out.now) (g.E.Sink.state c.args.err.now)) (told (g.O.Sink.state c.loop-pid.out) (g.E.Sink.state c.loop-pid.err)) c.loop-pid.self c.loop-pid.turns c.loop-pid.invariant.so c.in-End.word next;
    }

pub overflow_add-turns : goal.overflow_add-turns
overflow_add-turns g c =
    let schedule : Schedule = schedule_of c.args.plan.now in
    let boot : Kernel = kernel_in c.args.self.now nothing in
    let w : Written = (flat schedule boot c.loop-pid.turns).written in
    let next = subst (NextIs schedule c.loop-pid.turns (kernel_in c.loop-pid.self w)) c.in-Turn.is (c.in_ok-pid.ensures w) in
    let less = turns_left schedule c.loop-pid.turns (kernel_in c.loop-pid.self w) next.0 in
    let few = c.requires.can.few in omega (arith, less, few)

pub loop-pid-smaller : goal.loop-pid-smaller
loop-pid-smaller g c =
    let schedule : Schedule = schedule_of c.args.plan.now in
    let boot : Kernel = kernel_in c.args.self.now nothing in
    let w : Written = (flat schedule boot c.loop-pid.turns).written in
    let next = subst (NextIs schedule c.loop-pid.turns (kernel_in c.loop-pid.self w)) c.in-Turn.is (c.in_ok-pid.ensures w) in
    let less = turns_left schedule c.loop-pid.turns (kernel_in c.loop-pid.self w) next.0 in
    omega (arith, less)

pub loop-pid-preserved : goal.loop-pid-preserved
loop-pid-preserved g c =
    let schedule : Schedule = schedule_of c.args.plan.now in
    let boot : Kernel = kernel_in c.args.self.now nothing in
    let before : Told = told (g.O.Sink.state c.args.out.now) (g.E.Sink.state c.args.err.now) in
    let now : Told = told (g.O.Sink.state c.loop-pid.out) (g.E.Sink.state c.loop-pid.err) in
    let after : Told = told (g.O.Sink.state c.turn_and_write.new.out) (g.E.Sink.state c.turn_and_write.new.err) in
    let w : Written = (flat schedule boot c.loop-pid.turns).written in
    let next = subst (NextIs schedule c.loop-pid.turns (kernel_in c.loop-pid.self w)) c.in-Turn.is (c.in_ok-pid.ensures w) in
    let one : c.loop-pid.turns + 1 ≡ suc c.loop-pid.turns = omega arith in
    let more = written schedule boot before now after c.loop-pid.self c.turn_and_write.new.self c.loop-pid.turns (c.loop-pid.turns + 1) c.in-Turn.pid.0 c.loop-pid.invariant.so one next.0 next.1 (c.in_ok-turn_and_write-in-Turn.ensures.went w) in
    record {
      later = later_both (faults (g.O.Sink.state c.args.out.now) (g.E.Sink.state c.args.err.now)) (faults (g.O.Sink.state c.loop-pid.out) (g.E.Sink.state c.loop-pid.err)) (faults (g.O.Sink.state c.turn_and_write.new.out) (g.E.Sink.state c.turn_and_write.new.err)) c.loop-pid.invariant.later c.turn_and_write.ensures.later;
      so = more.0;
      empty = more.1;
    }
