use Rattle.plain_kernel.specs.Booted.{IsBooted}
use Rattle.plain_kernel.specs.Outcomes.{told}
use Rattle.plain_kernel.specs.Turns.{schedule_of}
use Rattle.plain_kernel.proofs.Ending.{can_run, not_begun, ran_on, same_booted}
use Rattle.plain_kernel.proofs.run.plain_run.Goals as goal

pub returns-in_err-kernel-clause-run : goal.returns-in_err-kernel-clause-run
returns-in_err-kernel-clause-run g c =
    not_begun (schedule_of c.args.plan.now) c.args.image.now c.args.plan.now.args c.args.plan.now.env c.args.files.now c.args.input (told (g.O.Sink.state c.args.out.now) (g.E.Sink.state c.args.err.now)) c.from_residual.result c.from_residual.ensures.1

pub run_to_its_end-requires-clause-can : goal.run_to_its_end-requires-clause-can
run_to_its_end-requires-clause-can g c =
    can_run (schedule_of c.args.plan.now) c.args.image.now c.as_slice.result.now c.as_slice-2.result.now c.args.files.now c.args.input c.in_ok-kernel.kernel c.in_ok-kernel.ensures c.requires.turns c.requires.few

pub run_to_its_end-requires-clause-empty : goal.run_to_its_end-requires-clause-empty
run_to_its_end-requires-clause-empty g c = c.in_ok-kernel.ensures.empty

pub returns-clause-run : goal.returns-clause-run
returns-clause-run g c =
    ran_on (schedule_of c.args.plan.now) c.args.image.now c.args.plan.now.args c.args.plan.now.env c.args.files.now c.args.input c.in_ok-kernel.kernel
    (same_booted c.in_ok-kernel.kernel c.args.image.now c.args.plan.now.args c.args.plan.now.env c.as_slice.result.now c.as_slice-2.result.now c.args.files.now c.args.input c.as_slice.ensures c.as_slice-2.ensures c.in_ok-kernel.ensures)
    (told (g.O.Sink.state c.args.out.now) (g.E.Sink.state c.args.err.now)) (told (g.O.Sink.state c.run_to_its_end.new.out) (g.E.Sink.state c.run_to_its_end.new.err)) c.run_to_its_end.result c.run_to_its_end.ensures.run
