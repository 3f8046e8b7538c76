use Rattle.linux_model.specs.State.{nothing}
use Rattle.plain_kernel.specs.Outcomes.{told}
use Rattle.plain_kernel.specs.Standing.{kernel_in}
use Rattle.plain_kernel.specs.Turns.{schedule_of}
use Rattle.plain_kernel.proofs.Ending.{leaves, names_fit, ran_so, stops}
use Rattle.plain_kernel.proofs.kernel.PlainKernel.run_to_its_end.Goals as goal

pub returns-in_err-ended-clause-run : goal.returns-in_err-ended-clause-run
returns-in_err-ended-clause-run g c =
    ran_so (schedule_of c.args.plan.now) (kernel_in c.args.self.now nothing) (told (g.O.Sink.state c.args.out.now) (g.E.Sink.state c.args.err.now)) (told (g.O.Sink.state c.run.new.out) (g.E.Sink.state c.run.new.err)) c.from_residual.result c.in_err-ended.field-0.0 c.from_residual.ensures.1 c.in_err-ended.ensures.run

pub end-requires : goal.end-requires
end-requires g c =
    names_fit (schedule_of c.args.plan.now) (kernel_in c.args.self.now nothing) (told (g.O.Sink.state c.args.out.now) (g.E.Sink.state c.args.err.now)) (told (g.O.Sink.state c.run.new.out) (g.E.Sink.state c.run.new.err)) c.run.new.self c.in_ok-ended.ended c.in_ok-ended.ensures.run c.requires.can.names

pub returns-in_err-end-clause-run : goal.returns-in_err-end-clause-run
returns-in_err-end-clause-run g c =
    ran_so (schedule_of c.args.plan.now) (kernel_in c.args.self.now nothing) (told (g.O.Sink.state c.args.out.now) (g.E.Sink.state c.args.err.now)) (told (g.O.Sink.state c.run.new.out) (g.E.Sink.state c.run.new.err)) c.from_residual-in_err-end.result _ c.from_residual-in_err-end.ensures.1
    (stops (schedule_of c.args.plan.now) (kernel_in c.args.self.now nothing) (told (g.O.Sink.state c.args.out.now) (g.E.Sink.state c.args.err.now)) (told (g.O.Sink.state c.run.new.out) (g.E.Sink.state c.run.new.err)) c.run.new.self c.in_ok-ended.ended c.in_ok-ended.ensures.run)

pub returns-clause-run : goal.returns-clause-run
returns-clause-run g c =
    leaves (schedule_of c.args.plan.now) (kernel_in c.args.self.now nothing) (told (g.O.Sink.state c.args.out.now) (g.E.Sink.state c.args.err.now)) (told (g.O.Sink.state c.run.new.out) (g.E.Sink.state c.run.new.err)) c.run.new.self c.in_ok-ended.ended c.in_ok-ended.ensures.run c.in_ok-end.end c.in_ok-end.ensures
