use Rattle.std.proofs.Common.{subst}
use Rattle.elf_image.specs.Image.{Program}
use Rattle.linux_model.specs.Boot.{boot_of}
use Rattle.plain_kernel.specs.Runs.{Ends}
use Rattle.plain_kernel.specs.Turns.{schedule_of}
use Rattle.lego_top.specs.Outside.{outside, outlets}
use Rattle.lego_top.specs.Endings.{of_leave}
use Rattle.lego_top.proofs.LeftBehind.{end_archivable, left_both, left_part, ran_with}
use Rattle.lego_top.proofs.program_run.run_program.Goals as goal

pub leave-requires : goal.leave-requires
leave-requires g c = end_archivable c.args.plan.now c.in-Ok.image c.args.files.now c.args.input _ _ c.in_ok-end.end c.requires.names c.in_ok-end.ensures.run

pub returns-in_err-leave-clause-ran : goal.returns-in_err-leave-clause-ran
returns-in_err-leave-clause-ran g c = λ rest.
    ran_with c.args.plan.now c.args.program.now c.args.files.now c.args.input (outside rest (g.O.Sink.state c.args.out.now) (g.E.Sink.state c.args.err.now) (g.D.Depot.state c.args.depot.now)) (outside rest (g.O.Sink.state c.plain_run.new.out) (g.E.Sink.state c.plain_run.new.err) (g.D.Depot.state c.leave.new.depot)) c.from_residual-in_err-leave.result (of_leave c.in_err-leave.field-0.0) c.from_residual-in_err-leave.ensures.1
    (left_part c.args.plan.now c.args.program.now c.args.files.now c.args.input c.in-Ok.ensures.image.0 c.in_ok-end.end (outside rest (g.O.Sink.state c.args.out.now) (g.E.Sink.state c.args.err.now) (g.D.Depot.state c.args.depot.now)) (outside rest (g.O.Sink.state c.plain_run.new.out) (g.E.Sink.state c.plain_run.new.err) (g.D.Depot.state c.leave.new.depot))
    (subst (λ (program : Program). Ends (schedule_of c.args.plan.now) (boot_of program c.args.plan.now.args c.args.plan.now.env c.args.files.now c.args.input) (outlets (outside rest (g.O.Sink.state c.args.out.now) (g.E.Sink.state c.args.err.now) (g.D.Depot.state c.args.depot.now))).streams (outlets (outside rest (g.O.Sink.state c.plain_run.new.out) (g.E.Sink.state c.plain_run.new.err) (g.D.Depot.state c.leave.new.depot))).streams c.in_ok-end.end) c.in-Ok.ensures.image.1 c.in_ok-end.ensures.run) c.in_err-leave.field-0.0 c.in_err-leave.ensures.left)

pub returns-clause-ran : goal.returns-clause-ran
returns-clause-ran g c = λ rest.
    left_both c.args.plan.now c.args.program.now c.args.files.now c.args.input c.in-Ok.ensures.image.0 c.in_ok-end.end (outside rest (g.O.Sink.state c.args.out.now) (g.E.Sink.state c.args.err.now) (g.D.Depot.state c.args.depot.now)) (outside rest (g.O.Sink.state c.plain_run.new.out) (g.E.Sink.state c.plain_run.new.err) (g.D.Depot.state c.leave.new.depot))
    (subst (λ (program : Program). Ends (schedule_of c.args.plan.now) (boot_of program c.args.plan.now.args c.args.plan.now.env c.args.files.now c.args.input) (outlets (outside rest (g.O.Sink.state c.args.out.now) (g.E.Sink.state c.args.err.now) (g.D.Depot.state c.args.depot.now))).streams (outlets (outside rest (g.O.Sink.state c.plain_run.new.out) (g.E.Sink.state c.plain_run.new.err) (g.D.Depot.state c.leave.new.depot))).streams c.in_ok-end.end) c.in-Ok.ensures.image.1 c.in_ok-end.ensures.run) c.in_ok-leave.ensures.left
