use Rattle.std.proofs.Common.{List, []}
use Rattle.linux_model.specs.State.{Written, unbooted}
use Rattle.call_machine.proofs.Rows.{each_process, of_process}
use Rattle.plain_kernel.specs.Outcomes.{Told, told}
use Rattle.plain_kernel.specs.Standing.{kernel_in}
use Rattle.plain_kernel.specs.Turns.{Turned, acts_in, schedule_of}
use Rattle.plain_kernel.specs.Written.{Went}
use Rattle.plain_kernel.specs.declared.kernel.PlainKernel.{PlainKernel}
use Rattle.plain_kernel.proofs.Writing.{went}
use Rattle.plain_kernel.proofs.kernel.PlainKernel.turn_and_write.Goals as goal

pub returns-clause-went : goal.returns-clause-went
returns-clause-went g c = λ w.
    let old : PlainKernel = c.args.self.now in
    let before : Told = told (g.O.Sink.state c.args.out.now) (g.E.Sink.state c.args.err.now) in
    let after : Told = told (g.O.Sink.state c.write_out.new.out) (g.E.Sink.state c.write_out.new.err) in
    each_process old.manager c.args.pid.0 (λ p. Went before after old c.write_out.new.self w (acts_in (schedule_of c.args.plan.now) p (kernel_in old w)) c.write_out.result) (λ p is there.
    went before after old c.turn.new.self c.write_out.new.self (acts_in (schedule_of c.args.plan.now) p (kernel_in old w)) w c.write_out.result c.requires.empty
    (of_process old.manager c.args.pid.0 (λ p. Turned old c.turn.new.self (acts_in (schedule_of c.args.plan.now) p (kernel_in old w))) p there (c.in_ok-turn.ensures (record (unbooted []) { written = w })))
    c.write_out.ensures.wrote c.write_out.ensures.manager c.write_out.ensures.held)
