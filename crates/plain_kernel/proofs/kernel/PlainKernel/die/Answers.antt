use Rattle.linux_model.specs.Held.{with_held}
use Rattle.plain_machine.specs.Plain.{held_of}
use Rattle.plain_kernel.proofs.kernel.PlainKernel.die.Goals as goal

pub returns-in-Ok : goal.returns-in-Ok
returns-in-Ok c = λ k. record {
  did = c.in-Ok.ensures.does (with_held (held_of c.args.self.now.machine) k);
  managed = c.in-Ok.ensures.managed (with_held (held_of c.args.self.now.machine) k);
}
