use Rattle.std.proofs.Common.{◌≡◌, ℕ, ◌+◌, ◌∙◌, ◌∷◌, replicate, arith}
use Rattle.rv64_step.specs.declared.cpu.Cpu.{Cpu}
use Rattle.kernel_objects.specs.declared.process.Brk.{Brk}
use Rattle.linux_model.specs.Loading.{start_of, break_of}
use Rattle.linux_model.specs.Managed.{managed_after_all}
use Rattle.manager.specs.Words.{start_effects}
use Rattle.plain_kernel.proofs.Booting.{booted, none_has_space, nothing_out}
use Rattle.plain_kernel.proofs.kernel.PlainKernel.boot.Goals as goal

pub load_program-requires-clause-bare : goal.load_program-requires-clause-bare
load_program-requires-clause-bare c = none_has_space c.args.files.now c.in_ok-machine.machine c.make_files.new.machine 1 c.in_ok-machine.ensures.held c.in_ok-make_files.ensures.does

pub returns : goal.returns
returns c =
    let cpu : c.start_of.result ≡ start_of c.args.image.now c.args.args.now c.args.env.now = c.start_of.ensures ∙ (λ i. record { pc = c.entry.ensures.value i; x = 0 ∷ 0 ∷ c.in-Ok.ensures.sp i ∷ replicate 29 0 }) in
    let within = c.entry.ensures.bounded.within in
    record {
      stands = booted c.args.image.now c.args.args.now c.args.env.now c.args.files.now c.args.input c.in_ok-machine.machine c.make_files.new.machine c.load_program.new.machine c.start.new.self
          c.in_ok-machine.ensures.held c.in_ok-make_files.ensures.does c.in-Ok.ensures.does
          (c.in_default-start.ensures.ok ∙ (λ i. managed_after_all (start_effects ((c.in_ok-manager.ensures i).last + 1) (cpu i) (record { base = c.brk.ensures.value i; now = c.brk-2.ensures.value i })) (c.in_ok-manager.ensures i)));
      empty = nothing_out c.args.image.now c.args.args.now c.args.env.now c.args.files.now c.args.input c.in_ok-machine.machine c.make_files.new.machine c.load_program.new.machine c.start.new.self c.in_ok-machine.ensures.output c.in_ok-make_files.ensures.does c.in-Ok.ensures.does;
      low = omega (arith, within);
    }
