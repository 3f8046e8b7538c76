use Rattle.std.proofs.Common.{◌≡◌, ℕ, refl, sym, ◌∙◌, ap, subst, Some}
use Rattle.rv64_step.specs.declared.cpu.Cpu.{Cpu}
use Rattle.flat_memory.specs.declared.memory.FlatMemory.{FlatMemory}
use Rattle.flat_memory.specs.Spaces.{spaces_of}
use Rattle.linux_model.specs.Agrees.{Agrees}
use Rattle.linux_model.specs.State.{Process}
use Rattle.linux_model.specs.Processes.{process}
use Rattle.linux_model.specs.Effects.{Goes}
use Rattle.linux_model.specs.Instructions.{many}
use Rattle.linux_model.specs.Managed.{managed_after}
use Rattle.call_machine.proofs.Rows.{each_process, of_process}
use Rattle.plain_kernel.specs.declared.kernel.PlainKernel.{PlainKernel}
use Rattle.plain_kernel.specs.Turns.{Instructed}
use Rattle.plain_kernel.proofs.Turning.{ran_is}
use Rattle.plain_kernel.proofs.kernel.PlainKernel.instructions.Goals as goal

pub returns : goal.returns
returns c =
    let old : PlainKernel = c.args.self.now in
    let memory : FlatMemory = c.run_some.new.memory in
    let new : PlainKernel = record { manager = c.set_cpu.new.self; machine = record { memory = memory; files = old.machine.files; output = old.machine.output } } in
    let cpu : Cpu = c.run_some.new.cpu in
    each_process old.manager c.args.pid.0 (λ p. Instructed c.args.quantum p old new c.in_ok-stop.stop) (λ p is there.
    let begins : c.cpu-cpu.result ≡ p.cpu = of_process old.manager c.args.pid.0 (λ p. c.cpu-cpu.result ≡ p.cpu) p there c.cpu-cpu.ensures in
    let there_too : process old.manager.procs p.pid ≡ Some p = ap (process old.manager.procs) is ∙ there in
    let others : (q : ℕ) → (q ≡ p.pid → ⊥) → spaces_of memory q ≡ spaces_of old.machine.memory q = λ q no. c.in_ok-stop.ensures.others q (λ e. no (e ∙ sym is)) ∙ ap (λ (m : FlatMemory). spaces_of m q) c.memory_mut.ensures.memory in
    let ran : Agrees (many c.args.quantum p.pid p.cpu (spaces_of old.machine.memory p.pid)) c.in_ok-stop.stop cpu (spaces_of memory p.pid) =
    subst (λ (n : ℕ). Agrees (many c.args.quantum n p.cpu (spaces_of old.machine.memory n)) c.in_ok-stop.stop cpu (spaces_of memory n)) (sym is)
    (subst (λ (z : Cpu). Agrees (many c.args.quantum c.args.pid.0 z (spaces_of old.machine.memory c.args.pid.0)) c.in_ok-stop.stop cpu (spaces_of memory c.args.pid.0)) begins
    (subst (λ (m : FlatMemory). Agrees (many c.args.quantum c.args.pid.0 c.cpu-cpu.result (spaces_of m c.args.pid.0)) c.in_ok-stop.stop cpu (spaces_of memory c.args.pid.0)) c.memory_mut.ensures.memory c.in_ok-stop.ensures.ran))
    in
    ran_is c.args.quantum p old new c.in_ok-stop.stop cpu c.requires.fit there_too others ran refl refl (c.set_cpu.ensures ∙ ap (λ (n : ℕ). managed_after (Goes n cpu) old.manager) (sym is)))
