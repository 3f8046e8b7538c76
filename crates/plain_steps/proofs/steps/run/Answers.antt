-- Each step is the one instruction of the definitions, on what is left to run.
use Rattle.std.proofs.Common.{◌≡◌, ◌+◌, ◌-◌, suc, ◌∙◌, ap, Ok, arith}
use Rattle.rv64_step.specs.declared.cpu.StepEnd.{StepEnd}
use Rattle.rv64_step.specs.declared.cpu.StepEnd.TheVariants.{Next, Call, Dead}
use Rattle.rv64_step.specs.Harts.{cpu_of}
use Rattle.lego_base.specs.declared.ids.Pid.{Pid}
use Rattle.flat_memory.specs.Spaces.{space_of}
use Rattle.linux_model.specs.Instructions.{many}
use Rattle.linux_model.proofs.Running.{next_one, last_call, last_dead}
use Rattle.plain_steps.proofs.Stepped.{served, stepped_to, step_pid}
use Rattle.plain_steps.proofs.steps.run.Goals as goal

pub step-requires : goal.step-requires
step-requires c = served c.args.pid.0 c.loop-n.space (ap (λ (p : Pid). p.0) c.loop-n.invariant.pid)

pub returns-in-Ok-Call : goal.returns-in-Ok-Call
returns-in-Ok-Call c =
    let is : c.step.result ≡ Ok Call = c.in-Ok-Call.is ∙ ap (λ (stop : StepEnd). Ok stop) c.in-Ok-Call.field-0-is in
    let left : c.args.most - c.loop-n.n ≡ suc (c.args.most - (c.loop-n.n + 1)) = omega arith in
    record {
      pid = step_pid c.args.pid.0 (cpu_of c.loop-n.hart) c.loop-n.space c.step.new.mem c.step.result (cpu_of c.step.new.self) c.step.ensures.step ∙ c.loop-n.invariant.pid;
      ran = last_call (many c.args.most c.args.pid.0 (cpu_of c.args.hart.now) (space_of c.args.space.now.space)) (c.args.most - c.loop-n.n) (c.args.most - (c.loop-n.n + 1)) c.args.pid.0 (cpu_of c.loop-n.hart) (cpu_of c.step.new.self) (space_of c.loop-n.space.space) (space_of c.step.new.mem.space) left c.loop-n.invariant.ends
          (stepped_to c.args.pid.0 (cpu_of c.loop-n.hart) c.loop-n.space c.step.new.mem c.step.result Call (cpu_of c.step.new.self) (ap (λ (p : Pid). p.0) c.loop-n.invariant.pid) is c.step.ensures.step);
    }

pub returns-in-Ok-Dead : goal.returns-in-Ok-Dead
returns-in-Ok-Dead c =
    let is : c.step.result ≡ Ok (Dead c.in-Ok-Dead.signal) = c.in-Ok-Dead.is ∙ ap (λ (stop : StepEnd). Ok stop) c.in-Ok-Dead.field-0-is in
    let left : c.args.most - c.loop-n.n ≡ suc (c.args.most - (c.loop-n.n + 1)) = omega arith in
    record {
      pid = step_pid c.args.pid.0 (cpu_of c.loop-n.hart) c.loop-n.space c.step.new.mem c.step.result (cpu_of c.step.new.self) c.step.ensures.step ∙ c.loop-n.invariant.pid;
      ran = last_dead (many c.args.most c.args.pid.0 (cpu_of c.args.hart.now) (space_of c.args.space.now.space)) (c.args.most - c.loop-n.n) (c.args.most - (c.loop-n.n + 1)) c.args.pid.0 c.in-Ok-Dead.signal (cpu_of c.loop-n.hart) (cpu_of c.step.new.self) (space_of c.loop-n.space.space) (space_of c.step.new.mem.space) left c.loop-n.invariant.ends
          (stepped_to c.args.pid.0 (cpu_of c.loop-n.hart) c.loop-n.space c.step.new.mem c.step.result (Dead c.in-Ok-Dead.signal) (cpu_of c.step.new.self) (ap (λ (p : Pid). p.0) c.loop-n.invariant.pid) is c.step.ensures.step);
    }

pub loop-n-preserved : goal.loop-n-preserved
loop-n-preserved c =
    let is : c.step.result ≡ Ok Next = c.in-Ok-Next.is ∙ ap (λ (stop : StepEnd). Ok stop) c.in-Ok-Next.field-0-is in
    let left : c.args.most - c.loop-n.n ≡ suc (c.args.most - (c.loop-n.n + 1)) = omega arith in
    record {
      pid = step_pid c.args.pid.0 (cpu_of c.loop-n.hart) c.loop-n.space c.step.new.mem c.step.result (cpu_of c.step.new.self) c.step.ensures.step ∙ c.loop-n.invariant.pid;
      ends = next_one (many c.args.most c.args.pid.0 (cpu_of c.args.hart.now) (space_of c.args.space.now.space)) (c.args.most - c.loop-n.n) (c.args.most - (c.loop-n.n + 1)) c.args.pid.0 (cpu_of c.loop-n.hart) (cpu_of c.step.new.self) (space_of c.loop-n.space.space) (space_of c.step.new.mem.space) left c.loop-n.invariant.ends
          (stepped_to c.args.pid.0 (cpu_of c.loop-n.hart) c.loop-n.space c.step.new.mem c.step.result Next (cpu_of c.step.new.self) (ap (λ (p : Pid). p.0) c.loop-n.invariant.pid) is c.step.ensures.step);
    }
