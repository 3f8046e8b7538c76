use Rattle.std.proofs.Common.{◌≡◌, ◌-◌}
use Rattle.rv64_step.specs.Harts.{cpu_of}
use Rattle.flat_memory.specs.Spaces.{space_of}
use Rattle.linux_model.specs.Instructions.{many}
use Rattle.linux_model.proofs.Running.{EndsAs}
use Rattle.plain_steps.proofs.steps.run.Given as goal

-- what is left to run ends as the whole does
abbrev pub invariant-loop-n : goal.invariant-loop-n
invariant-loop-n l = record {
  pid : l.space.pid ≡ l.pid;
  ends : EndsAs (many l.most l.pid.0 (cpu_of l.fn.hart) (space_of l.fn.space.space)) (many (l.most - l.n) l.pid.0 (cpu_of l.hart) (space_of l.space.space));
}
