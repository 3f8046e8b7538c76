-- What instructions of code must agree with.
use Rattle.std.specs.Prelude.{◌≡◌}
use Rattle.lego_base.specs.Space.{Space}
use Rattle.rv64_step.specs.declared.cpu.Cpu.{Cpu}
use Rattle.rv64_step.specs.declared.cpu.StepEnd.{StepEnd}
use Rattle.linux_model.specs.Instructions.{Ran}

-- what ran ended so, with these registers and this space after it
pub record Agrees (r : Ran) (stop : StepEnd) (cpu : Cpu) (space : Space) : Type 0 where
  pub stops : r.stop ≡ stop
  pub left : r.cpu ≡ cpu
  pub sees : r.space ≡ space
