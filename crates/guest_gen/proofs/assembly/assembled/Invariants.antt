use Rattle.std.proofs.Common.{◌≡◌, ◌++◌, drop}
use Rattle.std.specs.Prelude.{flat_map}
use Rattle.guest_gen.specs.Assembly.{bytes_of_step, bytes_of_steps}
use Rattle.guest_gen.proofs.assembly.assembled.Given as goal

-- the code so far with that of the steps left makes the whole
abbrev pub invariant-loop-step : goal.invariant-loop-step
invariant-loop-step l = l.code.items ++ flat_map bytes_of_step (drop l.step-index l.steps) ≡ bytes_of_steps l.steps
