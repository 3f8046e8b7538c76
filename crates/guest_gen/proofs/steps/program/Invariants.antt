use Rattle.std.proofs.Common.{◌≡◌, ◌++◌, drop}
use Rattle.std.specs.Prelude.{flat_map}
use Rattle.guest_gen.specs.Jobs.{steps_of}
use Rattle.guest_gen.proofs.steps.program.Given as goal

abbrev pub invariant-loop-job : goal.invariant-loop-job
invariant-loop-job l = l.steps.items ++ flat_map steps_of (drop l.job-index l.jobs) ≡ flat_map steps_of l.jobs
