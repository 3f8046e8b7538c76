use Rattle.std.proofs.Common.{◌≡◌, ◌++◌}
use Rattle.guest_gen.specs.Jobs.{after_jobs, drawn_jobs}
use Rattle.guest_gen.proofs.job.draw_jobs.Given as goal

abbrev pub invariant-loop-left : goal.invariant-loop-left
invariant-loop-left l = record {
  jobs : l.jobs.items ++ drawn_jobs l.left l.draws.state ≡ drawn_jobs l.n l.fn.draws.state;
  state : after_jobs l.left l.draws.state ≡ after_jobs l.n l.fn.draws.state;
}

abbrev pub decreases-loop-left : goal.decreases-loop-left
decreases-loop-left l = l.left
