use Rattle.std.proofs.Common.{◌≡◌, ◌∙◌, ◌-◌, ℕ, suc, ◌∷◌, ap, sym, arith}
use Rattle.guest_gen.specs.Jobs.{after_jobs, drawn_jobs}
use Rattle.guest_gen.proofs.OneByOne.{one_more}
use Rattle.guest_gen.proofs.job.draw_jobs.Goals as goal

pub loop-left-preserved : goal.loop-left-preserved
loop-left-preserved c =
    let left = c.loop-left.left in
    let s = c.loop-left.draws.state in
    let more : left ≡ suc (left - 1) = omega arith in
    record {
      jobs = one_more _ _ _ (drawn_jobs left s) (drawn_jobs (left - 1) c.draw_job.new.draws.state) c.draw_job.result c.in_ok-push.ensures.items
          (ap (λ (n : ℕ). drawn_jobs n s) more ∙ (λ i. sym c.draw_job.ensures.job i ∷ drawn_jobs (left - 1) (sym c.draw_job.ensures.state i)))
          c.loop-left.invariant.jobs;
      state = ap (λ (t : ℕ). after_jobs (left - 1) t) c.draw_job.ensures.state ∙ ap (λ (n : ℕ). after_jobs n s) (sym more) ∙ c.loop-left.invariant.state;
    }
