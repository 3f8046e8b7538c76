-- What is made, put together.
use Rattle.std.proofs.Common.{◌≡◌, ℕ, ◌+◌, List, ap, ◌∙◌}
use Rattle.desc_read.specs.declared.plan.Plan.{Plan}
use Rattle.guest_gen.specs.declared.guest.Generated.{Generated}
use Rattle.guest_gen.specs.declared.job.Job.{Job}
use Rattle.guest_gen.specs.declared.assembly.Step.{Step}
use Rattle.guest_gen.specs.Draws.{after, drawn, draws, next}
use Rattle.guest_gen.specs.Jobs.{after_jobs, drawn_jobs, program}
use Rattle.guest_gen.specs.Assembly.{bytes_of_steps}
use Rattle.guest_gen.specs.Image.{image_of}
use Rattle.guest_gen.specs.Guests.{guest, guest_from, plan_drawn}

pub from_pattern : (prefix pattern : List ℕ) (s s2 s3 count : ℕ) (jobs : List Job) (steps : List Step) (code file image : List ℕ) (plan : Plan) → count ≡ drawn 64 s → s2 ≡ next s → jobs ≡ drawn_jobs (64 + count) s2 → s3 ≡ after_jobs (64 + count) s2 → steps ≡ program jobs → code ≡ bytes_of_steps steps → file ≡ image_of code pattern → image ≡ file → plan ≡ plan_drawn prefix s3 → record { image = image; plan = plan } ≡ guest_from prefix pattern s
from_pattern prefix pattern s s2 s3 count jobs steps code file image plan counted second drew third stepped coded filed same planned =
    let image_is : image ≡ image_of (bytes_of_steps (program (drawn_jobs (64 + drawn 64 s) (next s)))) pattern =
    same ∙ filed ∙ ap (λ (b : List ℕ). image_of b pattern) (coded ∙ ap bytes_of_steps (stepped ∙ ap program (drew ∙ (λ i. drawn_jobs (64 + counted i) (second i))))) in
    let plan_is : plan ≡ plan_drawn prefix (after_jobs (64 + drawn 64 s) (next s)) =
    planned ∙ ap (λ (t : ℕ). plan_drawn prefix t) (third ∙ (λ i. after_jobs (64 + counted i) (second i))) in
    λ i. record { image = image_is i; plan = plan_is i }

pub from_seed : (prefix pattern : List ℕ) (seed s : ℕ) (made : Generated) → pattern ≡ draws 2048 256 seed → s ≡ after 2048 seed → made ≡ guest_from prefix pattern s → made ≡ guest seed prefix
unfolding guest
from_seed prefix pattern seed s made patterned first from = from ∙ (λ i. guest_from prefix (patterned i) (first i))
