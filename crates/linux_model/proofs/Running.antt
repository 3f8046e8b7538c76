-- Steps of the loop over instructions: what is left to run gives what the whole gives.
use Rattle.std.proofs.Common.{◌≡◌, ℕ, suc, ◌∙◌, subst}
use Rattle.lego_base.specs.Space.{Space}
use Rattle.rv64_step.specs.declared.cpu.Cpu.{Cpu}
use Rattle.rv64_step.specs.declared.cpu.StepEnd.{StepEnd}
use Rattle.rv64_step.specs.declared.cpu.StepEnd.TheVariants.{Next, Call, Dead}
use Rattle.linux_model.specs.Agrees.{Agrees}
use Rattle.linux_model.specs.Instructions.{Ran, one, many, goes_on}

-- what is left ends as the whole does
abbrev pub EndsAs : Ran → Ran → Type 0
EndsAs whole rest = Agrees whole rest.stop rest.cpu rest.space

-- where one instruction ended with the next to come, the rest after it ends as the whole
pub next_one : (whole : Ran) (m n pid : ℕ) (cpu cpu' : Cpu) (space space' : Space) → m ≡ suc n → EndsAs whole (many m pid cpu space) → Agrees (one pid cpu space) Next cpu' space' → EndsAs whole (many n pid cpu' space')
next_one whole m n pid cpu cpu' space space' e ends step =
    let whole_next = subst (λ (m : ℕ). EndsAs whole (many m pid cpu space)) e ends in
    let after : EndsAs whole (many n pid (one pid cpu space).cpu (one pid cpu space).space) = subst (λ (stop : StepEnd). EndsAs whole (goes_on stop (one pid cpu space) (many n pid (one pid cpu space).cpu (one pid cpu space).space))) step.stops whole_next in
    subst (λ (p : Cpu × Space). EndsAs whole (many n pid p.0 p.1)) (λ i. (step.left i, step.sees i)) after

-- where it ended with a call, so does the whole
pub last_call : (whole : Ran) (m n pid : ℕ) (cpu cpu' : Cpu) (space space' : Space) → m ≡ suc n → EndsAs whole (many m pid cpu space) → Agrees (one pid cpu space) Call cpu' space' → Agrees whole Call cpu' space'
last_call whole m n pid cpu cpu' space space' e ends step =
    let whole_next = subst (λ (m : ℕ). EndsAs whole (many m pid cpu space)) e ends in
    let after : Agrees whole (one pid cpu space).stop (one pid cpu space).cpu (one pid cpu space).space = record {
      stops = (subst (λ (stop : StepEnd). EndsAs whole (goes_on stop (one pid cpu space) (many n pid (one pid cpu space).cpu (one pid cpu space).space))) step.stops whole_next).stops;
      left = (subst (λ (stop : StepEnd). EndsAs whole (goes_on stop (one pid cpu space) (many n pid (one pid cpu space).cpu (one pid cpu space).space))) step.stops whole_next).left;
      sees = (subst (λ (stop : StepEnd). EndsAs whole (goes_on stop (one pid cpu space) (many n pid (one pid cpu space).cpu (one pid cpu space).space))) step.stops whole_next).sees;
    } in
    record { stops = after.stops ∙ step.stops; left = after.left ∙ step.left; sees = after.sees ∙ step.sees }

-- where it killed the process, so does the whole
pub last_dead : (whole : Ran) (m n pid signal : ℕ) (cpu cpu' : Cpu) (space space' : Space) → m ≡ suc n → EndsAs whole (many m pid cpu space) → Agrees (one pid cpu space) (Dead signal) cpu' space' → Agrees whole (Dead signal) cpu' space'
last_dead whole m n pid signal cpu cpu' space space' e ends step =
    let whole_next = subst (λ (m : ℕ). EndsAs whole (many m pid cpu space)) e ends in
    let after = subst (λ (stop : StepEnd). EndsAs whole (goes_on stop (one pid cpu space) (many n pid (one pid cpu space).cpu (one pid cpu space).space))) step.stops whole_next in
    record { stops = after.stops ∙ step.stops; left = after.left ∙ step.left; sees = after.sees ∙ step.sees }
