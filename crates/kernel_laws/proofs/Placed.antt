-- Applying the effects of instructions is putting their registers and their space at the process.
use Rattle.std.proofs.Common.{◌≡◌, ℕ, zero, suc, ◌<◌, ◌≤◌, Bool, true, false, cond, eqb, refl, sym, ◌∙◌, ap, subst, List, [], ◌∷◌, Option, Some, None, arith}
use Rattle.std.proofs.lemmas.Bool.{cond-true, cond-false, eq-eqb, eqb-true, ne_eqb}
use Rattle.lego_base.specs.Space.{Space, permits, bytes_at, number_of, bytes_of, with_bytes, with_space}
use Rattle.rv64_decode.specs.declared.Instr.{Instr}
use Rattle.rv64_decode.specs.Table.{decoded}
use Rattle.rv64_step.specs.declared.cpu.Cpu.{Cpu}
use Rattle.rv64_step.specs.declared.cpu.StepEnd.{StepEnd}
use Rattle.rv64_step.specs.declared.cpu.StepEnd.TheVariants.{Next, Call, Dead}
use Rattle.rv64_step.specs.Meaning.{Asks, Ends, Loads, Stores, asks}
use Rattle.rv64_step.proofs.Writes.{with_space-same}
use Rattle.linux_model.specs.State.{Kernel, Process}
use Rattle.linux_model.specs.Processes.{at_pid, process}
use Rattle.linux_model.specs.Effects.{applies}
use Rattle.linux_model.specs.Instructions.{Ran, asked, obeyed, one, goes_on, many}
use Rattle.linux_model.specs.Fits.{PidsRise}
use Rattle.linux_model.proofs.Folds.{applies-append}
use Rattle.linux_model.proofs.fits.Found.{inside}
use Rattle.kernel_laws.specs.Laws.{InstructionsChangeRegistersAndSpaceAlone}

-- a kernel with these registers and this space at a process
abbrev placed : ℕ → Cpu → Space → Kernel → Kernel
placed pid cpu space k = record k { procs = at_pid pid (λ p. record p { cpu = cpu }) k.procs; space = with_space k.space pid space }

-- ---- putting twice

cpu_twice : (b : Bool) (p : Process) (pid : ℕ) (c d : Cpu) → eqb p.pid pid ≡ b
    → cond (eqb (cond b (record p { cpu = c }) p).pid pid) (record (cond b (record p { cpu = c }) p) { cpu = d }) (cond b (record p { cpu = c }) p) ≡ cond b (record p { cpu = d }) p
cpu_twice true p pid c d e = ap (λ (b : Bool). cond b (record p { cpu = d }) (record p { cpu = c })) e
cpu_twice false p pid c d e = ap (λ (b : Bool). cond b (record p { cpu = d }) p) e

procs_twice : (pid : ℕ) (c d : Cpu) (procs : List Process) → at_pid pid (λ p. record p { cpu = d }) (at_pid pid (λ p. record p { cpu = c }) procs) ≡ at_pid pid (λ p. record p { cpu = d }) procs
procs_twice pid c d [] = refl
procs_twice pid c d (p ∷ procs) = λ i. cpu_twice (eqb p.pid pid) p pid c d refl i ∷ procs_twice pid c d procs i

space_twice_at : (b : Bool) (s t old : Space) → cond b t (cond b s old) ≡ cond b t old
space_twice_at true s t old = refl
space_twice_at false s t old = refl

placed_twice : (pid : ℕ) (c d : Cpu) (s t : Space) (k : Kernel) → placed pid d t (placed pid c s k) ≡ placed pid d t k
placed_twice pid c d s t k = λ i. record k { procs = procs_twice pid c d k.procs i; space = λ q. space_twice_at (eqb q pid) s t (k.space q) i }

-- ---- instructions

-- where a process has these registers and this space
module _ (pid : ℕ) (cpu : Cpu) (space : Space) (k : Kernel) (here : placed pid cpu space k ≡ k) where
  spaces_here : with_space k.space pid space ≡ k.space
  spaces_here = ap (λ (k : Kernel). k.space) here

  space_here : k.space pid ≡ space
  space_here = sym (ap (λ (spaces : ℕ → Space). spaces pid) spaces_here) ∙ cond-true (eqb pid pid) space (k.space pid) (eq-eqb pid pid refl)

  goes_places : (after : Cpu) → record k { procs = at_pid pid (λ p. record p { cpu = after }) k.procs } ≡ placed pid after space k
  goes_places after = λ i. record k { procs = at_pid pid (λ p. record p { cpu = after }) k.procs; space = sym spaces_here i }

  writes_places : (after : Cpu) (address : ℕ) (bytes : List ℕ)
      → record k { procs = at_pid pid (λ p. record p { cpu = after }) k.procs; space = with_space k.space pid (with_bytes (k.space pid) address bytes) } ≡ placed pid after (with_bytes space address bytes) k
  writes_places after address bytes = λ i. record k { procs = at_pid pid (λ p. record p { cpu = after }) k.procs; space = with_space k.space pid (with_bytes (space_here i) address bytes) }

  abbrev Places : Ran → Type 0
  Places r = applies r.effects k ≡ placed pid r.cpu r.space k

  choice_places : (b : Bool) (r s : Ran) → Places r → Places s → Places (cond b r s)
  choice_places true r s p q = p
  choice_places false r s p q = q

  asked_places : (want : Asks) → Places (asked pid cpu space want)
  asked_places (Ends stop after) = goes_places after
  asked_places (Loads address n after) = choice_places (permits space 1 address n) _ _ (goes_places _) (sym here)
  asked_places (Stores address n value after) = choice_places (permits space 2 address n) _ _ (writes_places after address (bytes_of n value)) (sym here)

  obeyed_places : (word : Option Instr) → Places (obeyed pid cpu space word)
  obeyed_places None = sym here
  obeyed_places (Some i) = asked_places (asks i cpu i.op)

  one_places : Places (one pid cpu space)
  one_places = choice_places (permits space 4 cpu.pc 4) _ _ (obeyed_places (decoded (number_of (bytes_at space cpu.pc 4)))) (sym here)

-- the rest after an instruction
rest_places : (pid : ℕ) (k : Kernel) (stop : StepEnd) (r rest : Ran) → applies r.effects k ≡ placed pid r.cpu r.space k
    → ((l : Kernel) → placed pid r.cpu r.space l ≡ l → applies rest.effects l ≡ placed pid rest.cpu rest.space l)
    → applies (goes_on stop r rest).effects k ≡ placed pid (goes_on stop r rest).cpu (goes_on stop r rest).space k
rest_places pid k Next r rest first later =
    applies-append r.effects rest.effects k ∙ ap (applies rest.effects) first
    ∙ later (placed pid r.cpu r.space k) (placed_twice pid r.cpu r.cpu r.space r.space k)
    ∙ placed_twice pid r.cpu rest.cpu r.space rest.space k
rest_places pid k Call r rest first later = first
rest_places pid k (Dead signal) r rest first later = first

many_places : (n pid : ℕ) (cpu : Cpu) (space : Space) (k : Kernel) → placed pid cpu space k ≡ k → applies (many n pid cpu space).effects k ≡ placed pid (many n pid cpu space).cpu (many n pid cpu space).space k
many_places zero pid cpu space k here = sym here
many_places (suc n) pid cpu space k here =
    rest_places pid k (one pid cpu space).stop (one pid cpu space) (many n pid (one pid cpu space).cpu (one pid cpu space).space)
    (one_places pid cpu space k here)
    (λ l there. many_places n pid (one pid cpu space).cpu (one pid cpu space).space l there)

-- ---- what a process has is put there already

-- no process that comes after has its pid
above_same : (f : Process → Process) (pid low last : ℕ) (procs : List Process) → PidsRise low last procs → pid ≤ low → at_pid pid f procs ≡ procs
above_same f pid low last [] r h = refl
above_same f pid low last (q ∷ procs) r h =
    let more : low < q.pid = r.0 in
    let other : eqb q.pid pid ≡ false = ne_eqb q.pid pid (λ same. omega (arith, same)) in
    λ i. cond-false (eqb q.pid pid) (f q) q other i ∷ above_same f pid q.pid last procs r.2 (omega arith) i

-- a change of a process that doesn't change it
same_there : (f : Process → Process) (pid low last : ℕ) (procs : List Process) (p : Process) → PidsRise low last procs → process procs pid ≡ Some p → f p ≡ p → at_pid pid f procs ≡ procs
same_there f pid low last [] p r is same = refl
same_there f pid low last (q ∷ procs) p r is same = by (eqb q.pid pid) refl is (same_there f pid q.pid last procs p r.2)
  where
    by : (b : Bool) → eqb q.pid pid ≡ b → cond b (Some q) (process procs pid) ≡ Some p → (process procs pid ≡ Some p → f p ≡ p → at_pid pid f procs ≡ procs) → cond b (f q) q ∷ at_pid pid f procs ≡ q ∷ procs
    by true e is more =
        let own : q.pid ≡ pid = eqb-true q.pid pid e in
        let kept : f q ≡ q = subst (λ (x : Process). f x ≡ x) (sym (inside q p is)) same in
        λ i. kept i ∷ above_same f pid q.pid last procs r.2 (omega (arith, own)) i
    by false e is more = λ i. q ∷ more is same i

there_already : (p : Process) (k : Kernel) → PidsRise 0 k.last k.procs → process k.procs p.pid ≡ Some p → placed p.pid p.cpu (k.space p.pid) k ≡ k
there_already p k r is = λ i. record k { procs = same_there (λ q. record q { cpu = p.cpu }) p.pid 0 k.last k.procs p r is refl i; space = with_space-same k.space p.pid i }

pub instructions_place : InstructionsChangeRegistersAndSpaceAlone
instructions_place n p k r is = many_places n p.pid p.cpu (k.space p.pid) k (there_already p k r is)
