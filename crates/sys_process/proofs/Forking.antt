-- A process that forks.
use Rattle.std.proofs.Common.{◌≡◌, ℕ, ◌+◌, ◌≤◌, Bool, true, false, cond, not, eqb, leb, ◌&&◌, refl, sym, ◌∙◌, ap, subst, List, [], ◌∷◌, length, Option, Some}
use Rattle.std.proofs.lemmas.Bool.{eqb-true}
use Rattle.rv64_step.specs.declared.cpu.Cpu.{Cpu}
use Rattle.rv64_step.specs.Meaning.{next_pc, with_reg}
use Rattle.linux_model.specs.Limits.{EAGAIN, EINVAL, PROCESSES, SIGCHLD}
use Rattle.linux_model.specs.State.{Kernel, Process}
use Rattle.linux_model.specs.Processes.{process}
use Rattle.linux_model.specs.Effects.{Effect, Copies, Forks}
use Rattle.linux_model.specs.Called.{Called, Gives, says}
use Rattle.linux_model.specs.Fits.{PidsRise}
use Rattle.linux_model.specs.Held.{Held}
use Rattle.linux_model.specs.Managed.{Managed, managed_after}
use Rattle.linux_model.specs.ProcessCalls.{clone_row}
use Rattle.call_machine.specs.declared.end.CallEnd.TheVariants.{Value}
use Rattle.call_machine.specs.Lawful.{Lawful}
use Rattle.call_machine.specs.Laws.{effects_of}
use Rattle.call_machine.specs.Lent.{Ran, ended, kernel_of}

-- the pid of a process that is there isn't above the last one
low_at : (b : Bool) (q p : Process) (rest : Option Process) (pid last : ℕ) → eqb q.pid pid ≡ b → q.pid ≤ last → (rest ≡ Some p → pid ≤ last) → cond b (Some q) rest ≡ Some p → pid ≤ last
low_at true q p rest pid last e h more is = subst (λ (n : ℕ). n ≤ last) (eqb-true q.pid pid e) h
low_at false q p rest pid last e h more is = more is

pub pid_low : (low last pid : ℕ) (procs : List Process) (p : Process) → PidsRise low last procs → process procs pid ≡ Some p → pid ≤ last
pid_low low last pid [] p rise e = cc e
pid_low low last pid (q ∷ procs) p rise e = low_at (eqb q.pid pid) q p (process procs pid) pid last refl rise.1 (pid_low q.pid last pid procs p rise.2) e

module _ {X : Type 0} (held : X → Held) (does stops : X → X → List Effect → Type 0) (laws : Lawful held does stops) (pid : ℕ) (p : Process) (is : p.pid ≡ pid) (man : Managed) (k : Kernel) (flags stack : ℕ) (fair : (not (eqb flags SIGCHLD && eqb stack 0)) ≡ false) (few : leb PROCESSES (length man.procs) ≡ false) (a b : X) where
  abbrev row : Called
  row = clone_row p (kernel_of man (held a) k) flags stack

  abbrev forks : Cpu → Effect
  forks cpu = Forks pid (man.last + 1) cpu

  forks_row : (cpu : Cpu) → cpu ≡ with_reg p.cpu 10 0 (next_pc p.cpu) → row ≡ Gives (Copies pid (man.last + 1) ∷ forks cpu ∷ []) (man.last + 1)
  forks_row cpu e =
      (λ i. cond (fair i) (says EINVAL) (cond (few i) (says EAGAIN) (Gives (Copies p.pid (man.last + 1) ∷ Forks p.pid (man.last + 1) (with_reg p.cpu 10 0 (next_pc p.cpu)) ∷ []) (man.last + 1))))
      ∙ λ i. Gives (Copies (is i) (man.last + 1) ∷ Forks (is i) (man.last + 1) (sym e i) ∷ []) (man.last + 1)

  pub forks_ends : (cpu : Cpu) (man' : Managed) (child : ℕ) → cpu ≡ with_reg p.cpu 10 0 (next_pc p.cpu) → does a b (Copies pid (man.last + 1) ∷ []) → man' ≡ managed_after (forks cpu) man → child ≡ man.last + 1 → Ran does a b man man' row (ended (Value child))
  forks_ends cpu man' child e copied forked new = record {
    effects = Copies pid (man.last + 1) ∷ forks cpu ∷ [];
    row_is = forks_row cpu e ∙ ap (λ (n : ℕ). Gives (Copies pid (man.last + 1) ∷ forks cpu ∷ []) n) (sym new);
    did = laws.both a b b (Copies pid (man.last + 1) ∷ []) (forks cpu ∷ []) copied (laws.apart b (forks cpu) refl);
    managed = sym forked;
  }

  pub forks_stops : stops a b (Copies pid (man.last + 1) ∷ []) → stops a b (effects_of row)
  forks_stops s =
      let cpu = with_reg p.cpu 10 0 (next_pc p.cpu) in
      subst (stops a b) (sym (ap effects_of (forks_row cpu refl))) (laws.stops_front a b (Copies pid (man.last + 1) ∷ []) (forks cpu ∷ []) s)
