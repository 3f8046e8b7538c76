-- Who has a turn lives, and is found by its pid.
use Rattle.std.proofs.Common.{◌≡◌, ℕ, ◌-◌, ◌<◌, ◌%◌, Bool, true, false, cond, eqb, ◌⊎◌, inl, inr, slice_index, mod-lt, refl, sym, ◌∙◌, ap, subst, List, [], ◌∷◌, length, Option, Some, None, arith}
use Rattle.std.proofs.lemmas.Bool.{and_parts, eqb-true, eq-eqb}
use Rattle.linux_model.specs.State.{Kernel, Process}
use Rattle.linux_model.specs.Processes.{process, is_live}
use Rattle.linux_model.specs.Turns.{Schedule, whose, chosen, ready, ready_in, is_ready}
use Rattle.linux_model.specs.Fits.{PidsRise}
use Rattle.linux_model.proofs.fits.Found.{found_pid}
use Rattle.linux_model.proofs.fits.Runs.{Has, above_low, has_index}

abbrev Lives : Option Process → Type 0
Lives None = Unit {0}
Lives (Some p) = is_live p.state ≡ true

ready_lives : (k : Kernel) (low last : ℕ) (procs : List Process) (pid : ℕ) → PidsRise low last procs → Has pid (ready_in k procs) → Lives (process procs pid)
ready_lives k low last [] pid r has = tt
ready_lives k low last (q ∷ procs) pid r has = by (is_ready k q) refl (eqb q.pid pid) refl has (ready_lives k q.pid last procs pid r.2) (above_low k q.pid last procs pid r.2)
  where
    by : (b : Bool) → is_ready k q ≡ b → (c : Bool) → eqb q.pid pid ≡ c → Has pid (cond b (q.pid ∷ ready_in k procs) (ready_in k procs)) → (Has pid (ready_in k procs) → Lives (process procs pid)) → (Has pid (ready_in k procs) → q.pid < pid)
        → Lives (cond c (Some q) (process procs pid))
    by true e true f has more high = (and_parts (is_live q.state) _ e).0
    by true e false f (inl same) more high = let own : eqb q.pid pid ≡ true = eq-eqb q.pid pid (sym same) in cc (own, f)
    by true e false f (inr has) more high = more has
    by false e true f has more high = let same : q.pid ≡ pid = eqb-true q.pid pid f in let h : q.pid < pid = high has in absurd (omega (arith, same))
    by false e false f has more high = more has

-- the process that has a turn
pub record Acts (k : Kernel) (p : Process) : Type 0 where
  pub there : process k.procs p.pid ≡ Some p
  pub lives : is_live p.state ≡ true

pub who_acts : (schedule : Schedule) (n : ℕ) (k : Kernel) (p : Process) (pids : List ℕ) → PidsRise 0 k.last k.procs → pids ≡ ready k → whose schedule n k.procs pids ≡ Some p → Acts k p
who_acts schedule n k p [] r e is = cc is
who_acts schedule n k p (pid ∷ pids) r e is =
    let own : p.pid ≡ chosen schedule n (pid ∷ pids) = eqb-true p.pid (chosen schedule n (pid ∷ pids)) (found_pid k.procs (chosen schedule n (pid ∷ pids)) p is) in
    let has : Has (chosen schedule n (pid ∷ pids)) (ready k) = subst (Has (chosen schedule n (pid ∷ pids))) e (has_index (pid ∷ pids) (slice_index schedule.turns ((n - 1) % length schedule.turns) % length (pid ∷ pids)) (mod-lt (slice_index schedule.turns ((n - 1) % length schedule.turns)) {m = length (pid ∷ pids)} (omega arith))) in
    record { there = ap (process k.procs) own ∙ is; lives = subst Lives is (ready_lives k 0 k.last k.procs (chosen schedule n (pid ∷ pids)) r has) }
