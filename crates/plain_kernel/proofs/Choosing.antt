-- What comes after some turns.
use Rattle.std.proofs.Common.{◌≡◌, ℕ, suc, ◌-◌, ◌<◌, ◌≤◌, Bool, true, false, cond, not, eqb, ◌==◌, ◌&&◌, ◌%◌, ◌⊎◌, inl, inr, slice_index, mod-lt, refl, sym, ◌∙◌, ap, subst, List, [], ◌∷◌, filter, length, map, Option, Some, None, arith}
use Rattle.std.specs.Prelude.{nat_lt}
use Rattle.std.proofs.lemmas.Bool.{eq-eqb, le-ltb, lt-ltb, ne_eqb}
use Rattle.lego_base.specs.declared.ids.Pid.{Pid}
use Rattle.lego_base.specs.declared.report.EndWord.{EndWord}
use Rattle.lego_base.specs.declared.report.EndWord.TheVariants.{Done, Stuck, Spent}
use Rattle.linux_model.specs.State.{Kernel, Process}
use Rattle.linux_model.specs.Processes.{process, is_live}
use Rattle.linux_model.specs.Turns.{Schedule, ended, is_over, is_ready, ready, ready_in, whose}
use Rattle.linux_model.proofs.fits.Runs.{Has, has_index}
use Rattle.plain_kernel.specs.Turns.{HasTurn}

-- how a run ends, by whether no process lives, whether none is ready, and whether turns are left
abbrev by_these : Bool → Bool → Bool → Option EndWord
by_these over none more = cond over (Some Done) (cond none (Some Stuck) (cond more None (Some Spent)))

-- no process lives where none that lives is counted
over_counted : (procs : List Process) → is_over procs ≡ (length (filter (λ p. is_live p.state) procs) == 0)
over_counted [] = refl
over_counted (p ∷ procs) = by (is_live p.state) (over_counted procs)
  where
    by : (b : Bool) → is_over procs ≡ (length (filter (λ p. is_live p.state) procs) == 0) → (not b && is_over procs) ≡ (length (cond b (p ∷ filter (λ p. is_live p.state) procs) (filter (λ p. is_live p.state) procs)) == 0)
    by true e = sym (ne_eqb (suc (length (filter (λ p. is_live p.state) procs))) 0 (λ none. absurd (omega (arith, none))))
    by false e = e

pub is_done : (schedule : Schedule) (n : ℕ) (k : Kernel) → length (filter (λ p. is_live p.state) k.procs) ≡ 0 → ended schedule n k ≡ Some Done
is_done schedule n k none = ap (λ (b : Bool). by_these b (length (ready k) == 0) (nat_lt n schedule.max_turns)) (over_counted k.procs ∙ eq-eqb (length (filter (λ p. is_live p.state) k.procs)) 0 none)

pub is_stuck : (schedule : Schedule) (n : ℕ) (k : Kernel) → (length (filter (λ p. is_live p.state) k.procs) ≡ 0 → ⊥) → (length (ready k) == 0) ≡ true → ended schedule n k ≡ Some Stuck
is_stuck schedule n k some none = λ i. by_these ((over_counted k.procs ∙ ne_eqb (length (filter (λ p. is_live p.state) k.procs)) 0 some) i) (none i) (nat_lt n schedule.max_turns)

pub is_spent : (schedule : Schedule) (n : ℕ) (k : Kernel) → (length (filter (λ p. is_live p.state) k.procs) ≡ 0 → ⊥) → (length (ready k) == 0) ≡ false → schedule.max_turns ≤ n → ended schedule n k ≡ Some Spent
is_spent schedule n k some one over = λ i. by_these ((over_counted k.procs ∙ ne_eqb (length (filter (λ p. is_live p.state) k.procs)) 0 some) i) (one i) (le-ltb n schedule.max_turns over i)

pub goes_on : (schedule : Schedule) (n : ℕ) (k : Kernel) → (length (filter (λ p. is_live p.state) k.procs) ≡ 0 → ⊥) → (length (ready k) == 0) ≡ false → n < schedule.max_turns → ended schedule n k ≡ None
goes_on schedule n k some one more = λ i. by_these ((over_counted k.procs ∙ ne_eqb (length (filter (λ p. is_live p.state) k.procs)) 0 some) i) (one i) (lt-ltb n schedule.max_turns more i)

-- ---- who has the next turn

-- who is ready is there
found : (k : Kernel) (procs : List Process) (pid : ℕ) → Has pid (ready_in k procs) → (p : Process) × (process procs pid ≡ Some p)
found k [] pid has = absurd has
found k (q ∷ procs) pid has = by (eqb q.pid pid) (is_ready k q) refl has (found k procs pid)
  where
    by : (c b : Bool) → eqb q.pid pid ≡ c → Has pid (cond b (q.pid ∷ ready_in k procs) (ready_in k procs)) → (Has pid (ready_in k procs) → (p : Process) × (process procs pid ≡ Some p)) → (p : Process) × (cond c (Some q) (process procs pid) ≡ Some p)
    by true b e has more = (q, refl)
    by false true e (inl same) more = let own : eqb q.pid pid ≡ true = eq-eqb q.pid pid (sym same) in cc (own, e)
    by false true e (inr has) more = more has
    by false false e has more = more has

-- the process whose pid is chosen, where one is ready
pub whose_is : (schedule : Schedule) (n : ℕ) (k : Kernel) (pid : ℕ) (pids : List ℕ) → pids ≡ ready k → (length pids == 0) ≡ false → pid ≡ slice_index pids (slice_index schedule.turns (n % length schedule.turns) % length pids) → HasTurn schedule n k pid
whose_is schedule n k pid [] e some is = cc some
whose_is schedule n k pid (first ∷ pids) e some is =
    let i : ℕ = slice_index schedule.turns (n % length schedule.turns) % length (first ∷ pids) in
    let within : i < length (first ∷ pids) = mod-lt (slice_index schedule.turns (n % length schedule.turns)) {m = length (first ∷ pids)} (omega arith) in
    let has : Has pid (ready k) = subst (Has pid) e (subst (λ (q : ℕ). Has q (first ∷ pids)) (sym is) (has_index (first ∷ pids) i within)) in
    let there = found k k.procs pid has in
    let before : suc n - 1 ≡ n = omega arith in
    let turn : whose schedule (suc n) k.procs (first ∷ pids) ≡ Some there.0 =
    ap (λ (m : ℕ). process k.procs (slice_index (first ∷ pids) (slice_index schedule.turns (m % length schedule.turns) % length (first ∷ pids)))) before ∙ ap (process k.procs) (sym is) ∙ there.1
    in
    record { p = there.0; there = there.1; turn = ap (whose schedule (suc n) k.procs) (sym e) ∙ turn }

-- how many are ready, by the list of their pids
pub same_length : (items : List Pid) → length (map (λ (pid : Pid). pid.0) items) ≡ length items
same_length [] = refl
same_length (pid ∷ items) = ap suc (same_length items)

pub none_mapped : (items : List Pid) (pids : List ℕ) (n : ℕ) (b : Bool) → map (λ pid. pid.0) items ≡ pids → length items ≡ n → (n == 0) ≡ b → (length pids == 0) ≡ b
none_mapped items pids n b e size is = ap (λ (l : List ℕ). length l == 0) (sym e) ∙ ap (λ (m : ℕ). m == 0) (same_length items ∙ size) ∙ is
