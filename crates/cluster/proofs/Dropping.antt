-- A space is dropped once all logs are drained.
use Rattle.std.proofs.Common.{◌≡◌, ◌+◌, ◌-◌, ◌<◌, ◌||◌, [], ◌∷◌, ◌++◌, ◌∙◌, ◌≢◌, ℕ, Bool, List, None, ap, append_assoc, arith, eqb, false, refl, suc, sym, true, zero}
use Rattle.std.proofs.lemmas.Bool.{eq-eqb}
use Rattle.lego_base.specs.Keys.{is_of, without}
use Rattle.lego_base.specs.declared.ids.Pid.{Pid}
use Rattle.lego_base.specs.declared.records.HomeEntry.{HomeEntry}
use Rattle.lego_msg.specs.Maps.{home_key}
use Rattle.lego_msg.specs.Plain.{Plain, without_space}
use Rattle.lego_msg.specs.Track.{Caches}
use Rattle.lego_msg.specs.declared.operation.Operation.{Operation}
use Rattle.lego_msg.specs.declared.operation.Operation.TheVariants.{Drains, Drops}
use Rattle.lego_msg.specs.declared.place.Place.{Place}
use Rattle.cluster.specs.Dropping.{drains_from, drops_of}
use Rattle.cluster.specs.Logs.{is_in}
use Rattle.cluster.specs.Sequences.{FitAll, FitEach, ReadNoLine, all_free, effects, owners_after_all}

-- ---- the list, made from its front

one_less : (all done : ℕ) → done < all → all - done ≡ suc (all - (done + 1))
one_less all done less = omega (arith, less)

pub drains_more : (pid : Pid) (all done : ℕ) (sent new whole : List Operation) → done < all → sent ++ drains_from (all - done) done (Drops pid ∷ []) ≡ whole →
    new ≡ sent ++ Drains (record { 0 = done }) ∷ [] → new ++ drains_from (all - (done + 1)) (done + 1) (Drops pid ∷ []) ≡ whole
drains_more pid all done sent new whole less so is =
    let rest : List Operation = drains_from (all - (done + 1)) (done + 1) (Drops pid ∷ []) in
    ap (λ (l : List Operation). l ++ rest) is ∙ append_assoc sent (Drains (record { 0 = done }) ∷ []) rest
    ∙ ap (λ (n : ℕ). sent ++ drains_from n done (Drops pid ∷ [])) (sym (one_less all done less)) ∙ so

-- ---- what is owed of it: a log is drained for each memory before the space goes

one_more : (j k : ℕ) (drained : List ℕ) → ((i : ℕ) → i < k → is_in i drained ≡ true) → j < k + 1 → is_in j (k ∷ drained) ≡ true
one_more j k drained known below = by (eqb k j) refl
  where
    by : (b : Bool) → eqb k j ≡ b → (b || is_in j drained) ≡ true
    by true e = refl
    by false e = known j (apart e)
      where
        apart : eqb k j ≡ false → j < k
        apart e = omega (arith, below, differ)
          where
            differ : k ≢ j
            differ same = let both : true ≡ false = sym (eq-eqb k j same) ∙ e in cc both

drains_fit : (n k m : ℕ) (owners : List HomeEntry) (f : Plain) (drained : List ℕ) (pid : Pid) → n + k ≡ m → ((j : ℕ) → j < k → is_in j drained ≡ true) → FitAll m owners f drained (drains_from n k (Drops pid ∷ []))
drains_fit zero k m owners f drained pid all known = (tt, tt, tt, λ j below. known j (omega (arith, all, below)), tt)
drains_fit (suc n) k m owners f drained pid all known =
    (tt, omega (arith, all), tt, tt, drains_fit n (k + 1) m owners f (k ∷ drained) pid (omega (arith, all)) (λ j below. one_more j k drained known below))

pub drops_fit : (m : ℕ) (owners : List HomeEntry) (f : Plain) (pid : Pid) → FitAll m owners f [] (drops_of m pid)
drops_fit m owners f pid = drains_fit m 0 m owners f [] pid (omega arith) (λ j below. absurd (omega (arith, below)))

drains_cached : (n k : ℕ) (pid : Pid) (by : Place) (caches : Caches) → FitEach caches by (drains_from n k (Drops pid ∷ []))
drains_cached zero k pid by caches = (tt, tt)
drains_cached (suc n) k pid by caches = (tt, drains_cached n (k + 1) pid by (record caches { filled = None }))

pub drops_caches : (m : ℕ) (pid : Pid) (by : Place) (caches : Caches) → FitEach caches by (drops_of m pid)
drops_caches m pid by caches = drains_cached m 0 pid by caches

drains_line : (n k : ℕ) (pid : Pid) → ReadNoLine (drains_from n k (Drops pid ∷ []))
drains_line zero k pid = (tt, tt)
drains_line (suc n) k pid = (tt, drains_line n (k + 1) pid)

pub drops_lines : (m : ℕ) (pid : Pid) → ReadNoLine (drops_of m pid)
drops_lines m pid = drains_line m 0 pid

-- ---- what it leaves: drains change nothing of the plain map and of owners

drains_leave : (n k : ℕ) (pid : Pid) (f : Plain) → effects (drains_from n k (Drops pid ∷ [])) f ≡ without_space pid.0 f
drains_leave zero k pid f = refl
drains_leave (suc n) k pid f = drains_leave n (k + 1) pid f

pub drops_leave : (m : ℕ) (pid : Pid) (f : Plain) → effects (drops_of m pid) f ≡ without_space pid.0 f
drops_leave m pid f = drains_leave m 0 pid f

drains_end : (n k : ℕ) (pid : Pid) (owners : List HomeEntry) → owners_after_all (all_free (drains_from n k (Drops pid ∷ []))) owners ≡ without home_key (is_of pid.0) owners
drains_end zero k pid owners = refl
drains_end (suc n) k pid owners = drains_end n (k + 1) pid owners

pub drops_end : (m : ℕ) (pid : Pid) (owners : List HomeEntry) → owners_after_all (all_free (drops_of m pid)) owners ≡ without home_key (is_of pid.0) owners
drops_end m pid owners = drains_end m 0 pid owners
