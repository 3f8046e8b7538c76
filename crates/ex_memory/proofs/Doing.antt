-- Marks that are gone over, one way and then another.
use Rattle.std.proofs.Common.{◌≡◌, ◌∙◌, [], ◌++◌, ℕ, List, None, Option, Result, Some, ap, refl, subst, sym}
use Rattle.lego_base.specs.declared.stops.Halt.{Halt}
use Rattle.lego_msg.proofs.Going.{stays, went-then, went_halted}
use Rattle.lego_msg.specs.Marks.{Mark}
use Rattle.lego_msg.specs.Track.{Track}
use Rattle.lego_msg.specs.Went.{Halted, Went}
use Rattle.lego_msg.specs.declared.event.Event.{Event}
use Rattle.linux_model.proofs.Holding.{after-append}
use Rattle.linux_model.specs.Effects.{Effect}
use Rattle.linux_model.specs.Held.{held_after_all}
use Rattle.split_script.specs.Now.{Now}
use Rattle.split_script.specs.Script.{all_passed, script}
use Rattle.split_script.proofs.Joins.{passed-append, script-append}
use Rattle.ex_memory.specs.Did.{Did, Does, Goes, Halts, Is}
use Rattle.ex_memory.specs.Seen.{held_of, world}
use Rattle.ex_memory.specs.Split.{Split}

module _ {W : Type 0} (told : W → Option (List Event)) (faults : W → ℕ) where
  pub goes_nowhere : (w : W) (m : Split) → Goes told faults w w m m (λ n rest. rest) (λ n. n)
  goes_nowhere w m = record { went = λ n is rest. stays told faults w (world m rest); is_then = λ n is. is }

  module _ (w w' w'' : W) (m m' m'' : Split) (marks more : Now → List Mark → List Mark) (passes passes' : Now → Now) where
    pub goes_then : Goes told faults w w' m m' marks passes → Goes told faults w' w'' m' m'' more passes' → Goes told faults w w'' m m'' (λ n rest. marks n (more (passes n) rest)) (λ n. passes' (passes n))
    goes_then g h = record {
      went = λ n is rest. went-then told faults w w' w'' (world m (marks n (more (passes n) rest))) (world m' (more (passes n) rest)) (world m'' rest)
          (g.went n is (more (passes n) rest)) (h.went (passes n) (g.is_then n is) rest);
      is_then = λ n is. h.is_then (passes n) (g.is_then n is);
    }

  module _ (w w' w'' : W) (m m' : Split) (marks more : Now → List Mark → List Mark) (passes : Now → Now) (halt : Halt) where
    pub goes_halts : Goes told faults w w' m m' marks passes → Halts told faults w' w'' m' more halt → Halts told faults w w'' m (λ n rest. marks n (more (passes n) rest)) halt
    goes_halts g h = λ n is rest. went_halted told faults w w' w'' halt (world m (marks n (more (passes n) rest))) (world m' (more (passes n) rest))
        (g.went n is (more (passes n) rest)) (h (passes n) (g.is_then n is) rest)

  -- marks that more follow
  pub halts_front : (w w' : W) (m : Split) (marks : Now → List Mark → List Mark) (more : Now → List Mark → List Mark) (halt : Halt) → Halts told faults w w' m marks halt → Halts told faults w w' m (λ n rest. marks n (more n rest)) halt
  halts_front w w' m marks more halt h = λ n is rest. h n is (more n rest)

  -- EFFECTS
  pub did_none : (w : W) (m : Split) → Did told faults w w m m []
  did_none w m = (record { went = λ n is rest. stays told faults w (world m rest); is_then = λ n is. is }, refl)

  module _ (w w' w'' : W) (m m' m'' : Split) (es fs : List Effect) where
    pub did_then : Did told faults w w' m m' es → Did told faults w' w'' m' m'' fs → Did told faults w w'' m m'' (es ++ fs)
    did_then (g, led) (h, led') = (
      record {
        went = λ n is rest.
            let way = went-then told faults w w' w'' (world m (script n es (script (all_passed n es) fs rest))) (world m' (script (all_passed n es) fs rest)) (world m'' rest)
            (g.went n is (script (all_passed n es) fs rest)) (h.went (all_passed n es) (g.is_then n is) rest) in
            subst (λ (due : List Mark). Went told faults w w'' (world m due) (world m'' rest)) (sym (script-append n es fs rest)) way;
        is_then = λ n is. subst (λ (k : Now). Is k m'') (sym (passed-append n es fs)) (h.is_then (all_passed n es) (g.is_then n is));
      },
      led' ∙ ap (held_after_all fs) led ∙ sym (after-append es fs (held_of m)),
    )

  module _ (w w' w'' : W) (m m' : Split) (es fs : List Effect) (halt : Halt) where
    pub did_halts : Did told faults w w' m m' es → Halts told faults w' w'' m' (λ n. script n fs) halt → Halts told faults w w'' m (λ n. script n (es ++ fs)) halt
    did_halts (g, led) h = λ n is rest.
        let way = went_halted told faults w w' w'' halt (world m (script n es (script (all_passed n es) fs rest))) (world m' (script (all_passed n es) fs rest))
        (g.went n is (script (all_passed n es) fs rest)) (h (all_passed n es) (g.is_then n is) rest) in
        subst (λ (due : List Mark). Halted told faults w w'' halt (world m due)) (sym (script-append n es fs rest)) way

  -- effects that would have followed
  pub halts_before : (w w' : W) (m : Split) (es fs : List Effect) (halt : Halt) → Halts told faults w w' m (λ n. script n es) halt → Halts told faults w w' m (λ n. script n (es ++ fs)) halt
  halts_before w w' m es fs halt h = λ n is rest.
      subst (λ (due : List Mark). Halted told faults w w' halt (world m due)) (sym (script-append n es fs rest)) (h n is (script (all_passed n es) fs rest))

-- what is the same before
pub does_at : {W X : Type 0} (told : W → Option (List Event)) (faults : W → ℕ) (w w' : W) (m k m' : Split) (es : List Effect) (result : Result X Halt) → m ≡ k → Does told faults w w' m m' es result → Does told faults w w' k m' es result
does_at told faults w w' m k m' es result same does = subst (λ (x : Split). Does told faults w w' x m' es result) same does
