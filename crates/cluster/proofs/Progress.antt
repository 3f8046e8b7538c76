-- How far a call of several operations is, and how it ends from there.
use Rattle.std.proofs.Common.{◌≡◌, ◌∙◌, [], ◌∷◌, ◌++◌, ℕ, Err, List, None, Ok, Option, Result, Some, ap, refl, subst, sym}
use Rattle.lego_base.specs.declared.stops.Halt.{Halt}
use Rattle.lego_msg.specs.Plain.{Plain}
use Rattle.lego_msg.specs.declared.body.Body.{Body}
use Rattle.lego_msg.specs.declared.event.Event.{Event}
use Rattle.lego_msg.specs.declared.operation.Operation.{Operation}
use Rattle.lego_msg.specs.declared.place.Place.{Place}
use Rattle.placement.specs.Owners.{Owned}
use Rattle.protocol_engine.specs.Beyond.{Beyond}
use Rattle.cluster.specs.Calls.{Calls, CallsWith, served}
use Rattle.cluster.specs.Sequences.{AllGranted, AreGrantedAt, Asking, CachesFit, CallsAll, CallsEach, MayAskAll, MayAskEach, ReadsNoLine, ServesEach, all_free, all_served, effects, effects_of, free, served_each}
use Rattle.cluster.specs.Standing.{MayAsk, MayAskWith}
use Rattle.cluster.specs.Whole.{SameTurns, Whole, or_out_of_memory}
use Rattle.cluster.proofs.Calling.{error_of, not_kept}
use Rattle.cluster.proofs.Following.{all_free-append, brings_none, caches_back, granted_back, granted_front, halts_then, lacks_then, longer_halts, none_serves, one_granted, one_halts, one_serves, served-append, serves_then, turns_on}
use Rattle.lego_base.specs.declared.stops.Halt.TheVariants as halt

-- some operations are complete, and no halt is kept
pub record SoFar (table : Owned) {W : Type 0} (told : W → Option (List Event)) (faults : W → ℕ) (w w' : W) (c d : Whole) (by : Place) (xs : List Asking) : Type 0 where
  pub serves : ServesEach told faults w w' c d by xs (served_each by xs)
  pub turns : SameTurns table d.table
  pub before : c.halt ≡ None
  pub now : d.halt ≡ None

no_error : {X : Type 0} (x : X) (h : Halt) → Ok x ≡ Err h → ⊥
no_error x h e = cc e

pub same_halt : (a b : Halt) → Some a ≡ Some b → a ≡ b
same_halt a b e = ap (λ (o : Option Halt). or_else a o) e
  where
    or_else : Halt → Option Halt → Halt
    or_else x None = x
    or_else x (Some y) = y

module _ {W : Type 0} (told : W → Option (List Event)) (faults : W → ℕ) where
  -- a halt that is kept is given again
  pub all_kept : {X : Type 0} (table : Owned) (w : W) (c : Whole) (by : Place) (xs : List Asking) (beyond : X → Beyond → Beyond) (h : Halt) → c.halt ≡ Some h → CallsEach table told faults w w c c by xs beyond (Err h)
  all_kept table w c by xs beyond h is = record {
    serves = tt;
    turns = tt;
    halted = λ none. absurd (not_kept c.halt h none is);
    kept = λ k at. (ap (λ (x : Halt). Err x) (same_halt h k (sym is ∙ at)), at, refl);
    keeps = is;
    goes = tt;
  }

  -- the first operation halts
  pub first_halts : {X Y : Type 0} (table : Owned) (w w' : W) (c d : Whole) (by : Place) (a : Asking) (ys : List Asking) (body : X → Body) (beyond : Y → Beyond → Beyond) (h : Halt) → CallsWith a.owners table told faults w w' c d by a.operation body (Err h) → CallsEach table told faults w w' c d by (a ∷ ys) beyond (Err h)
  first_halts table w w' c d by a ys body beyond h calls = record {
    serves = tt;
    turns = tt;
    halted = one_halts told faults w w' c by a ys h calls.halted;
    kept = λ k is. (ap (λ (r : Result _ Halt). Err (error_of h r)) (calls.kept k is).0, (calls.kept k is).1, (calls.kept k is).2);
    keeps = calls.keeps;
    goes = tt;
  }

  pub starts : (w : W) (c : Whole) (by : Place) → c.halt ≡ None → SoFar c.table told faults w w c c by []
  starts w c by none = record { serves = none_serves told faults w c by; turns = record { memories = refl; placement = refl; given = refl }; before = none; now = none }

  -- the first operation is complete
  pub first_ends : {X : Type 0} (table : Owned) (w w' : W) (c d : Whole) (by : Place) (a : Asking) (body : X → Body) (x : X) → ReadsNoLine a.operation → CallsWith a.owners table told faults w w' c d by a.operation body (Ok x) → SoFar table told faults w w' c d by (a ∷ [])
  first_ends table w w' c d by a body x none calls = record {
    serves = one_serves told faults w w' c d by a (body x) (served_each by (a ∷ [])) (brings_none by a.operation (body x) none) calls.serves;
    turns = calls.turns;
    before = calls.goes.0;
    now = calls.goes.1;
  }

  -- what is owed of the first
  pub may_first : (c : Whole) (by : Place) (a : Asking) (ys : List Asking) → MayAskEach c by (a ∷ ys) → MayAskWith a.owners c by a.operation
  may_first c by a ys may = record { plain = may.plain; caches = may.caches; granted = one_granted told faults c may.plain by a ys may.granted; fits = may.fits.0 }

  -- a front of them halts
  pub front_halts : {X Y : Type 0} (table end : Owned) (w w' : W) (c d : Whole) (by : Place) (xs ys : List Asking) (these : X → Beyond → Beyond) (beyond : Y → Beyond → Beyond) (h : Halt) → CallsEach table told faults w w' c d by xs these (Err h) → CallsEach end told faults w w' c d by (xs ++ ys) beyond (Err h)
  front_halts table end w w' c d by xs ys these beyond h calls = record {
    serves = tt;
    turns = tt;
    halted = longer_halts told faults w w' c by xs ys h calls.halted;
    kept = λ k is. (ap (λ (r : Result _ Halt). Err (error_of h r)) (calls.kept k is).0, (calls.kept k is).1, (calls.kept k is).2);
    keeps = calls.keeps;
    goes = tt;
  }

  -- how it ended is handed on
  pub hands_halt : {X Y : Type 0} (table end : Owned) (w w' : W) (c d : Whole) (by : Place) (xs : List Asking) (these : X → Beyond → Beyond) (beyond : Y → Beyond → Beyond) (h : Halt) → CallsEach table told faults w w' c d by xs these (Err h) → CallsEach end told faults w w' c d by xs beyond (Err h)
  hands_halt table end w w' c d by xs these beyond h calls = record {
    serves = tt;
    turns = tt;
    halted = calls.halted;
    kept = λ k is. (ap (λ (r : Result _ Halt). Err (error_of h r)) (calls.kept k is).0, (calls.kept k is).1, (calls.kept k is).2);
    keeps = calls.keeps;
    goes = tt;
  }

  pub hands_end : {X Y : Type 0} (table : Owned) (w w' : W) (c d : Whole) (by : Place) (xs : List Asking) (these : X → Beyond → Beyond) (beyond : Y → Beyond → Beyond) (x : X) (y : Y) → ((g : Beyond) → these x g ≡ beyond y g) → CallsEach table told faults w w' c d by xs these (Ok x) → CallsEach table told faults w w' c d by xs beyond (Ok y)
  hands_end table w w' c d by xs these beyond x y same calls = record {
    serves =
        let to : ◌≡◌ {A = Beyond → Beyond} (these x) (beyond y) = λ i g. same g i in
        subst (ServesEach told faults w w' c d by xs) to calls.serves;
    turns = calls.turns;
    halted = tt;
    kept = λ k is. absurd (not_kept c.halt k calls.goes.0 is);
    keeps = tt;
    goes = calls.goes;
  }

  module _ (table : Owned) (w w' : W) (c d : Whole) (by : Place) (xs : List Asking) (so : SoFar table told faults w w' c d by xs) where
    -- another is complete, which may bring owners
    pub brings_on : {X : Type 0} (later : Owned) (w'' : W) (e : Whole) (a : Asking) (body : X → Body) (x : X) → ReadsNoLine a.operation → CallsWith a.owners later told faults w' w'' d e by a.operation body (Ok x) → SoFar later told faults w w'' c e by (xs ++ a ∷ [])
    brings_on later w'' e a body x none calls = record {
      serves =
          let same : ◌≡◌ {A = Beyond → Beyond} (λ g. served_each by (a ∷ []) (served_each by xs g)) (served_each by (xs ++ a ∷ [])) = λ i g. sym (served-append by xs (a ∷ []) g) i in
          subst (ServesEach told faults w w'' c e by (xs ++ a ∷ [])) same
          (serves_then told faults w w' c d by xs (a ∷ []) so.serves w'' e (served_each by (a ∷ []))
          (one_serves told faults w' w'' d e by a (body x) (served_each by (a ∷ [])) (brings_none by a.operation (body x) none) calls.serves));
      turns = calls.turns;
      before = so.before;
      now = calls.goes.1;
    }

    -- or brings none
    pub goes_on : {X : Type 0} (w'' : W) (e : Whole) (o : Operation) (body : X → Body) (x : X) → ReadsNoLine o → Calls told faults w' w'' d e by o body (Ok x) → SoFar table told faults w w'' c e by (xs ++ free o ∷ [])
    goes_on w'' e o body x none calls =
        let on = brings_on d.table w'' e (free o) body x none calls in
        record { serves = on.serves; turns = turns_on table d.table e.table so.turns on.turns; before = on.before; now = on.now }

    -- it halts
    pub then_halts : {X Y : Type 0} (whose end : Owned) (w'' : W) (e : Whole) (a : Asking) (ys : List Asking) (body : X → Body) (beyond : Y → Beyond → Beyond) (h : Halt) → CallsWith a.owners whose told faults w' w'' d e by a.operation body (Err h) → CallsEach end told faults w w'' c e by (xs ++ a ∷ ys) beyond (Err h)
    then_halts whose end w'' e a ys body beyond h calls = record {
      serves = tt;
      turns = tt;
      halted = halts_then told faults w w' c d by xs (a ∷ ys) so.serves w'' h so.now (one_halts told faults w' w'' d by a ys h calls.halted);
      kept = λ k is. absurd (not_kept c.halt k so.before is);
      keeps = calls.keeps;
      goes = tt;
    }

    -- memory runs out
    pub then_lacks : {Y : Type 0} (end : Owned) (e : Whole) (ys : List Asking) (beyond : Y → Beyond → Beyond) → e.halt ≡ or_out_of_memory d.halt → CallsEach end told faults w w' c e by (xs ++ ys) beyond (Err halt.NoMemory)
    then_lacks end e ys beyond is = record {
      serves = tt;
      turns = tt;
      halted = lacks_then told faults w w' c d by xs ys so.serves;
      kept = λ k at. absurd (not_kept c.halt k so.before at);
      keeps = is ∙ ap or_out_of_memory so.now;
      goes = tt;
    }

    -- the last one is complete
    pub then_ends : {X Y : Type 0} (w'' : W) (e : Whole) (o : Operation) (body : X → Body) (x : X) (beyond : Y → Beyond → Beyond) (y : Y) → ((g : Beyond) → served by o (body x) (served_each by xs g) ≡ beyond y g) → Calls told faults w' w'' d e by o body (Ok x) → CallsEach table told faults w w'' c e by (xs ++ free o ∷ []) beyond (Ok y)
    then_ends w'' e o body x beyond y same calls = record {
      serves =
          let to : ◌≡◌ {A = Beyond → Beyond} (λ g. served by o (body x) (served_each by xs g)) (beyond y) = λ i g. same g i in
          subst (ServesEach told faults w w'' c e by (xs ++ free o ∷ [])) to
          (serves_then told faults w w' c d by xs (free o ∷ []) so.serves w'' e (served by o (body x))
          (one_serves told faults w' w'' d e by (free o) (body x) (served by o (body x)) (λ g. refl) calls.serves));
      turns = turns_on table d.table e.table so.turns calls.turns;
      halted = tt;
      kept = λ k is. absurd (not_kept c.halt k so.before is);
      keeps = tt;
      goes = (so.before, calls.goes.1);
    }

    -- there are no more
    pub ends_here : {Y : Type 0} (beyond : Y → Beyond → Beyond) (y : Y) → ((g : Beyond) → served_each by xs g ≡ beyond y g) → CallsEach table told faults w w' c d by xs beyond (Ok y)
    ends_here beyond y same = record {
      serves =
          let to : ◌≡◌ {A = Beyond → Beyond} (served_each by xs) (beyond y) = λ i g. same g i in
          subst (ServesEach told faults w w' c d by xs) to so.serves;
      turns = so.turns;
      halted = tt;
      kept = λ k is. absurd (not_kept c.halt k so.before is);
      keeps = tt;
      goes = (so.before, so.now);
    }

    -- OTHERS come after them
    pub all_halt : {X Y : Type 0} (whose end : Owned) (w'' : W) (e : Whole) (ys : List Asking) (these : X → Beyond → Beyond) (beyond : Y → Beyond → Beyond) (h : Halt) → CallsEach whose told faults w' w'' d e by ys these (Err h) → CallsEach end told faults w w'' c e by (xs ++ ys) beyond (Err h)
    all_halt whose end w'' e ys these beyond h calls = record {
      serves = tt;
      turns = tt;
      halted = halts_then told faults w w' c d by xs ys so.serves w'' h so.now calls.halted;
      kept = λ k is. absurd (not_kept c.halt k so.before is);
      keeps = calls.keeps;
      goes = tt;
    }

    pub all_end : {X : Type 0} (whose : Owned) (w'' : W) (e : Whole) (ys : List Asking) (x : X) → CallsEach whose told faults w' w'' d e by ys (λ (y : X). served_each by ys) (Ok x) → SoFar whose told faults w w'' c e by (xs ++ ys)
    all_end whose w'' e ys x calls = record {
      serves =
          let same : ◌≡◌ {A = Beyond → Beyond} (λ g. served_each by ys (served_each by xs g)) (served_each by (xs ++ ys)) = λ i g. sym (served-append by xs ys g) i in
          subst (ServesEach told faults w w'' c e by (xs ++ ys)) same (serves_then told faults w w' c d by xs ys so.serves w'' e (served_each by ys) calls.serves);
      turns = calls.turns;
      before = so.before;
      now = calls.goes.1;
    }

    pub all_go_on : {X : Type 0} (w'' : W) (e : Whole) (ys : List Asking) (x : X) → CallsEach d.table told faults w' w'' d e by ys (λ (y : X). served_each by ys) (Ok x) → SoFar table told faults w w'' c e by (xs ++ ys)
    all_go_on w'' e ys x calls =
        let on = all_end d.table w'' e ys x calls in
        record { serves = on.serves; turns = turns_on table d.table e.table so.turns on.turns; before = on.before; now = on.now }

    pub may_after : (ys : List Asking) → MayAskEach c by (xs ++ ys) → MayAskEach d by ys
    may_after ys may = record {
      plain = effects_of xs may.plain;
      caches = (served_each by xs (record { plain = may.plain; caches = may.caches; due = [] })).caches;
      granted = granted_back told faults w w' c d by xs ys so.serves may.plain may.granted;
      fits = caches_back by xs ys (record { plain = may.plain; caches = may.caches; due = [] }) may.fits;
    }

-- OPERATIONS THAT BRING NO OWNERS, of a longer list of them
module _ {W : Type 0} (told : W → Option (List Event)) (faults : W → ℕ) (w w' : W) (c d : Whole) (by : Place) (xs : List Operation) (so : SoFar c.table told faults w w' c d by (all_free xs)) where
  pub free_goes_on : {X : Type 0} (w'' : W) (e : Whole) (o : Operation) (body : X → Body) (x : X) → ReadsNoLine o → Calls told faults w' w'' d e by o body (Ok x) → SoFar c.table told faults w w'' c e by (all_free (xs ++ o ∷ []))
  free_goes_on w'' e o body x none calls = subst (SoFar c.table told faults w w'' c e by) (sym (all_free-append xs (o ∷ [])))
      (goes_on told faults c.table w w' c d by (all_free xs) so w'' e o body x none calls)

  pub halts_in : {X Y : Type 0} (w'' : W) (e : Whole) (o : Operation) (ys all : List Operation) (body : X → Body) (h : Halt) → xs ++ o ∷ ys ≡ all → Calls told faults w' w'' d e by o body (Err h) → CallsAll told faults w w'' c e by all (λ (y : Y). all_served by all) (Err h)
  halts_in {X} {Y} w'' e o ys all body h is calls = subst (λ (l : List Asking). CallsEach c.table {X = Y} told faults w w'' c e by l (λ (y : Y). served_each by l) (Err h)) (sym (all_free-append xs (o ∷ ys)) ∙ ap all_free is)
      (then_halts told faults c.table w w' c d by (all_free xs) so d.table c.table w'' e (free o) (all_free ys) body (λ (y : Y). served_each by (all_free xs ++ free o ∷ all_free ys)) h calls)

  pub lacks_in : {Y : Type 0} (e : Whole) (ys all : List Operation) → xs ++ ys ≡ all → e ≡ record d { halt = or_out_of_memory d.halt } → CallsAll told faults w w' c e by all (λ (y : Y). all_served by all) (Err halt.NoMemory)
  lacks_in {Y} e ys all is lacks = subst (λ (l : List Asking). CallsEach c.table {X = Y} told faults w w' c e by l (λ (y : Y). served_each by l) (Err halt.NoMemory)) (sym (all_free-append xs ys) ∙ ap all_free is)
      (then_lacks told faults c.table w w' c d by (all_free xs) so c.table e (all_free ys) (λ (y : Y). served_each by (all_free xs ++ all_free ys)) (ap (λ (x : Whole). x.halt) lacks))

  pub free_front : (f : Plain) (ys : List Operation) → AreGrantedAt c f by (xs ++ ys) → AreGrantedAt c f by xs
  free_front f ys at = granted_front told faults w w' c d by (all_free xs) (all_free ys) so.serves f (subst (AllGranted c f by) (all_free-append xs ys) at)

  pub free_back : (f : Plain) (ys : List Operation) → AreGrantedAt c f by (xs ++ ys) → AreGrantedAt d (effects xs f) by ys
  free_back f ys at = granted_back told faults w w' c d by (all_free xs) (all_free ys) so.serves f (subst (AllGranted c f by) (all_free-append xs ys) at)

  -- the next may be asked for
  pub may_next : (o : Operation) (ys : List Operation) → MayAskAll c by (xs ++ o ∷ ys) → MayAsk d by o
  may_next o ys may = record {
    plain = effects xs may.plain;
    caches = (all_served by xs (record { plain = may.plain; caches = may.caches; due = [] })).caches;
    granted = one_granted told faults d (effects xs may.plain) by (free o) (all_free ys) (free_back may.plain (o ∷ ys) may.granted);
    fits = (caches_back by (all_free xs) (free o ∷ all_free ys) (record { plain = may.plain; caches = may.caches; due = [] }) (subst (CachesFit may.caches by) (all_free-append xs (o ∷ ys)) may.fits)).0;
  }
