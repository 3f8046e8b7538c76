-- What one event leaves, and what holds along a way.
use Rattle.std.proofs.Common.{◌≡◌, ◌<◌, ◌≤◌, ◌∙◌, ◌&&◌, ◌||◌, ◌==◌, [], ◌∷◌, ◌++◌, ℕ, Bool, List, None, Option, Some, ap, arith, false, is_some, length, not, refl, subst, sym, true}
use Rattle.std.specs.Prelude.{IfSome}
use Rattle.lego_base.specs.declared.shape.CrashAt.{CrashAt}
use Rattle.lego_msg.proofs.Lists.{Legal-append, run-append}
use Rattle.lego_msg.specs.Crashes.{is_crash_moment, is_idle}
use Rattle.lego_msg.specs.Deliveries.{is_waiting}
use Rattle.lego_msg.specs.Legal.{Legal}
use Rattle.lego_msg.specs.Marks.{is_turn_end}
use Rattle.lego_msg.specs.Run.{run}
use Rattle.lego_msg.specs.State.{Mem}
use Rattle.lego_msg.specs.Track.{Track, healing_move, is_any_done, is_calm, is_complete, is_crash_due, is_crash_left, is_done, is_now, is_of_turn}
use Rattle.lego_msg.specs.Went.{Came, Went}
use Rattle.lego_msg.specs.declared.clock.Clock.{Clock}
use Rattle.lego_msg.specs.declared.event.Event.{Event}
use Rattle.lego_msg.specs.declared.healing.Healing.{Healing}
use Rattle.lego_msg.specs.declared.operation.Open.{Open}
use Rattle.lego_waits.proofs.Waits.{each-event-lowers}
use Rattle.lego_waits.specs.Laws.{AreInPlace, is_busy, is_still}
use Rattle.lego_waits.specs.Measure.{load}
use Rattle.healing_laws.specs.Playing.{EntryFits, IsPlayable}
use Rattle.protocol_engine.specs.Sound.{Sound, WasOpen}
use Rattle.protocol_engine.specs.Later.{BetweenMoves, Completes, HasEntry, HasUnsent, called_by, called_in}
use Rattle.protocol_engine.specs.Steps.{IsStep}
use Rattle.protocol_engine.specs.Tracks.{Beyond, SameMachine, beyond_with, track_of}
use Rattle.protocol_engine.specs.declared.engine.Engine.{Engine}
use Rattle.protocol_engine.specs.declared.step.Step.{Step}
use Rattle.protocol_engine.specs.declared.step.Step.TheVariants.{BeginMove, Complete, CompleteMove, Crash, Deliver, SendOwed, SendUnsent}

or_true : (a b : Bool) → b ≡ true → (a || b) ≡ true
or_true true b e = refl
or_true false b e = e

-- a crash that is due comes at its moment, and is of a memory that is there
pub due_moment : (t : Track) → is_crash_due t ≡ true → is_crash_moment t ≡ true
due_moment t due = ap (λ (b : Bool). b || (is_crash_left t && is_idle t.healing t.current && is_turn_end t.due)) due

pub left_moment : (t : Track) → is_crash_left t ≡ true → t.healing ≡ None → t.current ≡ None → is_turn_end t.due ≡ true → is_crash_moment t ≡ true
left_moment t left healed closed over = or_true (is_crash_due t) (is_crash_left t && is_idle t.healing t.current && is_turn_end t.due) (λ i. left i && is_idle (healed i) (closed i) && over i)

pub has_left : (clock : Clock) (mems : List Mem) (e : Option CrashAt) → is_of_turn clock e ≡ true → EntryFits mems e → HasEntry mems e
has_left clock mems None left fits = cc left
has_left clock mems (Some e) left fits = fits

pub has_entry : (clock : Clock) (mems : List Mem) (e : Option CrashAt) → is_now clock e ≡ true → EntryFits mems e → HasEntry mems e
has_entry clock mems None now fits = cc now
has_entry clock mems (Some e) now fits = fits

-- PLAYABLE along a way
module _ {W : Type 0} (told : W → Option (List Event)) (faults : W → ℕ) (w w' : W) where
  pub playable_at : (t t' : Track) → Went told faults w w' t t' → Sound t → IsPlayable t'
  playable_at t t' went sound = subst IsPlayable went.ends (sound went.events went.legal)

  pub sound_on : (t t' : Track) → Went told faults w w' t t' → Sound t → Sound t'
  sound_on t t' went sound es legal =
      let leads : run t (went.events ++ es) ≡ run t' es = run-append t went.events es ∙ ap (λ (x : Track). run x es) went.ends in
      subst IsPlayable leads
      (sound (went.events ++ es) (Legal-append t went.events es went.legal (subst (λ (x : Track). Legal x es) (sym went.ends) legal)))

  -- what was open when it was completed
  pub opened_on : (t t' : Track) (old new : Option Open) → (old ≡ None → Went told faults w w' t t') → t'.plain ≡ t.plain → Completes old new t'.net t'.current → IfSome old (WasOpen t) → IfSome new (WasOpen t)
  opened_on t t' (Some o) new went same completes opened = subst (λ (x : Option Open). IfSome x (WasOpen t)) (sym completes) opened
  opened_on t t' None None went same completes opened = tt
  opened_on t t' None (Some o) went same completes opened =
      let way : Went told faults w w' t t' = went refl in
      record {
        events = way.events;
        legal = way.legal;
        open_ = ap (λ (x : Track). x.current) way.ends ∙ completes.0;
        complete = subst (λ (x : Track). is_complete x.net o ≡ true) (sym way.ends) completes.1;
        plain = ap (λ (x : Track). x.plain) way.ends ∙ same;
      }

  pub opened_after : (t t' : Track) (o : Option Open) → Went told faults w w' t t' → t'.plain ≡ t.plain → IfSome o (WasOpen t') → IfSome o (WasOpen t)
  opened_after t t' None way same opened = tt
  opened_after t t' (Some o) way same opened = record {
    events = way.events ++ opened.events;
    legal = Legal-append t way.events opened.events way.legal (subst (λ (x : Track). Legal x opened.events) (sym way.ends) opened.legal);
    open_ = ap (λ (x : Track). x.current) (run-append t way.events opened.events ∙ ap (λ (x : Track). run x opened.events) way.ends) ∙ opened.open_;
    complete = subst (λ (x : Track). is_complete x.net o ≡ true) (sym (run-append t way.events opened.events ∙ ap (λ (x : Track). run x opened.events) way.ends)) opened.complete;
    plain = ap (λ (x : Track). x.plain) (run-append t way.events opened.events ∙ ap (λ (x : Track). run x opened.events) way.ends) ∙ opened.plain ∙ same;
  }

  -- an event lowers the load where something is open
  pub came_lowers : (t t' : Track) → Came told faults w w' t t' → AreInPlace 0 t.mems → is_still t ≡ false → load t' < load t
  came_lowers t t' came places busy = subst (λ (x : Track). load x < load t) came.ends (each-event-lowers t came.event places busy came.may)

-- SOMETHING IS OPEN where a step comes
not_still : (t : Track) → is_busy t ≡ true → is_still t ≡ false
not_still t busy = ap (λ (b : Bool). not b && is_calm t) busy

one_of : (a b c : Bool) → a ≡ true → (a || b || c) ≡ true
one_of true true c e = refl
one_of true false c e = refl
one_of false b c e = cc e

two_of : (a b c : Bool) → b ≡ true → (a || b || c) ≡ true
two_of true true c e = refl
two_of false true c e = refl
two_of a false c e = cc e

three_of : (a b c : Bool) → c ≡ true → (a || b || c) ≡ true
three_of true true true e = refl
three_of true false true e = refl
three_of false true true e = refl
three_of false false true e = refl
three_of a b false e = cc e

some_owed : {X : Type 0} (xs : List X) → 0 < length xs → not (length xs == 0) ≡ true
some_owed [] some = absurd (omega arith)
some_owed (x ∷ xs) some = grind arith

healing_is : (pending : _) (h : Option Healing) → is_done pending (healing_move h) ≡ true → is_some h ≡ true
healing_is pending None done = cc done
healing_is pending (Some h) done = refl

current_is : (pending : _) (o : Option Open) → is_done pending o ≡ true → is_some o ≡ true
current_is pending None done = cc done
current_is pending (Some o) done = refl

between_is : (h : Option Healing) → BetweenMoves h → is_some h ≡ true
between_is None between = absurd between
between_is (Some h) between = refl

unsent_is : (o : Option Open) → HasUnsent o → is_some o ≡ true
unsent_is None unsent = absurd unsent
unsent_is (Some o) unsent = refl

busy_waiting : (a : Bool) (h : Option Healing) (o : Option Open) → is_waiting h o ≡ true → (a || is_some o || is_some h) ≡ true
busy_waiting a (Some h) o waiting = three_of a (is_some o) true refl
busy_waiting a None (Some o) waiting = two_of a true false refl
busy_waiting a None None waiting = cc waiting

due_no_calm : (a b c : Bool) → c ≡ true → (not a && not b && not c) ≡ false
due_no_calm true true true e = refl
due_no_calm true false true e = refl
due_no_calm false true true e = refl
due_no_calm false false true e = refl
due_no_calm a b false e = cc e

no_calm_still : (t : Track) → is_calm t ≡ false → is_still t ≡ false
no_calm_still t calm = by (not (is_busy t)) (is_calm t) calm
  where
    by : (a b : Bool) → b ≡ false → (a && b) ≡ false
    by true b e = e
    by false b e = refl

pub busy_at : (step : Step) (c : Engine) (g : Beyond) → IsStep step c → is_still (track_of c g) ≡ false
busy_at SendOwed c g is = not_still (track_of c g) (one_of (not (length c.owed == 0)) (is_some c.current) (is_some c.healing) (some_owed c.owed is))
busy_at CompleteMove c g is = not_still (track_of c g) (three_of (not (length c.owed == 0)) (is_some c.current) (is_some c.healing) (healing_is c.net c.healing is.1))
busy_at Complete c g is = not_still (track_of c g) (two_of (not (length c.owed == 0)) (is_some c.current) (is_some c.healing) (current_is c.net c.current is.2))
busy_at Crash c g is = no_calm_still (track_of c g) (due_no_calm false (is_any_done (track_of c g)) (is_crash_due (track_of c g)) (is.1 g).1)
busy_at BeginMove c g is = not_still (track_of c g) (three_of (not (length c.owed == 0)) (is_some c.current) (is_some c.healing) (between_is c.healing is.2))
busy_at SendUnsent c g is = not_still (track_of c g) (two_of (not (length c.owed == 0)) (is_some c.current) (is_some c.healing) (unsent_is c.current is.3))
busy_at Deliver c g is = not_still (track_of c g) (busy_waiting (not (length c.owed == 0)) c.healing c.current is.2)

-- with nothing open it is the complete one that was called for
pub called_closed : (done current : Option Open) → current ≡ None → called_in done current ≡ called_by done
called_closed None current closed = ap called_by closed
called_closed (Some o) current closed = refl

pub same_on : (a b c : Engine) → SameMachine a b → SameMachine b c → SameMachine a c
same_on a b c first second = record {
  shape = second.shape ∙ first.shape;
  count = second.count ∙ first.count;
  placement = second.placement ∙ first.placement;
  given = second.given ∙ first.given;
}

pub no_more : (n : ℕ) → n ≤ n
no_more n = omega arith

pub lower_then : (a b c : ℕ) → a < b → b ≤ c → a ≤ c
lower_then a b c less more = omega arith

-- where nothing was open nothing was completed
pub nothing_done : (done current : Option Open) → called_by done ≡ called_by current → current ≡ None → done ≡ None
nothing_done None current same closed = refl
nothing_done (Some o) current same closed = cc (same ∙ ap called_by closed)

pub less_then : (a b c : ℕ) → a ≤ b → b < c → a < c
less_then a b c more less = omega arith

-- with nothing completed nothing else beyond changed
pub went_none : {W : Type 0} (told : W → Option (List Event)) (faults : W → ℕ) (w w' : W) (t : Track) (c : Engine) (g : Beyond) (done : Option Open) → done ≡ None → Went told faults w w' t (track_of c (beyond_with done g)) → Went told faults w w' t (track_of c g)
went_none told faults w w' t c g complete none went = subst (λ (d : Option Open). Went told faults w w' t (track_of c (beyond_with d g))) none went
