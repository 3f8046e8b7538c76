-- Every track that a legal list leads to is playable, whatever crashed.
use Rattle.std.proofs.Common.{◌≡◌, ◌⊎◌, ◌+◌, ◌<◌, ◌==◌, ◌&&◌, [], ◌∷◌, ◌∙◌, ℕ, Bool, List, None, Option, Some, arith, cond, false, inl, inr, length, not, refl, slice_get, subst, suc, sym, true, zero}
use Rattle.std.specs.List.{AllByRecursion}
use Rattle.lego_base.specs.declared.shape.CrashAt.{CrashAt}
use Rattle.lego_msg.specs.Completions.{completed, completed_beside, finished, move_finished}
use Rattle.lego_msg.specs.Deliveries.{MayDeliver, taken}
use Rattle.lego_msg.specs.Legal.{Legal, May}
use Rattle.lego_msg.specs.Marks.{Call, Mark, Show}
use Rattle.lego_msg.specs.Run.{after, run}
use Rattle.lego_msg.specs.Sends.{MaySend, begins, move_begins, sent}
use Rattle.lego_msg.specs.State.{Mem}
use Rattle.lego_msg.specs.Track.{Track, healing_move, is_any_done, memory_count}
use Rattle.lego_msg.specs.declared.event.Event.{Event}
use Rattle.lego_msg.specs.declared.event.Event.TheVariants.{Access, Complete, Crash, Deliver, Drop, Fill, Out, Send, Turn}
use Rattle.lego_msg.specs.declared.healing.Healing.{Healing}
use Rattle.lego_msg.specs.declared.healing.Move.{Move}
use Rattle.lego_msg.specs.declared.message.Message.{Message}
use Rattle.lego_msg.specs.declared.operation.Open.{Open}
use Rattle.lego_rest.proofs.Resting.{rest-is-middle}
use Rattle.lego_rest.specs.Rest.{AtRest}
use Rattle.lego_waits.specs.Laws.{AreInPlace}
use Rattle.rest_laws.proofs.Bare.{calm_on}
use Rattle.rest_laws.proofs.Taken.{all_taken, split}
use Rattle.rest_laws.specs.Forms.{IsFormed}
use Rattle.healing_laws.proofs.Awaiting.{AwaitsOpen, apart, awaits_after, delivery_leaves, goes, something_pends}
use Rattle.healing_laws.proofs.Events.{every-event-keeps, in_relation}
use Rattle.healing_laws.proofs.Fitting.{fits_refusal}
use Rattle.healing_laws.proofs.Forms.{messages-stay-in-form}
use Rattle.healing_laws.proofs.Lasting.{pending-refusals-have-causes}
use Rattle.healing_laws.specs.Playing.{IsFit, EntryFits, EveryTrackIsPlayable, HealingGoesOn, IsPlayable, OtherNumber, SomethingIsPending}
use Rattle.healing_laws.specs.Refusals.{HasCauseNow}
use Rattle.healing_laws.specs.Running.{GrantedAll, InRelation, IsGrantedThere, lost_in}

-- WHAT HOLDS ALONG A LIST, also where a refusal stopped it
pub record Sound (t : Track) : Type 0 where
  pub middle : InRelation t
  pub awaits : AwaitsOpen t
  pub settled : t.stopped ≡ true → t.owed ≡ []
  pub forms : AllByRecursion (IsFormed t.disk) t.net
  pub numbers : OtherNumber t.current (healing_move t.healing)
  pub moves : HealingGoesOn t.healing

stopped_twice : (b : Bool) → b ≡ true → b ≡ false → ⊥
stopped_twice true e f = cc f
stopped_twice false e f = cc e

-- until a refusal stops the run, by the relation
running : (t : Track) → t.stopped ≡ false → InRelation t → AwaitsOpen t → Sound t
running t goes_on middle awaits = record {
  middle = middle;
  awaits = awaits;
  settled = λ stop. absurd (stopped_twice t.stopped stop goes_on);
  forms = messages-stay-in-form t goes_on middle;
  numbers = numbers t.healing refl;
  moves = moves t.healing refl;
}
  where
    alone : (c : Option Open) → OtherNumber c None
    alone None = tt
    alone (Some o) = tt

    numbers : (g : Option Healing) → t.healing ≡ g → OtherNumber t.current (healing_move g)
    numbers None heals = alone t.current
    numbers (Some h) heals = apart (lost_in t.healing) t h heals goes_on middle

    moves : (g : Option Healing) → t.healing ≡ g → HealingGoesOn g
    moves None heals = tt
    moves (Some h) heals = goes (lost_in t.healing) t h heals goes_on middle

-- NOTHING COMES once the run was stopped
module _ (t : Track) (settled : t.stopped ≡ true → t.owed ≡ []) where
  not_first : (a b : Bool) → (not a && not b) ≡ true → a ≡ false
  not_first true b e = cc e
  not_first false b e = refl

  send_runs : (m : Message) → MaySend t m t.owed t.healing t.current → t.stopped ≡ false
  send_runs m may = by t.owed t.healing t.current refl may
    where
      owing : (x : Message) (more : List Message) → t.owed ≡ x ∷ more → (b : Bool) → t.stopped ≡ b → b ≡ false
      owing x more is true stop = let both : [] ≡ x ∷ more = sym (settled stop) ∙ is in cc both
      owing x more is false stop = refl

      by : (owed : List Message) (h : Option Healing) (c : Option Open) → t.owed ≡ owed → MaySend t m owed h c → t.stopped ≡ false
      by (x ∷ more) h c is may = owing x more is t.stopped refl
      by [] (Some h) c is may = calm_on t may.0
      by [] None (Some o) is may = calm_on t may.0
      by [] None None is may = calm_on t may.0

  runs : (e : Event) → May t e → t.stopped ≡ false
  runs (Turn number pid) may = calm_on t may.0.0.calm
  runs (Access cpu pid address kind bytes) may = calm_on t may.0.0.calm
  runs (Fill pid address bytes) may = calm_on t may.0.calm
  runs (Drop cpu pid line) may = calm_on t may.0.0.calm
  runs (Send m) may = send_runs m may
  runs (Deliver m) may = calm_on t may.calm
  runs (Crash number inc) may = not_first t.stopped (is_any_done t) may.goes_on
  runs (Complete op) may = may.goes_on
  runs (Out stream bytes) may = calm_on t may.0.calm

-- AN EVENT goes on, or is the delivery of a refusal that stops the run
pub record Refused (t : Track) (u : Track) : Type 0 where
  pub m : Message
  pub may : MayDeliver t m
  pub is : u ≡ record (taken t) { stopped = true }

module _ (t : Track) where
  sent_on : (m : Message) (owed : List Message) (h : Option Healing) (c : Option Open) → (sent t m owed h c).stopped ≡ t.stopped
  sent_on m (x ∷ more) h c = refl
  sent_on m [] (Some h) c = by h.moves
    where
      by : (moves : List Move) → (move_begins t m h moves).stopped ≡ t.stopped
      by [] = refl
      by (move ∷ moves) = refl
  sent_on m [] None (Some o) = refl
  sent_on m [] None None = by t.due
    where
      by : (due : List Mark) → (begins t m due).stopped ≡ t.stopped
      by [] = refl
      by (Show e ∷ due) = refl
      by (Call o ∷ due) = refl

  finished_on : (c : Option Open) → (finished t c).stopped ≡ t.stopped
  finished_on None = refl
  finished_on (Some o) = refl

  completed_on : (number : ℕ) (h : Option Healing) → (completed t number h).stopped ≡ t.stopped
  completed_on number None = finished_on t.current
  completed_on number (Some h) = by h.current
    where
      moved : (o : Open) (moves : List Move) → (move_finished t h o moves).stopped ≡ t.stopped
      moved o [] = refl
      moved o (move ∷ moves) = refl

      by : (c : Option Open) → (completed_beside t number h c).stopped ≡ t.stopped
      by None = finished_on t.current
      by (Some o) = under (o.number.0 == number)
        where
          under : (b : Bool) → (cond b (move_finished t h o h.moves) (finished t t.current)).stopped ≡ t.stopped
          under true = moved o h.moves
          under false = finished_on t.current

  pub goes_or_stops : (e : Event) → May t e → ((after t e).stopped ≡ t.stopped) ⊎ Refused t (after t e)
  goes_or_stops (Turn number pid) may = inl refl
  goes_or_stops (Access cpu pid address kind bytes) may = inl refl
  goes_or_stops (Fill pid address bytes) may = inl refl
  goes_or_stops (Drop cpu pid line) may = inl refl
  goes_or_stops (Send m) may = inl (sent_on m t.owed t.healing t.current)
  goes_or_stops (Deliver m) may = elim (delivery_leaves t m m.to) [
    | inl leaves ↦ inl leaves.stopped
    | inr is ↦ inr (record { m = m; may = may; is = is })
  ]
  goes_or_stops (Crash number inc) may = inl refl
  goes_or_stops (Complete op) may = inl (completed_on op.0 t.healing)
  goes_or_stops (Out stream bytes) may = inl refl

-- what is pending once that one is delivered was in form before
stopped_sound : (t : Track) (m : Message) → MayDeliver t m → Sound t → InRelation (record (taken t) { stopped = true }) → AwaitsOpen (record (taken t) { stopped = true }) → Sound (record (taken t) { stopped = true })
stopped_sound t m may sound middle awaits = record {
  middle = middle;
  awaits = awaits;
  settled = λ stop. may.owed;
  forms = (all_taken (IsFormed t.disk) t.net (taken t).net m (split t m may) sound.forms).1;
  numbers = sound.numbers;
  moves = sound.moves;
}

sound_after : (t : Track) (e : Event) → May t e → IsGrantedThere t e → Sound t → Sound (after t e)
sound_after t e may granted sound = by (goes_or_stops t e may)
  where
    middle : InRelation (after t e)
    middle = every-event-keeps t e may granted sound.middle

    awaits : AwaitsOpen (after t e)
    awaits = awaits_after t e may granted sound.middle sound.awaits

    by : ((after t e).stopped ≡ t.stopped) ⊎ Refused t (after t e) → Sound (after t e)
    by (inl same) = running (after t e) (same ∙ runs t sound.settled e may) middle awaits
    by (inr refused) = subst Sound (sym refused.is) (stopped_sound t refused.m refused.may sound (subst InRelation refused.is middle) (subst AwaitsOpen refused.is awaits))

sound_list : (t : Track) (events : List Event) → Legal t events → GrantedAll t events → Sound t → Sound (run t events)
sound_list t [] legal granted sound = sound
sound_list t (e ∷ events) legal granted sound = sound_list (after t e) events legal.1 granted.1 (sound_after t e legal.0 granted.0 sound)

rest_sound : (t : Track) → AtRest t → Sound t
rest_sound t rest = running t rest.goes_on (in_relation None t (rest-is-middle t rest)) (λ healed. inl rest.closed)

-- MEMORIES are in place, and so is the next that crashes
in_place : (room : ℕ) → 0 < room → (mems : List Mem) (k : ℕ) → ((m : ℕ) (s : Mem) → slice_get mems m ≡ Some s → (s.id ≡ k + m) × (s.log_room ≡ room)) → AreInPlace k mems
in_place room some [] k each = tt
in_place room some (s ∷ mems) k each = (here, subst (λ (r : ℕ). 0 < r) (sym (each zero s refl).1) some, in_place room some mems (k + 1) later)
  where
    here : s.id ≡ k
    here = let is = (each zero s refl).0 in omega (arith, is)

    later : (m : ℕ) (x : Mem) → slice_get mems m ≡ Some x → (x.id ≡ k + 1 + m) × (x.log_room ≡ room)
    later m x at = let it = each (suc m) x at in let is = it.0 in (omega (arith, is), it.1)

entry_there : (n : ℕ) (mems : List Mem) → length mems ≡ n → (crashes : List CrashAt) (k : ℕ) → AllByRecursion (λ (e : CrashAt). e.memory.0 < n) crashes → EntryFits mems (slice_get crashes k)
entry_there n mems count [] k all = tt
entry_there n mems count (e ∷ crashes) zero all = let below = all.0 in omega (arith, below, count)
entry_there n mems count (e ∷ crashes) (suc k) all = entry_there n mems count crashes k all.1

all_fit : (t : Track) → InRelation t → (xs : List Message) → AllByRecursion (IsFormed t.disk) xs → AllByRecursion (HasCauseNow t) xs → AllByRecursion (IsFit t.shape t.disk) xs
all_fit t middle [] forms causes = tt
all_fit t middle (x ∷ xs) forms causes = (record { form = forms.0; refusal = fits_refusal t middle x causes.0 }, all_fit t middle xs forms.1 causes.1)

playable : (t : Track) → Sound t → AllByRecursion (HasCauseNow t) t.net → IsPlayable t
playable t sound causes = record {
  some = let two = sound.middle.machine.two in omega (arith, two);
  places = in_place t.shape.log sound.middle.machine.log t.mems 0 (λ m s at. let fits = sound.middle.forms m s at in let is = fits.id in (omega (arith, is), fits.log_room));
  list = sound.middle.machine.deliveries;
  entry = entry_there (memory_count t.shape) t.mems sound.middle.count t.shape.crashes t.clock.passed sound.middle.machine.there;
  fit = all_fit t sound.middle t.net sound.forms causes;
  numbers = sound.numbers;
  moves = sound.moves;
  awaits = something_pends t sound.middle sound.awaits;
}

pub every-track-is-playable : EveryTrackIsPlayable
every-track-is-playable t events rest legal granted = playable (run t events) (sound_list t events legal granted (rest_sound t rest)) (pending-refusals-have-causes t events rest legal granted)

pub something-is-pending : SomethingIsPending
something-is-pending t events rest legal granted = (every-track-is-playable t events rest legal granted).awaits
