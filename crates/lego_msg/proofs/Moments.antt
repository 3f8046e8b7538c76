-- Where completions and crashes come.
use Rattle.std.proofs.Common.{◌≡◌, ◌⊎◌, ◌+◌, ◌&&◌, ◌||◌, [], ◌∷◌, ◌∙◌, ℕ, Bool, List, None, Option, Some, cond, eqb, false, inl, inr, not, refl, slice_get, subst, sym, true}
use Rattle.std.proofs.lemmas.Bool.{eqb-true}
use Rattle.lego_base.specs.declared.ids.MemId.{MemId}
use Rattle.lego_base.specs.declared.ids.OpNo.{OpNo}
use Rattle.lego_base.specs.declared.shape.CrashAt.{CrashAt}
use Rattle.lego_base.specs.declared.shape.Shape.{Shape}
use Rattle.lego_msg.proofs.Flow.{comes_arrived, completed_same, send_sent}
use Rattle.lego_msg.proofs.Lists.{Legal-back, Legal-front}
use Rattle.lego_msg.proofs.Senders.{mem_along, same_some}
use Rattle.lego_msg.specs.Completions.{done_or, first_done}
use Rattle.lego_msg.specs.Crashes.{IsEntry, IsNextInc, is_idle}
use Rattle.lego_msg.specs.Deliveries.{taken}
use Rattle.lego_msg.specs.Laws.{CompletionsAreDue, CompletionsAreFirst, CrashesAreDue, CrashesStandAtTheirMoment, IsMoment, IsOpen, IsTurnOver, clock_along, memory_along}
use Rattle.lego_msg.specs.Legal.{Legal}
use Rattle.lego_msg.specs.Marks.{is_turn_end}
use Rattle.lego_msg.specs.Run.{after, run}
use Rattle.lego_msg.specs.Sends.{MaySend}
use Rattle.lego_msg.specs.State.{Mem}
use Rattle.lego_msg.specs.Track.{Track, healing_move, is_any_done, is_calm, is_complete, is_crash_due, is_done, is_now, is_of_turn, next_crash, start}
use Rattle.lego_msg.specs.declared.clock.Clock.{Clock}
use Rattle.lego_msg.specs.declared.event.Event.{Event}
use Rattle.lego_msg.specs.declared.event.Event.TheVariants.{Access, Complete, Crash, Deliver, Drop, Fill, Out, Send, Turn}
use Rattle.lego_msg.specs.declared.healing.Healing.{Healing}
use Rattle.lego_msg.specs.declared.message.Message.{Message}
use Rattle.lego_msg.specs.declared.operation.Open.{Open}

-- CALM: nothing else has to come first

pub calm_goes : (a b c : Bool) → (not a && not b && not c) ≡ true → a ≡ false
calm_goes true b c e = cc e
calm_goes false b c e = refl

pub calm_done : (a b c : Bool) → (not a && not b && not c) ≡ true → b ≡ false
calm_done true b c e = cc e
calm_done false true c e = cc e
calm_done false false c e = refl

pub calm_due : (a b c : Bool) → (not a && not b && not c) ≡ true → c ≡ false
calm_due true b c e = cc e
calm_due false true c e = cc e
calm_due false false true e = cc e
calm_due false false false e = refl

both_ways : (b : Bool) → b ≡ true → b ≡ false → ⊥
both_ways b e f = let both : true ≡ false = sym e ∙ f in cc both

not_done : (a b : Bool) → (not a && not b) ≡ true → b ≡ false
not_done true b e = cc e
not_done false true e = cc e
not_done false false e = refl

pub send_calm : (t : Track) (m : Message) (owed : List Message) (h : Option Healing) (o : Option Open) → owed ≡ [] → MaySend t m owed h o → is_calm t ≡ true
send_calm t m (x ∷ owed) h o e may = cc e
send_calm t m [] (Some h) o e may = may.0
send_calm t m [] None (Some o) e may = may.0
send_calm t m [] None None e may = may.0

-- an operation that is done is open and complete
done_one : (net : List Message) (o : Option Open) (else_ : Option OpNo) (n : OpNo) → done_or net o else_ ≡ Some n → ((x : Open) × (o ≡ Some x) × (x.number ≡ n) × (is_complete net x ≡ true)) ⊎ (else_ ≡ Some n)
done_one net None else_ n e = inr e
done_one net (Some x) else_ n e = by (is_complete net x) refl e
  where
    by : (b : Bool) → is_complete net x ≡ b → cond b (Some x.number) else_ ≡ Some n → ((y : Open) × (Some x ≡ Some y) × (y.number ≡ n) × (is_complete net y ≡ true)) ⊎ (else_ ≡ Some n)
    by true is e = inl (x, refl, same_some x.number n e, is)
    by false is e = inr e

none_some : (n : OpNo) → None ≡ Some n → ⊥
none_some n e = cc e

pub due_from : (t : Track) (n : OpNo) → first_done t ≡ Some n → (o : Open) × IsOpen t o × (o.number ≡ n) × (is_complete t.net o ≡ true)
due_from t n e =
    elim (done_one t.net (healing_move t.healing) (done_or t.net t.current None) n e) [
      | inl there ↦ (there.0, inl there.1, there.2, there.3)
      | inr later ↦
          elim (done_one t.net t.current None n later) [
            | inl there ↦ (there.0, inr there.1, there.2, there.3)
            | inr nothing ↦ absurd (none_some n nothing)
          ]
    ]

is_done_so : (net : List Message) (o : Open) (p : Option Open) → p ≡ Some o → is_complete net o ≡ true → is_done net p ≡ true
is_done_so net o p e complete = subst (λ (p : Option Open). is_done net p ≡ true) (sym e) complete

left_true : (a b : Bool) → a ≡ true → (a || b) ≡ true
left_true true b e = refl
left_true false b e = cc e

right_true : (a b : Bool) → b ≡ true → (a || b) ≡ true
right_true true b e = refl
right_true false b e = e

pub any_done : (t : Track) (n : OpNo) → first_done t ≡ Some n → is_any_done t ≡ true
any_done t n e =
    let due = due_from t n e in
    elim due.1 [
      | inl move ↦ left_true _ _ (is_done_so t.net due.0 (healing_move t.healing) move due.3)
      | inr current ↦ right_true _ _ (is_done_so t.net due.0 t.current current due.3)
    ]

-- whatever may come is a completion, a crash, or what may come where all is calm
pub data Comes (t : Track) (e : Event) : Type 0 where
  completes : (op : OpNo) → e ≡ Complete op → is_any_done t ≡ true → Comes t e
  crashes : (c : MemId) (inc : ℕ) → e ≡ Crash c inc → is_any_done t ≡ false → Comes t e
  calmly : is_calm t ≡ true → Comes t e

pub comes_how : (t : Track) (e : Event) (fs : List Event) → t.owed ≡ [] → Legal t (e ∷ fs) → Comes t e
comes_how t (Turn number pid) fs owed legal = calmly legal.0.0.0.calm
comes_how t (Access cpu pid address kind bytes) fs owed legal = calmly legal.0.0.0.calm
comes_how t (Fill pid address bytes) fs owed legal = calmly legal.0.0.calm
comes_how t (Drop cpu pid line) fs owed legal = calmly legal.0.0.0.calm
comes_how t (Send m) fs owed legal = calmly (send_calm t m t.owed t.healing t.current owed legal.0)
comes_how t (Deliver m) fs owed legal = calmly legal.0.calm
comes_how t (Crash c inc) fs owed legal = crashes c inc refl (not_done t.stopped (is_any_done t) legal.0.goes_on)
comes_how t (Complete op) fs owed legal = completes op refl (any_done t op legal.0.complete)
comes_how t (Out stream bytes) fs owed legal = calmly legal.0.0.calm

completion_first : (t : Track) (e : Event) → is_any_done t ≡ true → Comes t e → (op : OpNo) × (e ≡ Complete op)
completion_first t e done (completes op is some) = (op, is)
completion_first t e done (crashes c inc is none) = absurd (both_ways _ done none)
completion_first t e done (calmly calm) = absurd (both_ways _ done (calm_done t.stopped (is_any_done t) (is_crash_due t) calm))

pub completions-are-first : CompletionsAreFirst
completions-are-first t es fs e legal owed done = completion_first (run t es) e done (comes_how (run t es) e fs owed (Legal-back t es (e ∷ fs) legal))

pub completions-are-due : CompletionsAreDue
completions-are-due t es fs op legal = due_from (run t es) op (Legal-back t es (Complete op ∷ fs) legal).0.complete

crash_first : (t : Track) (e : Event) → is_any_done t ≡ false → is_crash_due t ≡ true → Comes t e → (c : MemId) × (inc : ℕ) × (e ≡ Crash c inc)
crash_first t e none due (completes op is some) = absurd (both_ways _ some none)
crash_first t e none due (crashes c inc is calm) = (c, inc, is)
crash_first t e none due (calmly calm) = absurd (both_ways _ due (calm_due t.stopped (is_any_done t) (is_crash_due t) calm))

pub crashes-are-due : CrashesAreDue
crashes-are-due t es fs e legal owed none due = crash_first (run t es) e none due (comes_how (run t es) e fs owed (Legal-back t es (e ∷ fs) legal))

-- THE CLOCK along a list is that of the list alone

clocks : (s s' : Shape) (c c' : Clock) (es : List Event) → s ≡ s' → c ≡ c' → clock_along s c es ≡ clock_along s' c' es
clocks s s' c c' es e f = λ i. clock_along (e i) (f i) es

pub clock_is : (t : Track) (es : List Event) → Legal t es → (run t es).clock ≡ clock_along t.shape t.clock es
clock_is t [] legal = refl
clock_is t (Turn number pid ∷ es) legal = clock_is (after t (Turn number pid)) es legal.1
clock_is t (Access cpu pid address kind bytes ∷ es) legal = clock_is (after t (Access cpu pid address kind bytes)) es legal.1
clock_is t (Fill pid address bytes ∷ es) legal = clock_is (after t (Fill pid address bytes)) es legal.1
clock_is t (Drop cpu pid line ∷ es) legal = clock_is (after t (Drop cpu pid line)) es legal.1
clock_is t (Send m ∷ es) legal =
    let s = send_sent t m t.owed t.healing t.current legal.0 in
    clock_is (after t (Send m)) es legal.1 ∙ clocks _ _ _ _ es s.shape s.clock
clock_is t (Deliver m ∷ es) legal =
    let s = comes_arrived (taken t) m m.to in
    clock_is (after t (Deliver m)) es legal.1 ∙ clocks _ _ _ _ es s.shape s.clock
clock_is t (Crash number inc ∷ es) legal = clock_is (after t (Crash number inc)) es legal.1
clock_is t (Complete op ∷ es) legal =
    let s = completed_same t op.0 t.healing in
    clock_is (after t (Complete op)) es legal.1 ∙ clocks _ _ _ _ es s.shape s.clock
clock_is t (Out stream bytes ∷ es) legal = clock_is (after t (Out stream bytes)) es legal.1

-- THE MOMENT of a crash

parts : (begun turn after idle over : Bool) → ((begun && turn && after) || ((begun && turn) && idle && over)) ≡ true → (begun ≡ true) × (turn ≡ true) × ((after ≡ true) ⊎ ((idle ≡ true) × (over ≡ true)))
parts false turn after idle over e = cc e
parts true false after idle over e = cc e
parts true true true idle over e = (refl, refl, inl refl)
parts true true false false over e = cc e
parts true true false true over e = (refl, refl, inr (refl, e))

or_over : (t : Track) (after since : ℕ) → (eqb after since ≡ true) ⊎ IsTurnOver t → (after ≡ since) ⊎ IsTurnOver t
or_over t after since (inl e) = inl (eqb-true after since e)
or_over t after since (inr over) = inr over

moment_of : (t : Track) (o : Option CrashAt) (number : ℕ) → next_crash t.shape t.clock ≡ o → IsEntry o number → (is_now t.clock o || (is_of_turn t.clock o && is_idle t.healing t.current && is_turn_end t.due)) ≡ true → IsMoment t t.clock number
moment_of t None number is entry moment = absurd entry
moment_of t (Some e) number is entry moment =
    let p = parts t.clock.begun (eqb e.turn t.clock.turn) (eqb e.after t.clock.since) (is_idle t.healing t.current) (is_turn_end t.due) moment in
    record {
      entry = e;
      is = is;
      memory = entry;
      turn = (p.0, eqb-true e.turn t.clock.turn p.1);
      moment = or_over t e.after t.clock.since p.2;
    }

raised_from : (o : Option Mem) (s : Mem) (inc : ℕ) → o ≡ Some s → IsNextInc o inc → inc ≡ s.inc + 1
raised_from o s inc e raised = subst (λ (o : Option Mem). IsNextInc o inc) e raised

pub crashes-stand : CrashesStandAtTheirMoment
crashes-stand shape due es fs c inc legal =
    let t : Track = start shape due in
    let front : Legal t es = Legal-front t es (Crash c inc ∷ fs) legal in
    let back : Legal (run t es) (Crash c inc ∷ fs) = Legal-back t es (Crash c inc ∷ fs) legal in
    let moment : IsMoment (run t es) (run t es).clock c.0 = moment_of (run t es) (next_crash (run t es).shape (run t es).clock) c.0 refl back.0.entry back.0.moment in (
      subst (λ (k : Clock). IsMoment (run t es) k c.0) (clock_is t es front) moment,
      λ s at. raised_from (slice_get (run t es).mems c.0) (memory_along c.0 s es) inc (mem_along c.0 s t es front at) back.0.raised,
    )
