-- Only one event may come at a time.
use Rattle.std.proofs.Common.{◌≡◌, ◌&&◌, ◌||◌, [], ◌∷◌, ◌∙◌, ℕ, Bool, List, None, Option, Some, ap, arith, cond, eqb, false, length, not, refl, slice_get, subst, sym, true}
use Rattle.std.proofs.lemmas.Bool.{cond-false, cond-true, eqb-true}
use Rattle.lego_base.specs.declared.ids.MemId.{MemId}
use Rattle.lego_base.specs.declared.ids.OpNo.{OpNo}
use Rattle.lego_base.specs.declared.shape.CrashAt.{CrashAt}
use Rattle.lego_msg.proofs.Moments.{calm_done, calm_due, calm_goes, send_calm}
use Rattle.lego_msg.proofs.Senders.{same_some}
use Rattle.lego_msg.specs.Completions.{done_or, first_done}
use Rattle.lego_msg.specs.Crashes.{IsEntry, IsNextInc, is_crash_moment, is_idle}
use Rattle.lego_msg.specs.Deliveries.{is_sent, is_waiting}
use Rattle.lego_msg.specs.Laws.{OneMayCome, shows}
use Rattle.lego_msg.specs.Marks.{Call, Mark, Show, is_turn, is_turn_end}
use Rattle.lego_msg.specs.Next.{complete_next, crash_at, crash_next, crash_of, crash_or_open, deliver_next, delivered_next, due_next, move_next, next, open_next, owed_next, send_first, showable}
use Rattle.lego_msg.specs.Sends.{IsFirst, IsMove, MayBegin, MaySend, open_move}
use Rattle.lego_msg.specs.ShownEvents.{IsNext, MayShow}
use Rattle.lego_msg.specs.State.{Mem}
use Rattle.lego_msg.specs.Track.{Track, healing_move, is_any_done, is_calm, is_complete, is_crash_due, is_crash_left, is_done, next_crash, opened}
use Rattle.lego_msg.specs.declared.event.Event.{Event}
use Rattle.lego_msg.specs.declared.event.Event.TheVariants.{Access, Complete, Crash, Deliver, Drop, Fill, Out, Send, Turn}
use Rattle.lego_msg.specs.declared.healing.Healing.{Healing}
use Rattle.lego_msg.specs.declared.healing.Move.{Move}
use Rattle.lego_msg.specs.declared.message.Message.{Message}
use Rattle.lego_msg.specs.declared.operation.Open.{Open}

or_left : (a b : Bool) → (a || b) ≡ false → a ≡ false
or_left true b e = cc e
or_left false b e = refl

or_right : (a b : Bool) → (a || b) ≡ false → b ≡ false
or_right true b e = cc e
or_right false b e = e

-- where nothing is complete, a completion is passed over
no_completion : (net : List Message) (o : Option Open) (else_ : Option Event) → is_done net o ≡ false → complete_next net o else_ ≡ else_
no_completion net None else_ e = refl
no_completion net (Some o) else_ e = cond-false (is_complete net o) _ else_ e

-- with nothing owed and nothing complete
past_completions : (t : Track) → t.owed ≡ [] → t.stopped ≡ false → is_any_done t ≡ false → next t ≡ crash_or_open t
past_completions t owed goes none =
    ap (owed_next t) owed
    ∙ cond-false t.stopped None _ goes
    ∙ no_completion t.net (healing_move t.healing) _ (or_left _ _ none)
    ∙ no_completion t.net t.current _ (or_right _ _ none)

next_calm : (t : Track) → t.owed ≡ [] → is_calm t ≡ true → next t ≡ open_next t t.healing t.current
next_calm t owed calm =
    past_completions t owed (calm_goes t.stopped (is_any_done t) (is_crash_due t) calm) (calm_done t.stopped (is_any_done t) (is_crash_due t) calm)
    ∙ cond-false (is_crash_due t) _ _ (calm_due t.stopped (is_any_done t) (is_crash_due t) calm)

-- SHOWN EVENTS

due_shown : (t : Track) (due : List Mark) (e : Event) → IsNext e due → showable e ≡ Some e → (is_turn e && is_crash_left t) ≡ false → due_next t due ≡ Some e
due_shown t [] e next shows ends = absurd next
due_shown t (Call o ∷ due) e next shows ends = absurd next
due_shown t (Show x ∷ due) e next shows ends = cond-false (is_turn x && is_crash_left t) _ _ (ap (λ (e : Event). is_turn e && is_crash_left t) next ∙ ends) ∙ ap showable next ∙ shows

shown_next : (t : Track) (e : Event) → MayShow t e → showable e ≡ Some e → (is_turn e && is_crash_left t) ≡ false → next t ≡ Some e
shown_next t e may shows ends =
    next_calm t may.0.owed may.0.calm
    ∙ (λ i. open_next t (may.0.healed i) (may.0.closed i))
    ∙ due_shown t t.due e may.1 shows ends

-- SENDS

first_send : (m : Message) (messages : List Message) (else_ : Option Event) → IsFirst m messages → send_first messages else_ ≡ Some (Send m)
first_send m [] else_ first = absurd first
first_send m (x ∷ messages) else_ first = ap (λ (m : Message). Some (Send m)) (sym first)

move_send : (t : Track) (m : Message) (h : Healing) (o : Option Open) (moves : List Move) → IsMove t m h o moves → move_next t h o moves ≡ Some (Send m)
move_send t m h (Some o) moves may = absurd may
move_send t m h None [] may = absurd may
move_send t m h None (move ∷ moves) may = first_send m (open_move t move h.got).unsent None may

due_called : (t : Track) (m : Message) (due : List Mark) → MayBegin t m due → due_next t due ≡ Some (Send m)
due_called t m [] may = absurd may
due_called t m (Call o ∷ due) may = cond-false (o.late && is_crash_left t) _ _ may.2 ∙ first_send m (opened t.shape t.next o.by o.operation).unsent None may.0
due_called t m (Show x ∷ due) may = absurd may

open_send : (t : Track) (m : Message) (owed : List Message) (h : Option Healing) (o : Option Open) → owed ≡ [] → MaySend t m owed h o → open_next t h o ≡ Some (Send m)
open_send t m (x ∷ owed) h o e may = cc e
open_send t m [] (Some h) o e may = move_send t m h h.current h.moves may.1
open_send t m [] None (Some o) e may = first_send m o.unsent _ may.1
open_send t m [] None None e may = due_called t m t.due may.1

send_next : (t : Track) (m : Message) (owed : List Message) → t.owed ≡ owed → MaySend t m owed t.healing t.current → next t ≡ Some (Send m)
send_next t m (x ∷ owed) e may = ap (owed_next t) e ∙ ap (λ (m : Message). Some (Send m)) (sym may)
send_next t m [] e may = next_calm t e (send_calm t m [] t.healing t.current refl may) ∙ open_send t m [] t.healing t.current refl may

-- DELIVERIES

all_sent : (t : Track) (messages : List Message) → eqb (length messages) 0 ≡ true → send_first messages (deliver_next t) ≡ deliver_next t
all_sent t [] e = refl
all_sent t (m ∷ messages) e =
    let none : length (m ∷ messages) ≡ 0 = eqb-true (length (m ∷ messages)) 0 e in
    absurd (omega (arith, none))

move_waits : (t : Track) (h : Healing) (o : Option Open) (moves : List Move) → is_sent o ≡ true → move_next t h o moves ≡ deliver_next t
move_waits t h None moves e = cc e
move_waits t h (Some o) moves e = cond-true (eqb (length o.unsent) 0) _ _ e

waiting_next : (t : Track) (h : Option Healing) (o : Option Open) → is_waiting h o ≡ true → open_next t h o ≡ deliver_next t
waiting_next t None None e = cc e
waiting_next t None (Some o) e = all_sent t o.unsent e
waiting_next t (Some h) o e = move_waits t h h.current h.moves e

-- CRASHES

crash_named : (e : CrashAt) (o : Option Mem) (number : MemId) (inc : ℕ) → e.memory.0 ≡ number.0 → IsNextInc o inc → crash_of e o ≡ Some (Crash number inc)
crash_named e None number inc same raised = absurd raised
crash_named e (Some s) number inc same raised = λ i. Some (Crash (record { 0 = same i }) (sym raised i))

crash_is : (t : Track) (o : Option CrashAt) (number : MemId) (inc : ℕ) → IsEntry o number.0 → IsNextInc (slice_get t.mems number.0) inc → crash_at t o ≡ Some (Crash number inc)
crash_is t None number inc entry raised = absurd entry
crash_is t (Some e) number inc entry raised = crash_named e (slice_get t.mems e.memory.0) number inc entry (subst (λ (n : ℕ). IsNextInc (slice_get t.mems n) inc) (sym entry) raised)

due_over : (t : Track) (due : List Mark) → is_turn_end due ≡ true → is_crash_left t ≡ true → due_next t due ≡ crash_next t
due_over t [] over left = cond-true (is_crash_left t) _ _ left
due_over t (Call o ∷ due) over left = cond-true (o.late && is_crash_left t) _ _ (both o.late (is_crash_left t) over left)
  where
    both : (a b : Bool) → a ≡ true → b ≡ true → (a && b) ≡ true
    both true b e f = f
    both false b e f = cc e
due_over t (Show x ∷ due) over left = cond-true (is_turn x && is_crash_left t) _ _ (both (is_turn x) (is_crash_left t) over left)
  where
    both : (a b : Bool) → a ≡ true → b ≡ true → (a && b) ≡ true
    both true b e f = f
    both false b e f = cc e

idle_next : (t : Track) (h : Option Healing) (o : Option Open) → is_idle h o ≡ true → open_next t h o ≡ due_next t t.due
idle_next t None None e = refl
idle_next t None (Some o) e = cc e
idle_next t (Some h) o e = cc e

at_end : (left idle over : Bool) → (left && idle && over) ≡ true → (left ≡ true) × (idle ≡ true) × (over ≡ true)
at_end false idle over e = cc e
at_end true false over e = cc e
at_end true true over e = (refl, refl, e)

crash_or : (t : Track) → is_crash_moment t ≡ true → crash_or_open t ≡ crash_next t
crash_or t moment = by (is_crash_due t) moment
  where
    by : (b : Bool) → (b || (is_crash_left t && is_idle t.healing t.current && is_turn_end t.due)) ≡ true → cond b (crash_next t) (open_next t t.healing t.current) ≡ crash_next t
    by true e = refl
    by false e =
        let ends = at_end (is_crash_left t) (is_idle t.healing t.current) (is_turn_end t.due) e in
        idle_next t t.healing t.current ends.1 ∙ due_over t t.due ends.2 ends.0

both_false : (a b : Bool) → (not a && not b) ≡ true → (a ≡ false) × (b ≡ false)
both_false true b e = cc e
both_false false true e = cc e
both_false false false e = (refl, refl)

-- COMPLETIONS

completes_as : (net : List Message) (o : Option Open) (other : Option OpNo) (rest : Option Event) (op : OpNo) → (other ≡ Some op → rest ≡ Some (Complete op)) → done_or net o other ≡ Some op → complete_next net o rest ≡ Some (Complete op)
completes_as net None other rest op later e = later e
completes_as net (Some o) other rest op later e = by (is_complete net o) e
  where
    by : (b : Bool) → cond b (Some o.number) other ≡ Some op → cond b (Some (Complete o.number)) rest ≡ Some (Complete op)
    by true e = ap (λ (n : OpNo). Some (Complete n)) (same_some o.number op e)
    by false e = later e

no_number : (op : OpNo) (rest : Option Event) → None ≡ Some op → rest ≡ Some (Complete op)
no_number op rest e = cc e

complete_next_is : (t : Track) (op : OpNo) → t.owed ≡ [] → t.stopped ≡ false → first_done t ≡ Some op → next t ≡ Some (Complete op)
complete_next_is t op owed goes done =
    ap (owed_next t) owed
    ∙ cond-false t.stopped None _ goes
    ∙ completes_as t.net (healing_move t.healing) (done_or t.net t.current None) _ op (completes_as t.net t.current None (crash_or_open t) op (no_number op (crash_or_open t))) done

pub one-may-come : OneMayCome
one-may-come t (Turn number pid) may = shown_next t (Turn number pid) may.0 refl may.1
one-may-come t (Access cpu pid address kind bytes) may = shown_next t (Access cpu pid address kind bytes) may.0 refl refl
one-may-come t (Fill pid address bytes) may = shown_next t (Fill pid address bytes) may refl refl
one-may-come t (Drop cpu pid line) may = shown_next t (Drop cpu pid line) may.0 refl refl
one-may-come t (Send m) may = send_next t m t.owed refl may
one-may-come t (Deliver m) may =
    next_calm t may.owed may.calm
    ∙ waiting_next t t.healing t.current may.waiting
    ∙ ap delivered_next may.chosen
one-may-come t (Crash number inc) may =
    let goes = both_false t.stopped (is_any_done t) may.goes_on in
    past_completions t may.owed goes.0 goes.1
    ∙ crash_or t may.moment
    ∙ crash_is t (next_crash t.shape t.clock) number inc may.entry may.raised
one-may-come t (Complete op) may = complete_next_is t op may.owed may.goes_on may.complete
one-may-come t (Out stream bytes) may = shown_next t (Out stream bytes) may refl refl
