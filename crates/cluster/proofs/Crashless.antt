-- Where no crash of the turn is left, none is left after operations.
use Rattle.std.proofs.Common.{◌≡◌, ◌∙◌, ◌&&◌, ◌||◌, [], ◌∷◌, ℕ, Bool, List, None, Option, Some, drop, false, refl, subst, sym, true}
use Rattle.healing_laws.proofs.HealingEnds.{not_due}
use Rattle.lego_base.specs.declared.shape.CrashAt.{CrashAt}
use Rattle.lego_msg.proofs.Flow.{comes_arrived, completed_same, send_sent}
use Rattle.lego_msg.specs.Crashes.{MayCrash, is_idle}
use Rattle.lego_msg.specs.Deliveries.{taken}
use Rattle.lego_msg.specs.Legal.{Legal, May}
use Rattle.lego_msg.specs.Marks.{Call, Mark, Show, is_turn_end}
use Rattle.lego_msg.specs.Run.{after, run}
use Rattle.lego_msg.specs.Sends.{begins, move_begins, sent}
use Rattle.lego_msg.specs.ShownEvents.{IsNext}
use Rattle.lego_msg.specs.Track.{Track, is_crash_due, is_crash_left, is_of_turn, next_crash}
use Rattle.lego_msg.specs.declared.clock.Clock.{Clock}
use Rattle.lego_msg.specs.declared.event.Event.{Event}
use Rattle.lego_msg.specs.declared.event.Event.TheVariants.{Access, Complete, Crash, Deliver, Drop, Fill, Out, Send, Turn}
use Rattle.lego_msg.specs.declared.healing.Healing.{Healing}
use Rattle.lego_msg.specs.declared.healing.Move.{Move}
use Rattle.lego_msg.specs.declared.message.Message.{Message}
use Rattle.lego_msg.specs.declared.operation.Open.{Open}

-- marks of operations alone
abbrev pub ShowsNone : List Mark → Type 0
ShowsNone [] = Unit {0}
ShowsNone (Call o ∷ due) = ShowsNone due
ShowsNone (Show e ∷ due) = ⊥

still_left : (t t' : Track) → t'.shape ≡ t.shape → t'.clock ≡ t.clock → is_crash_left t' ≡ is_crash_left t
still_left t t' shape clock = λ i. is_of_turn (clock i) (next_crash (shape i) (clock i))

since_left : (clock : Clock) (n : ℕ) (e : Option CrashAt) → is_of_turn (record clock { since = n }) e ≡ is_of_turn clock e
since_left clock n None = refl
since_left clock n (Some e) = refl

drop_shows : (due : List Mark) → ShowsNone due → ShowsNone (drop 1 due)
drop_shows [] none = tt
drop_shows (Call o ∷ due) none = none
drop_shows (Show e ∷ due) none = absurd none

module _ (t : Track) (none : ShowsNone t.due) (left : is_crash_left t ≡ false) where
  not_next : (e : Event) (due : List Mark) → ShowsNone due → IsNext e due → ⊥
  not_next e [] shows is = is
  not_next e (Call o ∷ due) shows is = is
  not_next e (Show x ∷ due) shows is = shows

  not_now : (number inc : ℕ) → MayCrash t number inc → ⊥
  not_now number inc may = by (is_crash_due t) (is_crash_left t) (is_idle t.healing t.current) (is_turn_end t.due) (not_due t.clock (next_crash t.shape t.clock) left) left may.moment
    where
      by : (a b x y : Bool) → a ≡ false → b ≡ false → (a || (b && x && y)) ≡ true → ⊥
      by true b x y e f g = cc e
      by false true x y e f g = cc f
      by false false x y e f g = cc g

  sent_shows : (m : Message) (owed : List Message) (h : Option Healing) (c : Option Open) → ShowsNone (sent t m owed h c).due
  sent_shows m (x ∷ more) h c = none
  sent_shows m [] (Some h) c = by h.moves
    where
      by : (moves : List Move) → ShowsNone (move_begins t m h moves).due
      by [] = none
      by (move ∷ moves) = none
  sent_shows m [] None (Some o) = none
  sent_shows m [] None None = by t.due none
    where
      by : (due : List Mark) → ShowsNone due → ShowsNone (begins t m due).due
      by [] shows = none
      by (Show e ∷ due) shows = absurd shows
      by (Call o ∷ due) shows = shows

  left_after : (e : Event) → May t e → (is_crash_left (after t e) ≡ false) × ShowsNone (after t e).due
  left_after (Turn number pid) may = absurd (not_next (Turn number pid) t.due none may.0.1)
  left_after (Access cpu pid address kind bytes) may = absurd (not_next (Access cpu pid address kind bytes) t.due none may.0.1)
  left_after (Fill pid address bytes) may = absurd (not_next (Fill pid address bytes) t.due none may.1)
  left_after (Drop cpu pid line) may = absurd (not_next (Drop cpu pid line) t.due none may.0.1)
  left_after (Send m) may =
      let same = send_sent t m t.owed t.healing t.current may in
      (still_left t (after t (Send m)) same.shape same.clock ∙ left, sent_shows m t.owed t.healing t.current)
  left_after (Deliver m) may =
      let same = comes_arrived (taken t) m m.to in
      (still_left (taken t) (after t (Deliver m)) same.shape same.clock ∙ since_left t.clock (taken t).clock.since (next_crash t.shape t.clock) ∙ left, subst ShowsNone (sym same.due) none)
  left_after (Crash number inc) may = absurd (not_now number.0 inc may)
  left_after (Complete op) may =
      let same = completed_same t op.0 t.healing in
      (still_left t (after t (Complete op)) same.shape same.clock ∙ left, subst ShowsNone (sym same.due) none)
  left_after (Out stream bytes) may = absurd (not_next (Out stream bytes) t.due none may.1)

pub none_left : (t : Track) (events : List Event) → Legal t events → ShowsNone t.due → is_crash_left t ≡ false → is_crash_left (run t events) ≡ false
none_left t [] legal none left = left
none_left t (e ∷ events) legal none left =
    let next = left_after t none left e legal.0 in
    none_left (after t e) events legal.1 next.1 next.0
