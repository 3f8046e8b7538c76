-- Where no operation is open and none is called for, the table of owners stays, whatever is healed.
use Rattle.std.proofs.Common.{◌≡◌, ◌∙◌, [], ◌∷◌, ℕ, Bool, List, None, Option, Some, cond, drop, eqb, false, refl, true}
use Rattle.std.specs.Prelude.{slice_get}
use Rattle.healing_laws.specs.Playing.{CallsNone}
use Rattle.lego_base.specs.declared.records.HomeEntry.{HomeEntry}
use Rattle.lego_msg.specs.Completions.{completed, completed_beside, finished, move_finished, sent_again}
use Rattle.lego_msg.specs.Crashes.{crashed, forgotten}
use Rattle.lego_msg.specs.Deliveries.{comes, issuer_gets, memory_handles, noted, noted_by_move, noted_with, stops, taken}
use Rattle.lego_msg.specs.Legal.{Legal, May}
use Rattle.lego_msg.specs.Marks.{Call, Mark, Show}
use Rattle.lego_msg.specs.Places.{memory}
use Rattle.lego_msg.specs.Run.{after, run}
use Rattle.lego_msg.specs.Sends.{MayBegin, MaySend, begins, move_begins, sent}
use Rattle.lego_msg.specs.State.{Mem}
use Rattle.lego_msg.specs.Track.{Track}
use Rattle.lego_msg.specs.declared.event.Event.{Event}
use Rattle.lego_msg.specs.declared.event.Event.TheVariants.{Access, Complete, Crash, Deliver, Drop, Fill, Out, Send, Turn}
use Rattle.lego_msg.specs.declared.healing.Healing.{Healing}
use Rattle.lego_msg.specs.declared.healing.Move.{Move}
use Rattle.lego_msg.specs.declared.message.Message.{Message}
use Rattle.lego_msg.specs.declared.operation.Open.{Open}
use Rattle.lego_msg.specs.declared.place.Place.{Place}
use Rattle.lego_msg.specs.declared.place.Place.TheVariants as place

pub record Idle (owners : List HomeEntry) (t : Track) : Type 0 where
  pub same : t.owners ≡ owners
  pub closed : t.current ≡ None
  pub none : CallsNone t.due

no_open : (o : Open) → ◌≡◌ {A = Option Open} (Some o) None → ⊥
no_open o e = cc e

drop_calls : (due : List Mark) → CallsNone due → CallsNone (drop 1 due)
drop_calls [] none = tt
drop_calls (Call o ∷ due) none = absurd none
drop_calls (Show e ∷ due) none = none

module _ (owners : List HomeEntry) where
  either : (x y : Track) (b : Bool) → Idle owners x → Idle owners y → Idle owners (cond b x y)
  either x y true p q = p
  either x y false p q = q

  -- COMPLETIONS
  finished_idle : (t : Track) (c : Option Open) → c ≡ None → Idle owners t → Idle owners (finished t c)
  finished_idle t None e idle = idle
  finished_idle t (Some o) e idle = absurd (no_open o e)

  again_none : (t : Track) (c : Option Open) → c ≡ None → sent_again t c ≡ None
  again_none t None e = refl
  again_none t (Some o) e = absurd (no_open o e)

  move_idle : (t : Track) (h : Healing) (o : Open) (moves : List Move) → Idle owners t → Idle owners (move_finished t h o moves)
  move_idle t h o [] idle = record { same = idle.same; closed = again_none t t.current idle.closed; none = idle.none }
  move_idle t h o (move ∷ moves) idle = record { same = idle.same; closed = idle.closed; none = idle.none }

  beside_idle : (t : Track) (number : ℕ) (h : Healing) (c : Option Open) → Idle owners t → Idle owners (completed_beside t number h c)
  beside_idle t number h None idle = finished_idle t t.current idle.closed idle
  beside_idle t number h (Some o) idle = either (move_finished t h o h.moves) (finished t t.current) (eqb o.number.0 number) (move_idle t h o h.moves idle) (finished_idle t t.current idle.closed idle)

  completed_idle : (t : Track) (number : ℕ) (h : Option Healing) → Idle owners t → Idle owners (completed t number h)
  completed_idle t number None idle = finished_idle t t.current idle.closed idle
  completed_idle t number (Some h) idle = beside_idle t number h h.current idle

  -- DELIVERIES
  noted_idle : (t : Track) (m : Message) (c : Option Open) → c ≡ None → Idle owners t → Idle owners (noted t m c)
  noted_idle t m None e idle = idle
  noted_idle t m (Some o) e idle = absurd (no_open o e)

  by_move_idle : (t : Track) (m : Message) (h : Healing) (c : Option Open) → Idle owners t → Idle owners (noted_by_move t m h c)
  by_move_idle t m h None idle = noted_idle t m t.current idle.closed idle
  by_move_idle t m h (Some o) idle = either _ _ (eqb m.op.0 o.number.0) (record { same = idle.same; closed = idle.closed; none = idle.none }) (noted_idle t m t.current idle.closed idle)

  with_idle : (t : Track) (m : Message) (h : Option Healing) → Idle owners t → Idle owners (noted_with t m h)
  with_idle t m None idle = noted_idle t m t.current idle.closed idle
  with_idle t m (Some h) idle = by_move_idle t m h h.current idle

  issuer_idle : (t : Track) (m : Message) → Idle owners t → Idle owners (issuer_gets t m)
  issuer_idle t m idle = either (record t { stopped = true }) (noted_with t m t.healing) (stops m.body) (record { same = idle.same; closed = idle.closed; none = idle.none }) (with_idle t m t.healing idle)

  handles_idle : (t : Track) (number : ℕ) (m : Message) (s : Option Mem) → Idle owners t → Idle owners (memory_handles t number m s)
  handles_idle t number m None idle = idle
  handles_idle t number m (Some s) idle = record { same = idle.same; closed = idle.closed; none = idle.none }

  comes_idle : (t : Track) (m : Message) (to : Place) → Idle owners t → Idle owners (comes t m to)
  comes_idle t m (place.Processor cpu) idle = issuer_idle t m idle
  comes_idle t m (place.Memory number) idle = handles_idle t number.0 m (slice_get t.mems number.0) idle
  comes_idle t m place.Storage idle = record { same = idle.same; closed = idle.closed; none = idle.none }
  comes_idle t m place.Manager idle = issuer_idle t m idle

  -- SENDS
  moves_idle : (t : Track) (m : Message) (h : Healing) (moves : List Move) → Idle owners t → Idle owners (move_begins t m h moves)
  moves_idle t m h [] idle = idle
  moves_idle t m h (move ∷ moves) idle = record { same = idle.same; closed = idle.closed; none = idle.none }

  begins_idle : (t : Track) (m : Message) (due : List Mark) → CallsNone due → MayBegin t m due → Idle owners (begins t m due)
  begins_idle t m [] none may = absurd may
  begins_idle t m (Show e ∷ due) none may = absurd may
  begins_idle t m (Call o ∷ due) none may = absurd none

  sent_idle : (t : Track) (m : Message) (owed : List Message) (h : Option Healing) (c : Option Open) → c ≡ None → MaySend t m owed h c → Idle owners t → Idle owners (sent t m owed h c)
  sent_idle t m (x ∷ more) h c e may idle = record { same = idle.same; closed = idle.closed; none = idle.none }
  sent_idle t m [] (Some h) c e may idle = moves_idle t m h h.moves idle
  sent_idle t m [] None (Some o) e may idle = absurd (no_open o e)
  sent_idle t m [] None None e may idle = begins_idle t m t.due idle.none may.1

  forgotten_none : (t : Track) (number : ℕ) (c : Option Open) → c ≡ None → forgotten (memory number) c ≡ None
  forgotten_none t number None e = refl
  forgotten_none t number (Some o) e = absurd (no_open o e)

  shown_idle : (t : Track) → Idle owners t → CallsNone (drop 1 t.due)
  shown_idle t idle = drop_calls t.due idle.none

  after_idle : (t : Track) (e : Event) → May t e → Idle owners t → Idle owners (after t e)
  after_idle t (Turn number pid) may idle = record { same = idle.same; closed = idle.closed; none = shown_idle t idle }
  after_idle t (Access cpu pid address kind bytes) may idle = record { same = idle.same; closed = idle.closed; none = shown_idle t idle }
  after_idle t (Fill pid address bytes) may idle = record { same = idle.same; closed = idle.closed; none = shown_idle t idle }
  after_idle t (Drop cpu pid line) may idle = record { same = idle.same; closed = idle.closed; none = shown_idle t idle }
  after_idle t (Send m) may idle = sent_idle t m t.owed t.healing t.current idle.closed may idle
  after_idle t (Deliver m) may idle = comes_idle (taken t) m m.to (record { same = idle.same; closed = idle.closed; none = idle.none })
  after_idle t (Crash number inc) may idle = record { same = idle.same; closed = forgotten_none t number.0 t.current idle.closed; none = idle.none }
  after_idle t (Complete op) may idle = completed_idle t op.0 t.healing idle
  after_idle t (Out stream bytes) may idle = record { same = idle.same; closed = idle.closed; none = shown_idle t idle }

  pub idle_along : (t : Track) (events : List Event) → Legal t events → Idle owners t → Idle owners (run t events)
  idle_along t [] legal idle = idle
  idle_along t (e ∷ events) legal idle = idle_along (after t e) events legal.1 (after_idle t e legal.0 idle)
