-- An operation leads from rest back to rest, whatever crashes on the way.
use Rattle.std.proofs.Common.{◌≡◌, ◌⊎◌, ◌<◌, ◌≤◌, ◌==◌, [], ◌∷◌, ◌∙◌, ℕ, Bool, List, None, Option, Some, ap, arith, cond, drop, false, inl, inr, length, refl, slice_get, subst, sym, true}
use Rattle.lego_msg.specs.Completions.{MayComplete, done_or, completed, completed_beside, finished, move_finished, owners_after, sent_again}
use Rattle.lego_base.specs.declared.ids.MemId.{MemId}
use Rattle.lego_msg.specs.Crashes.{crashed, forgotten, memory_lost}
use Rattle.lego_msg.specs.Deliveries.{comes, issuer_gets, memory_handles, noted, noted_by_move, noted_with, reaction_of, reacts, stops, taken}
use Rattle.lego_msg.specs.Legal.{Legal, May}
use Rattle.lego_msg.specs.Marks.{Call, Mark, Order, Show}
use Rattle.lego_msg.specs.Operations.{patch_of}
use Rattle.lego_msg.specs.Places.{memory}
use Rattle.lego_msg.specs.Plain.{effect}
use Rattle.lego_msg.specs.Run.{after, run}
use Rattle.lego_msg.specs.ShownEvents.{IsNext}
use Rattle.lego_msg.specs.Sends.{MayBegin, MaySend, begins, move_begins, sent}
use Rattle.lego_msg.specs.State.{Mem, lost}
use Rattle.lego_msg.specs.Table.{handled}
use Rattle.lego_msg.specs.Track.{Track, healing_move, is_complete}
use Rattle.lego_msg.specs.declared.body.Body.{Body}
use Rattle.lego_msg.specs.declared.event.Event.{Event}
use Rattle.lego_msg.specs.declared.event.Event.TheVariants.{Access, Complete, Crash, Deliver, Drop, Fill, Out, Send, Turn}
use Rattle.lego_msg.specs.declared.healing.Healing.{Healing}
use Rattle.lego_msg.specs.declared.healing.Move.{Move}
use Rattle.lego_msg.specs.declared.message.Message.{Message}
use Rattle.lego_msg.specs.declared.operation.Open.{Open}
use Rattle.lego_msg.specs.declared.operation.Operation.{Operation}
use Rattle.lego_msg.specs.declared.place.Place.{Place}
use Rattle.lego_msg.specs.declared.place.Place.TheVariants.{Manager, Memory, Processor, Storage}
use Rattle.lego_rest.proofs.Resting.{rest-is-middle}
use Rattle.rest_laws.specs.GoingOn.{BeginsGranted, IsDue, LedBack, owners_with}
use Rattle.rest_laws.proofs.Goes.{complete_one}
use Rattle.rest_laws.proofs.Refusing.{row_frames}
use Rattle.healing_laws.proofs.Frames.{frames_at, set_frames}
use Rattle.std.proofs.lemmas.Bool.{eq-eqb}
use Rattle.lego_base.specs.declared.ids.OpNo.{OpNo}
use Rattle.healing_laws.proofs.Events.{every-event-keeps, in_relation, over_rests}
use Rattle.healing_laws.specs.Running.{GrantedBeside, InRelation, IsGrantedThere, IsOver, LeadsBackThroughCrashes}

-- which operation is open
abbrev pub operation_in : Option Open → Option Operation
operation_in None = None
operation_in (Some o) = Some o.operation

-- A STEP leaves the plain map, the owners, what is due and which operation is open, unless a mark comes or the operation ends
pub record Same (now then_ : Track) : Type 0 where
  pub plain : then_.plain ≡ now.plain
  pub owners : then_.owners ≡ now.owners
  pub due : then_.due ≡ now.due
  pub operation : operation_in then_.current ≡ operation_in now.current
  pub frames : (k : ℕ) → frames_at then_.mems k ≡ frames_at now.mems k

-- what a step does
pub data Steps (now then_ : Track) : Type 0 where
  Stays : Same now then_ → Steps now then_
  Ends : (o : Open) → now.current ≡ Some o → is_complete now.net o ≡ true → then_ ≡ finished now (Some o) → Steps now then_
  Shrinks : length then_.due < length now.due → Steps now then_

noted_same : (t : Track) (m : Message) (c : Option Open) → t.current ≡ c → Same t (noted t m c)
noted_same t m None is = record { plain = refl; owners = refl; due = refl; operation = refl; frames = λ k. refl }
noted_same t m (Some o) is = by (m.op.0 == o.number.0) (reaction_of (patch_of o.operation) m.body)
  where
    by : (b : Bool) (r : Option Body) → Same t (cond b (reacts t o m r) t)
    by true None = record { plain = refl; owners = refl; due = refl; operation = sym (ap operation_in is); frames = λ k. refl }
    by true (Some what) = record { plain = refl; owners = refl; due = refl; operation = refl; frames = λ k. refl }
    by false r = record { plain = refl; owners = refl; due = refl; operation = refl; frames = λ k. refl }

beside_same : (t : Track) (m : Message) (h : Option Healing) → Same t (noted_with t m h)
beside_same t m None = noted_same t m t.current refl
beside_same t m (Some h) = by h.current
  where
    by : (move : Option Open) → Same t (noted_by_move t m h move)
    by None = noted_same t m t.current refl
    by (Some o) = under (m.op.0 == o.number.0)
      where
        under : (b : Bool) → Same t (cond b (record t { healing = Some (record h { current = Some (record o { answers = record { place = m.from; body = m.body } ∷ o.answers }) }) }) (noted t m t.current))
        under true = record { plain = refl; owners = refl; due = refl; operation = refl; frames = λ k. refl }
        under false = noted_same t m t.current refl

pub comes_same : (t : Track) (m : Message) (to : Place) → Same t (comes (taken t) m to)
comes_same t m to = by to
  where
    taken_same : {u : Track} → Same (taken t) u → Same t u
    taken_same same = record { plain = same.plain; owners = same.owners; due = same.due; operation = same.operation; frames = same.frames }

    issuer : Same t (issuer_gets (taken t) m)
    issuer = under (stops m.body)
      where
        under : (b : Bool) → Same t (cond b (record (taken t) { stopped = true }) (noted_with (taken t) m t.healing))
        under true = record { plain = refl; owners = refl; due = refl; operation = refl; frames = λ k. refl }
        under false = taken_same (beside_same (taken t) m t.healing)

    at_memory : (k : ℕ) (s : Option Mem) → slice_get t.mems k ≡ s → Same t (memory_handles (taken t) k m s)
    at_memory k None at = record { plain = refl; owners = refl; due = refl; operation = refl; frames = λ j. refl }
    at_memory k (Some s) at = record { plain = refl; owners = refl; due = refl; operation = refl; frames = set_frames t.mems k s (handled s m).0 at (row_frames s m m.body) }

    by : (to : Place) → Same t (comes (taken t) m to)
    by (Processor cpu) = issuer
    by (Memory number) = at_memory number.0 (slice_get t.mems number.0) refl
    by Storage = record { plain = refl; owners = refl; due = refl; operation = refl; frames = λ k. refl }
    by Manager = issuer

ended_steps : (t : Track) (op : OpNo) → done_or t.net t.current None ≡ Some op → Steps t (finished t t.current)
ended_steps t op done = let one = complete_one t.net t.current op done in Ends one.0 one.1 one.2 (ap (finished t) one.1)

pub completed_steps : (t : Track) (op : OpNo) → MayComplete t op → Steps t (completed t op.0 t.healing)
completed_steps t op may = by t.healing may.complete
  where
    again_same : (c : Option Open) → operation_in (sent_again t c) ≡ operation_in c
    again_same None = refl
    again_same (Some o) = refl

    moved : (h : Healing) (o : Open) (moves : List Move) → Steps t (move_finished t h o moves)
    moved h o [] = Stays (record { plain = refl; owners = refl; due = refl; operation = again_same t.current; frames = λ k. refl })
    moved h o (move ∷ moves) = Stays (record { plain = refl; owners = refl; due = refl; operation = refl; frames = λ k. refl })

    one_number : (a b : OpNo) → Some a ≡ Some b → a ≡ b
    one_number a b e = cc e

    beside : (h : Healing) (move : Option Open) → done_or t.net move (done_or t.net t.current None) ≡ Some op → Steps t (completed_beside t op.0 h move)
    beside h None done = ended_steps t op done
    beside h (Some o) done = under (is_complete t.net o) (o.number.0 == op.0) refl done
      where
        under : (a b : Bool) → (o.number.0 == op.0) ≡ b → cond a (Some o.number) (done_or t.net t.current None) ≡ Some op → Steps t (cond b (move_finished t h o h.moves) (finished t t.current))
        under a true e done = moved h o h.moves
        under false false e done = ended_steps t op done
        under true false e done = let both : true ≡ false = sym (eq-eqb o.number.0 op.0 (ap (λ (n : OpNo). n.0) (one_number o.number op done))) ∙ e in cc both

    by : (h : Option Healing) → done_or t.net (healing_move h) (done_or t.net t.current None) ≡ Some op → Steps t (completed t op.0 h)
    by None done = ended_steps t op done
    by (Some h) done = beside h h.current done

lost_frames : (mems : List Mem) (number : ℕ) (c : Option Mem) → slice_get mems number ≡ c → (k : ℕ) → frames_at (memory_lost mems number c) k ≡ frames_at mems k
lost_frames mems number None at k = refl
lost_frames mems number (Some s) at k = set_frames mems number s (lost s) at refl k

forgotten_same : (p : Place) (c : Option Open) → operation_in (forgotten p c) ≡ operation_in c
forgotten_same p None = refl
forgotten_same p (Some o) = refl

pub crashed_same : (t : Track) (number : MemId) → Same t (crashed t number.0)
crashed_same t number = record { plain = refl; owners = refl; due = refl; operation = forgotten_same (memory number.0) t.current; frames = lost_frames t.mems number.0 (slice_get t.mems number.0) refl }

pub finished_due : (t : Track) (c : Option Open) → (finished t c).due ≡ t.due
finished_due t None = refl
finished_due t (Some o) = refl

pub completed_due : (t : Track) (number : ℕ) (h : Option Healing) → (completed t number h).due ≡ t.due
completed_due t number None = finished_due t t.current
completed_due t number (Some h) = by h.current
  where
    moved : (o : Open) (moves : List Move) → (move_finished t h o moves).due ≡ t.due
    moved o [] = refl
    moved o (move ∷ moves) = refl

    by : (move : Option Open) → (completed_beside t number h move).due ≡ t.due
    by None = finished_due t t.current
    by (Some o) = under (o.number.0 == number)
      where
        under : (b : Bool) → (cond b (move_finished t h o h.moves) (finished t t.current)).due ≡ t.due
        under true = moved o h.moves
        under false = finished_due t t.current

-- a mark that comes is due no more
shown_shrinks : (due : List Mark) (e : Event) → IsNext e due → length (drop 1 due) < length due
shown_shrinks [] e is = absurd is
shown_shrinks (Call o ∷ due) e is = absurd is
shown_shrinks (Show x ∷ due) e is = omega arith

sent_steps : (t : Track) (m : Message) → MaySend t m t.owed t.healing t.current → Steps t (sent t m t.owed t.healing t.current)
sent_steps t m may = by t.owed t.healing t.current refl may
  where
    begin : (due : List Mark) → t.due ≡ due → MayBegin t m due → Steps t (begins t m due)
    begin [] is may = absurd may
    begin (Show e ∷ due) is may = absurd may
    begin (Call o ∷ due) is may = Shrinks (subst (λ (ms : List Mark). length due < length ms) (sym is) (omega arith))

    moves : (h : Healing) (ms : List Move) → Steps t (move_begins t m h ms)
    moves h [] = Stays (record { plain = refl; owners = refl; due = refl; operation = refl; frames = λ k. refl })
    moves h (move ∷ ms) = Stays (record { plain = refl; owners = refl; due = refl; operation = refl; frames = λ k. refl })

    by : (owed : List Message) (h : Option Healing) (c : Option Open) → t.current ≡ c → MaySend t m owed h c → Steps t (sent t m owed h c)
    by (x ∷ more) h c is may = Stays (record { plain = refl; owners = refl; due = refl; operation = refl; frames = λ k. refl })
    by [] (Some h) c is may = moves h h.moves
    by [] None (Some o) is may = Stays (record { plain = refl; owners = refl; due = refl; operation = sym (ap operation_in is); frames = λ k. refl })
    by [] None None is may = begin t.due refl may.1

-- WHAT EVERY EVENT does
pub event_steps : (t : Track) (e : Event) → May t e → Steps t (after t e)
event_steps t (Turn number pid) may = Shrinks (shown_shrinks t.due (Turn number pid) may.0.1)
event_steps t (Access cpu pid address kind bytes) may = Shrinks (shown_shrinks t.due (Access cpu pid address kind bytes) may.0.1)
event_steps t (Fill pid address bytes) may = Shrinks (shown_shrinks t.due (Fill pid address bytes) may.1)
event_steps t (Drop cpu pid line) may = Shrinks (shown_shrinks t.due (Drop cpu pid line) may.0.1)
event_steps t (Send m) may = sent_steps t m may
event_steps t (Deliver m) may = Stays (comes_same t m m.to)
event_steps t (Crash number inc) may = Stays (crashed_same t number)
event_steps t (Complete op) may = completed_steps t op may
event_steps t (Out stream bytes) may = Shrinks (shown_shrinks t.due (Out stream bytes) may.1)

-- what is due never grows
never_grows : (t : Track) (e : Event) → May t e → length (after t e).due ≤ length t.due
never_grows t e may = by (event_steps t e may)
  where
    by : Steps t (after t e) → length (after t e).due ≤ length t.due
    by (Stays same) = let is : length (after t e).due ≡ length t.due = ap length same.due in omega (arith, is)
    by (Ends o open_ complete is) = let same : length (after t e).due ≡ length t.due = ap (λ (u : Track). length u.due) is in omega (arith, same)
    by (Shrinks less) = omega (arith, less)

pub list_never_grows : (t : Track) (events : List Event) → Legal t events → length (run t events).due ≤ length t.due
list_never_grows t [] legal = omega arith
list_never_grows t (e ∷ events) legal = let here = never_grows t e legal.0 in let rest = list_never_grows (after t e) events legal.1 in omega (arith, here, rest)

-- whether a send is granted, by what is owed, healing and open
abbrev GrantsSend : Track → List Message → Option Healing → Option Open → Type 0
GrantsSend now owed None c = BeginsGranted now owed c now.due
GrantsSend now owed (Some h) c = Unit {0}

-- THE WAY of an operation o from the track t: it is open, or complete
pub data StandsSo (t : Track) (o : Order) (now : Track) : Type 0 where
  IsOpen : operation_in now.current ≡ Some o.operation → now.plain ≡ t.plain → now.owners ≡ owners_with o t.owners → StandsSo t o now
  IsDone : operation_in now.current ≡ None → now.plain ≡ effect o.operation t.plain → now.owners ≡ owners_after o.operation (owners_with o t.owners) → StandsSo t o now

module _ (t : Track) (o : Order) (rest : List Mark) where
  pub record Way (now : Track) : Type 0 where
    pub middle : InRelation now
    pub due : now.due ≡ rest
    pub stands : StandsSo t o now

  -- no other operation begins on the way
  granted_or : (now : Track) (e : Event) → May now e → IsGrantedThere now e ⊎ (length (after now e).due < length now.due)
  granted_or now (Turn number pid) may = inl tt
  granted_or now (Access cpu pid address kind bytes) may = inl tt
  granted_or now (Fill pid address bytes) may = inl tt
  granted_or now (Drop cpu pid line) may = inl tt
  granted_or now (Deliver m) may = inl tt
  granted_or now (Crash number inc) may = inl tt
  granted_or now (Complete op) may = inl tt
  granted_or now (Out stream bytes) may = inl tt
  granted_or now (Send m) may = grants now.healing (by now.owed now.healing now.current may)
    where
      grants : (h : Option Healing) → GrantsSend now now.owed h now.current ⊎ (length (sent now m now.owed h now.current).due < length now.due) → GrantedBeside now h ⊎ (length (sent now m now.owed h now.current).due < length now.due)
      grants None either = either
      grants (Some h) either = either

      begin : (due : List Mark) → now.due ≡ due → MayBegin now m due → BeginsGranted now [] None due ⊎ (length (begins now m due).due < length now.due)
      begin [] is may = absurd may
      begin (Show e ∷ due) is may = absurd may
      begin (Call x ∷ due) is may = inr (subst (λ (ms : List Mark). length due < length ms) (sym is) (omega arith))

      beside : (owed : List Message) (c : Option Open) (due : List Mark) → MaySend now m owed None c → now.due ≡ due → (BeginsGranted now owed c due) ⊎ (length (sent now m owed None c).due < length now.due)
      beside (x ∷ more) c [] may is = inl tt
      beside (x ∷ more) c (d ∷ due) may is = inl tt
      beside [] (Some p) [] may is = inl tt
      beside [] (Some p) (d ∷ due) may is = inl tt
      beside [] None due may is = by_due due is
        where
          by_due : (due : List Mark) → now.due ≡ due → (BeginsGranted now [] None due) ⊎ (length (begins now m now.due).due < length now.due)
          by_due due is = subst (λ (ms : List Mark). BeginsGranted now [] None ms ⊎ (length (begins now m now.due).due < length now.due)) is (begin now.due refl may.1)

      by : (owed : List Message) (h : Option Healing) (c : Option Open) → MaySend now m owed h c → GrantsSend now owed h c ⊎ (length (sent now m owed h c).due < length now.due)
      by owed (Some h) c may = inl tt
      by owed None c may = beside owed c now.due may refl

  -- each step goes on, or a mark comes
  pub step : (now : Track) (e : Event) → May now e → Way now → Way (after now e) ⊎ (length (after now e).due < length now.due)
  step now e may way = elim (granted_or now e may) [
    | inr less ↦ inr less
    | inl granted ↦ by (every-event-keeps now e may granted way.middle) (event_steps now e may)
  ]
    where
      some_none : (x : Operation) → Some x ≡ None → ⊥
      some_none x is = cc is

      one : (a b : Operation) → Some a ≡ Some b → a ≡ b
      one a b is = cc is

      same_stands : Same now (after now e) → StandsSo t o now → StandsSo t o (after now e)
      same_stands same (IsOpen operation plain owners) = IsOpen (same.operation ∙ operation) (same.plain ∙ plain) (same.owners ∙ owners)
      same_stands same (IsDone operation plain owners) = IsDone (same.operation ∙ operation) (same.plain ∙ plain) (same.owners ∙ owners)

      ends_stands : (p : Open) → now.current ≡ Some p → after now e ≡ finished now (Some p) → StandsSo t o now → StandsSo t o (after now e)
      ends_stands p is ended (IsDone operation plain owners) = absurd (some_none p.operation (sym (ap operation_in is) ∙ operation))
      ends_stands p is ended (IsOpen operation plain owners) =
          let same : p.operation ≡ o.operation = one p.operation o.operation (sym (ap operation_in is) ∙ operation) in
          IsDone (ap (λ (u : Track). operation_in u.current) ended) (ap (λ (u : Track). u.plain) ended ∙ (λ i. effect (same i) (plain i))) (ap (λ (u : Track). u.owners) ended ∙ (λ i. owners_after (same i) (owners i)))

      by : InRelation (after now e) → Steps now (after now e) → Way (after now e) ⊎ (length (after now e).due < length now.due)
      by middle (Stays same) = inl (record { middle = middle; due = same.due ∙ way.due; stands = same_stands same way.stands })
      by middle (Ends p is complete ended) = inl (record { middle = middle; due = ap (λ (u : Track). u.due) ended ∙ way.due; stands = ends_stands p is ended way.stands })
      by middle (Shrinks less) = inr less

  pub goes_on : (now : Track) (events : List Event) → Legal now events → (run now events).due ≡ rest → Way now → Way (run now events)
  goes_on now [] legal last way = way
  goes_on now (e ∷ events) legal last way = by (step now e legal.0 way) (λ next. goes_on (after now e) events legal.1 last next)
    where
      by : Way (after now e) ⊎ (length (after now e).due < length now.due) → (Way (after now e) → Way (run (after now e) events)) → Way (run (after now e) events)
      by (inl next) on = on next
      by (inr less) on =
          let shorter = list_never_grows (after now e) events legal.1 in
          let all : length (run (after now e) events).due ≡ length rest = ap length last in
          let was : length now.due ≡ length rest = ap length way.due in
          absurd (omega (arith, less, shorter, all, was))

  module _ (is_due : IsDue t o rest) where
    -- the first message
    pub sets_out : (m : Message) → May t (Send m) → Way (after t (Send m))
    sets_out m may = record { middle = every-event-keeps t (Send m) may granted (in_relation None t (rest-is-middle t is_due.rests)); due = stands.1; stands = stands.0 }
      where
        granted : GrantedBeside t t.healing
        granted = subst (GrantedBeside t) (sym is_due.rests.healed) (subst (λ (p : List Message × Option Open × List Mark). BeginsGranted t p.0 p.1 p.2) (λ i. (sym is_due.rests.owed i, sym is_due.rests.closed i, sym is_due.due i)) is_due.granted)

        begun : sent t m t.owed t.healing t.current ≡ begins t m (Call o ∷ rest)
        begun = (λ i. sent t m (is_due.rests.owed i) (is_due.rests.healed i) (is_due.rests.closed i)) ∙ ap (begins t m) is_due.due

        stands : StandsSo t o (after t (Send m)) × ((after t (Send m)).due ≡ rest)
        stands = subst (λ (u : Track). StandsSo t o u × (u.due ≡ rest)) (sym begun) (IsOpen refl refl refl, refl)

    leads : (m : Message) (events : List Event) → Legal t (Send m ∷ events) → (run t (Send m ∷ events)).due ≡ rest → IsOver (run t (Send m ∷ events)) → LedBack t o rest (run t (Send m ∷ events))
    leads m events legal last over = by way.stands
      where
        way : Way (run t (Send m ∷ events))
        way = goes_on (after t (Send m)) events legal.1 last (sets_out m legal.0)

        none_some : (x : Operation) → None ≡ Some x → ⊥
        none_some x is = cc is

        by : StandsSo t o (run t (Send m ∷ events)) → LedBack t o rest (run t (Send m ∷ events))
        by (IsOpen operation plain owners) = absurd (none_some o.operation (sym (ap operation_in over.closed) ∙ operation))
        by (IsDone operation plain owners) = record { rests = over_rests (run t (Send m ∷ events)) over way.middle; plain = plain; owners = owners; due = last }

pub leads-back : LeadsBackThroughCrashes
leads-back t o rest m events is_due legal last over = leads t o rest is_due m events legal last over
