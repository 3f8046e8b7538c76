-- From rest, with one granted operation due and no other one after it, every legal list is one of granted operations.
use Rattle.std.proofs.Common.{◌≡◌, ◌⊎◌, ◌<◌, [], ◌∷◌, ◌++◌, ◌∙◌, ℕ, Bool, List, None, Option, Some, ap, arith, cond, drop, false, inl, inr, length, refl, slice_get, subst, sym, true}
use Rattle.std.proofs.lemmas.Bool.Decides.{eqb_tells}
use Rattle.std.specs.Prelude.{slice_set, ◌==◌}
use Rattle.lego_base.specs.declared.ids.MemId.{MemId}
use Rattle.lego_base.specs.declared.records.HomeEntry.{HomeEntry}
use Rattle.lego_base.specs.declared.records.Patch.{Patch}
use Rattle.lego_base.specs.declared.shape.Shape.{Shape}
use Rattle.lego_msg.proofs.Flow.{issuer_same, shape_along}
use Rattle.lego_msg.proofs.Senders.{get_set, get_set_other, same_some}
use Rattle.lego_msg.specs.Completions.{owners_after, completed, completed_beside, finished, move_finished, sent_again}
use Rattle.lego_msg.specs.Crashes.{crashed, forgotten, memory_lost}
use Rattle.lego_msg.specs.Deliveries.{MayDeliver, comes, issuer_gets, memory_handles, taken}
use Rattle.lego_msg.specs.Granted.{Granted, IsClear, IsThere, OpFits}
use Rattle.lego_msg.specs.Legal.{Legal, May}
use Rattle.lego_msg.specs.Maps.{home_key, owner_of}
use Rattle.lego_msg.specs.Marks.{Call, Mark, Order, Show}
use Rattle.lego_msg.specs.Operations.{is_write}
use Rattle.lego_msg.specs.Places.{memory}
use Rattle.lego_msg.specs.Plain.{Plain, effect}
use Rattle.lego_msg.specs.Run.{after, run}
use Rattle.lego_msg.specs.Sends.{MaySend, begins, move_begins, sent}
use Rattle.lego_msg.specs.ShownEvents.{IsNext}
use Rattle.lego_msg.specs.State.{Mem, lost}
use Rattle.lego_msg.specs.Table.{handled}
use Rattle.lego_msg.specs.Track.{Track, memory_count}
use Rattle.lego_msg.specs.declared.event.Event.{Event}
use Rattle.lego_msg.specs.declared.event.Event.TheVariants.{Access, Complete, Crash, Deliver, Drop, Fill, Out, Send, Turn}
use Rattle.lego_msg.specs.declared.healing.Healing.{Healing}
use Rattle.lego_msg.specs.declared.healing.Move.{Move}
use Rattle.lego_msg.specs.declared.message.Message.{Message}
use Rattle.lego_msg.specs.declared.operation.Open.{Open}
use Rattle.lego_msg.specs.declared.operation.Operation.{Operation}
use Rattle.lego_msg.specs.declared.operation.Operation.TheVariants.{Drains}
use Rattle.lego_msg.specs.declared.place.Place.{Place}
use Rattle.lego_msg.specs.declared.place.Place.TheVariants.{Manager, Memory, Processor, Storage}
use Rattle.lego_base.specs.Keys.{Rises}
use Rattle.lego_rest.proofs.Resting.{rest-is-middle}
use Rattle.lego_rest.specs.Answers.{is_writing}
use Rattle.lego_rest.specs.Rest.{AtRest}
use Rattle.rest_laws.proofs.Bare.{calm_on}
use Rattle.rest_laws.specs.GoingOn.{BeginsGranted, IsDue, LedBack, owners_with}
use Rattle.rest_laws.specs.Logs.{IsEmptyAt}
use Rattle.healing_laws.proofs.Dry.{drains-empty-there}
use Rattle.healing_laws.proofs.Emptying.{empty-logs-stay-there, empty_after}
use Rattle.healing_laws.specs.Emptying.{CallsDrainLogs, CallsKeepEmptyLogs}
use Rattle.healing_laws.proofs.Events.{every-event-keeps, in_relation, over_rests}
use Rattle.healing_laws.proofs.LeadsBack.{comes_same, completed_due, leads-back, operation_in}
use Rattle.healing_laws.proofs.Playing.{every-track-is-playable}
use Rattle.healing_laws.proofs.Unwritten.{log_ends}
use Rattle.healing_laws.specs.Playing.{CallsArePlayable, CallsNone, MarksArePlayable}
use Rattle.healing_laws.specs.Running.{GrantedAll, GrantedBeside, InRelation, IsGrantedThere, IsOver}

-- WITH NO OPERATION DUE none begins
drop_none : (due : List Mark) → CallsNone due → CallsNone (drop 1 due)
drop_none [] none = tt
drop_none (Call o ∷ due) none = absurd none
drop_none (Show e ∷ due) none = none

module _ (t : Track) (none : CallsNone t.due) where
  none_begins : (owed : List Message) (c : Option Open) (due : List Mark) → CallsNone due → BeginsGranted t owed c due
  none_begins (x ∷ owed) c due calls = tt
  none_begins [] (Some o) [] calls = tt
  none_begins [] (Some o) (d ∷ due) calls = tt
  none_begins [] None [] calls = tt
  none_begins [] None (Show e ∷ due) calls = tt
  none_begins [] None (Call o ∷ due) calls = absurd calls

  grants : (h : Option Healing) → GrantedBeside t h
  grants None = none_begins t.owed t.current t.due none
  grants (Some h) = tt

  none_granted : (e : Event) → IsGrantedThere t e
  none_granted (Turn number pid) = tt
  none_granted (Access cpu pid address kind bytes) = tt
  none_granted (Fill pid address bytes) = tt
  none_granted (Drop cpu pid line) = tt
  none_granted (Send m) = grants t.healing
  none_granted (Deliver m) = tt
  none_granted (Crash number inc) = tt
  none_granted (Complete op) = tt
  none_granted (Out stream bytes) = tt

  sent_none : (m : Message) (owed : List Message) (h : Option Healing) (c : Option Open) → CallsNone (sent t m owed h c).due
  sent_none m (x ∷ more) h c = none
  sent_none m [] (Some h) c = by h.moves
    where
      by : (moves : List Move) → CallsNone (move_begins t m h moves).due
      by [] = none
      by (move ∷ moves) = none
  sent_none m [] None (Some o) = none
  sent_none m [] None None = by t.due none
    where
      by : (due : List Mark) → CallsNone due → CallsNone (begins t m due).due
      by [] calls = none
      by (Show e ∷ due) calls = none
      by (Call o ∷ due) calls = absurd calls

  none_after : (e : Event) → CallsNone (after t e).due
  none_after (Turn number pid) = drop_none t.due none
  none_after (Access cpu pid address kind bytes) = drop_none t.due none
  none_after (Fill pid address bytes) = drop_none t.due none
  none_after (Drop cpu pid line) = drop_none t.due none
  none_after (Send m) = sent_none m t.owed t.healing t.current
  none_after (Deliver m) = subst CallsNone (sym (comes_same t m m.to).due) none
  none_after (Crash number inc) = none
  none_after (Complete op) = subst CallsNone (sym (completed_due t op.0 t.healing)) none
  none_after (Out stream bytes) = drop_none t.due none

pub none_all : (t : Track) (events : List Event) → CallsNone t.due → GrantedAll t events
none_all t [] none = tt
none_all t (e ∷ events) none = (none_granted t none e, none_all (after t e) events (none_after t none e))

-- UNTIL IT BEGINS an operation stays granted
end_clear : (o : Operation) (front log : List Patch) → IsClear o (front ++ log) → IsClear o log
end_clear o [] log clear = clear
end_clear o (p ∷ front) log clear = end_clear o front log clear.1

abbrev Clear : Operation → List Mem → Type 0
Clear o mems = (m : ℕ) (s : Mem) → slice_get mems m ≡ Some s → IsClear o s.log

set_clear : (o : Operation) (mems : List Mem) (k : ℕ) (s s' : Mem) → slice_get mems k ≡ Some s → IsClear o s'.log → Clear o mems → Clear o (slice_set mems k s')
set_clear o mems k s s' at new_ clear m x there = elim (eqb_tells k m) [
  | inl same ↦ subst (λ (y : Mem). IsClear o y.log) (same_some s' x (sym (get_set mems k s s' at) ∙ ap (slice_get (slice_set mems k s')) same.1 ∙ there)) new_
  | inr differ ↦ clear m x (sym (get_set_other mems k m s' differ.1) ∙ there)
]

module _ (t : Track) (o : Order) (rest : List Mark) (granted : Granted t o.by o.operation (owners_with o t.owners)) (none : CallsNone rest) where
  record Waits (now : Track) : Type 0 where
    middle : InRelation now
    closed : now.current ≡ None
    due : now.due ≡ Call o ∷ rest
    plain : now.plain ≡ t.plain
    owners : now.owners ≡ t.owners
    shape : now.shape ≡ t.shape
    clear : Clear o.operation now.mems

  granted_now : (now : Track) → Waits now → Granted now o.by o.operation (owners_with o now.owners)
  granted_now now waits = record {
    issuer = granted.issuer;
    grow = subst (λ (es : List HomeEntry). (pid region : ℕ) (m : MemId) → owner_of es pid region ≡ Some m → owner_of (owners_with o es) pid region ≡ Some m) (sym waits.owners) granted.grow;
    within = subst (λ (p : List HomeEntry × Shape). (pid region : ℕ) (m : MemId) → owner_of (owners_with o p.0) pid region ≡ Some m → m.0 < memory_count p.1) (λ i. (sym waits.owners i, sym waits.shape i)) granted.within;
    rise = subst (λ (es : List HomeEntry). Rises home_key (owners_with o es)) (sym waits.owners) granted.rise;
    there = subst (λ (shape : Shape). IsThere (memory_count shape) o.operation) (sym waits.shape) granted.there;
    fits = subst (λ (p : List HomeEntry × Plain). OpFits (owners_with o p.0) p.1 o.operation) (λ i. (sym waits.owners i, sym waits.plain i)) granted.fits;
    clear = waits.clear;
  }

  grants_now : (now : Track) → Waits now → (e : Event) → IsGrantedThere now e
  grants_now now waits (Turn number pid) = tt
  grants_now now waits (Access cpu pid address kind bytes) = tt
  grants_now now waits (Fill pid address bytes) = tt
  grants_now now waits (Drop cpu pid line) = tt
  grants_now now waits (Send m) = by now.healing
    where
      begin : (owed : List Message) → BeginsGranted now owed None (Call o ∷ rest)
      begin [] = granted_now now waits
      begin (x ∷ owed) = tt

      by : (h : Option Healing) → GrantedBeside now h
      by None = subst (λ (p : Option Open × List Mark). BeginsGranted now now.owed p.0 p.1) (λ i. (sym waits.closed i, sym waits.due i)) (begin now.owed)
      by (Some h) = tt
  grants_now now waits (Deliver m) = tt
  grants_now now waits (Crash number inc) = tt
  grants_now now waits (Complete op) = tt
  grants_now now waits (Out stream bytes) = tt

  abbrev Onward : Track → Type 0
  Onward now = Waits now ⊎ CallsNone now.due

  no_show : (now : Track) → Waits now → (e : Event) → IsNext e now.due → ⊥
  no_show now waits e is = subst (IsNext e) waits.due is

  -- what an event changes of it
  record Alike (now then_ : Track) : Type 0 where
    closed : then_.current ≡ None
    due : then_.due ≡ now.due
    plain : then_.plain ≡ now.plain
    owners : then_.owners ≡ now.owners
    clear : Clear o.operation then_.mems

  alike_waits : (now : Track) (e : Event) → May now e → InRelation (after now e) → Waits now → Alike now (after now e) → Waits (after now e)
  alike_waits now e may then_ waits alike = record {
    middle = then_;
    closed = alike.closed;
    due = alike.due ∙ waits.due;
    plain = alike.plain ∙ waits.plain;
    owners = alike.owners ∙ waits.owners;
    shape = shape_along now (e ∷ []) (may, tt) ∙ waits.shape;
    clear = alike.clear;
  }

  sent_on : (now : Track) (m : Message) → MaySend now m now.owed now.healing now.current → Waits now → Alike now (sent now m now.owed now.healing now.current) ⊎ CallsNone (sent now m now.owed now.healing now.current).due
  sent_on now m may waits = by now.owed now.healing now.current waits.closed
    where
      moves : (h : Healing) (ms : List Move) → Alike now (move_begins now m h ms)
      moves h [] = record { closed = waits.closed; due = refl; plain = refl; owners = refl; clear = waits.clear }
      moves h (move ∷ ms) = record { closed = waits.closed; due = refl; plain = refl; owners = refl; clear = waits.clear }

      by : (owed : List Message) (h : Option Healing) (c : Option Open) → c ≡ None → Alike now (sent now m owed h c) ⊎ CallsNone (sent now m owed h c).due
      by (x ∷ more) h c is = inl (record { closed = waits.closed; due = refl; plain = refl; owners = refl; clear = waits.clear })
      by [] (Some h) c is = inl (moves h h.moves)
      by [] None (Some one) is = cc is
      by [] None None is = inr (subst (λ (due : List Mark). CallsNone (begins now m due).due) (sym waits.due) none)

  no_operation : (c : Option Open) (d : Option Open) → operation_in c ≡ operation_in d → d ≡ None → c ≡ None
  no_operation None d same is = refl
  no_operation (Some one) d same is = let both : Some one.operation ≡ None = same ∙ ap operation_in is in cc both

  delivered_on : (now : Track) (m : Message) → MayDeliver now m → Waits now → Alike now (comes (taken now) m m.to)
  delivered_on now m may waits = record {
    closed = no_operation (comes (taken now) m m.to).current now.current (comes_same now m m.to).operation waits.closed;
    due = (comes_same now m m.to).due;
    plain = (comes_same now m m.to).plain;
    owners = (comes_same now m m.to).owners;
    clear = by m.to refl;
  }
    where
      issuer : Clear o.operation (issuer_gets (taken now) m).mems
      issuer = subst (Clear o.operation) (sym (issuer_same (taken now) m).mems) waits.clear

      at_memory : (k : ℕ) → m.to ≡ memory k → (c : Option Mem) → slice_get now.mems k ≡ c → Clear o.operation (memory_handles (taken now) k m c).mems
      at_memory k to None at = waits.clear
      at_memory k to (Some s) at =
          let ends = log_ends now m may waits.middle (ap is_writing waits.closed) k to s in
          set_clear o.operation now.mems k s (handled s m).0 at (end_clear o.operation ends.0 (handled s m).0.log (subst (IsClear o.operation) (sym ends.1) (waits.clear k s at))) waits.clear

      by : (to : Place) → m.to ≡ to → Clear o.operation (comes (taken now) m to).mems
      by (Processor cpu) is = issuer
      by (Memory k) is = at_memory k.0 is (slice_get now.mems k.0) refl
      by Storage is = waits.clear
      by Manager is = issuer

  crashed_on : (now : Track) (number : MemId) → Waits now → Alike now (crashed now number.0)
  crashed_on now number waits = record {
    closed = ap (forgotten (memory number.0)) waits.closed;
    due = refl;
    plain = refl;
    owners = refl;
    clear = by (slice_get now.mems number.0) refl;
  }
    where
      by : (c : Option Mem) → slice_get now.mems number.0 ≡ c → Clear o.operation (memory_lost now.mems number.0 c)
      by None at = waits.clear
      by (Some s) at = set_clear o.operation now.mems number.0 s (lost s) at tt waits.clear

  completed_on : (now : Track) (number : ℕ) → Waits now → (g : Option Healing) → Alike now (completed now number g)
  completed_on now number waits = by
    where
      over : (c : Option Open) → c ≡ None → Alike now (finished now c)
      over None is = record { closed = waits.closed; due = refl; plain = refl; owners = refl; clear = waits.clear }
      over (Some one) is = cc is

      moved : (h : Healing) (one : Open) (moves : List Move) → Alike now (move_finished now h one moves)
      moved h one [] = record { closed = ap (sent_again now) waits.closed; due = refl; plain = refl; owners = refl; clear = waits.clear }
      moved h one (move ∷ moves) = record { closed = waits.closed; due = refl; plain = refl; owners = refl; clear = waits.clear }

      beside : (h : Healing) (c : Option Open) → Alike now (completed_beside now number h c)
      beside h None = over now.current waits.closed
      beside h (Some one) = under (one.number.0 == number)
        where
          under : (b : Bool) → Alike now (cond b (move_finished now h one h.moves) (finished now now.current))
          under true = moved h one h.moves
          under false = over now.current waits.closed

      by : (g : Option Healing) → Alike now (completed now number g)
      by None = over now.current waits.closed
      by (Some h) = beside h h.current

  onward : (now : Track) (e : Event) → May now e → Waits now → Onward (after now e)
  onward now e may waits = by e may (every-event-keeps now e may (grants_now now waits e) waits.middle)
    where
      by : (e : Event) → May now e → InRelation (after now e) → Onward (after now e)
      by (Turn number pid) may then_ = absurd (no_show now waits (Turn number pid) may.0.1)
      by (Access cpu pid address kind bytes) may then_ = absurd (no_show now waits (Access cpu pid address kind bytes) may.0.1)
      by (Fill pid address bytes) may then_ = absurd (no_show now waits (Fill pid address bytes) may.1)
      by (Drop cpu pid line) may then_ = absurd (no_show now waits (Drop cpu pid line) may.0.1)
      by (Send m) may then_ = elim (sent_on now m may waits) [
        | inl alike ↦ inl (alike_waits now (Send m) may then_ waits alike)
        | inr calls ↦ inr calls
      ]
      by (Deliver m) may then_ = inl (alike_waits now (Deliver m) may then_ waits (delivered_on now m may waits))
      by (Crash number inc) may then_ = inl (alike_waits now (Crash number inc) may then_ waits (crashed_on now number waits))
      by (Complete op) may then_ = inl (alike_waits now (Complete op) may then_ waits (completed_on now op.0 waits now.healing))
      by (Out stream bytes) may then_ = absurd (no_show now waits (Out stream bytes) may.1)

  all_granted : (now : Track) (events : List Event) → Legal now events → Onward now → GrantedAll now events
  all_granted now [] legal on = tt
  all_granted now (e ∷ events) legal (inr calls) = none_all now (e ∷ events) calls
  all_granted now (e ∷ events) legal (inl waits) = (grants_now now waits e, all_granted (after now e) events legal.1 (onward now e legal.0 waits))

  -- IT LEADS BACK, also where memories crash and are healed before it begins
  longer : (x : Mark) (due : List Mark) → x ∷ due ≡ due → ⊥
  longer x due same = let more : length (x ∷ due) ≡ length due = ap length same in absurd (omega (arith, more))

  led_from : (now then_ : Track) → Waits now → LedBack now o rest then_ → LedBack t o rest then_
  led_from now then_ waits led = record {
    rests = led.rests;
    plain = led.plain ∙ ap (effect o.operation) waits.plain;
    owners = led.owners ∙ ap (λ (es : List HomeEntry). owners_after o.operation (owners_with o es)) waits.owners;
    due = led.due;
  }

  stays_or_begins : (now : Track) (e : Event) → May now e → Waits now → Waits (after now e) ⊎ ((m : Message) × (e ≡ Send m) × AtRest now)
  stays_or_begins now e may waits = by e may (every-event-keeps now e may (grants_now now waits e) waits.middle)
    where
      send : (m : Message) → MaySend now m now.owed now.healing now.current → Alike now (sent now m now.owed now.healing now.current) ⊎ AtRest now
      send m may = under now.owed now.healing now.current may refl refl waits.closed
        where
          moves : (h : Healing) (ms : List Move) → Alike now (move_begins now m h ms)
          moves h [] = record { closed = waits.closed; due = refl; plain = refl; owners = refl; clear = waits.clear }
          moves h (move ∷ ms) = record { closed = waits.closed; due = refl; plain = refl; owners = refl; clear = waits.clear }

          under : (owed : List Message) (h : Option Healing) (c : Option Open) → MaySend now m owed h c → now.owed ≡ owed → now.healing ≡ h → c ≡ None → Alike now (sent now m owed h c) ⊎ AtRest now
          under (x ∷ more) h c may is healed closed = inl (record { closed = waits.closed; due = refl; plain = refl; owners = refl; clear = waits.clear })
          under [] (Some h) c may is healed closed = inl (moves h h.moves)
          under [] None (Some one) may is healed closed = cc closed
          under [] None None may is healed closed = inr (over_rests now (record { closed = waits.closed; healed = healed; goes_on = calm_on now may.0 }) waits.middle)

      by : (e : Event) → May now e → InRelation (after now e) → Waits (after now e) ⊎ ((m : Message) × (e ≡ Send m) × AtRest now)
      by (Turn number pid) may then_ = absurd (no_show now waits (Turn number pid) may.0.1)
      by (Access cpu pid address kind bytes) may then_ = absurd (no_show now waits (Access cpu pid address kind bytes) may.0.1)
      by (Fill pid address bytes) may then_ = absurd (no_show now waits (Fill pid address bytes) may.1)
      by (Drop cpu pid line) may then_ = absurd (no_show now waits (Drop cpu pid line) may.0.1)
      by (Send m) may then_ = elim (send m may) [
        | inl alike ↦ inl (alike_waits now (Send m) may then_ waits alike)
        | inr rests ↦ inr (m, refl, rests)
      ]
      by (Deliver m) may then_ = inl (alike_waits now (Deliver m) may then_ waits (delivered_on now m may waits))
      by (Crash number inc) may then_ = inl (alike_waits now (Crash number inc) may then_ waits (crashed_on now number waits))
      by (Complete op) may then_ = inl (alike_waits now (Complete op) may then_ waits (completed_on now op.0 waits now.healing))
      by (Out stream bytes) may then_ = absurd (no_show now waits (Out stream bytes) may.1)

  -- what holds once it is complete, by what holds until it begins and what its way gives from there on
  module _ (K P : Track → Type 0) (keeps : (now : Track) (e : Event) → May now e → Waits now → K now → K (after now e)) (gives : (now : Track) (m : Message) (events : List Event) → IsDue now o rest → Waits now → K now → Legal now (Send m ∷ events) → (run now (Send m ∷ events)).due ≡ rest → IsOver (run now (Send m ∷ events)) → P (run now (Send m ∷ events))) where
    holds_after : (now : Track) (events : List Event) → Legal now events → (run now events).due ≡ rest → IsOver (run now events) → Waits now → K now → P (run now events)
    holds_after now [] legal last over waits held = absurd (longer (Call o) rest (sym waits.due ∙ last))
    holds_after now (e ∷ events) legal last over waits held = by (stays_or_begins now e legal.0 waits) (λ next. holds_after (after now e) events legal.1 last over next (keeps now e legal.0 waits held))
      where
        by : Waits (after now e) ⊎ ((m : Message) × (e ≡ Send m) × AtRest now) → (Waits (after now e) → P (run now (e ∷ events))) → P (run now (e ∷ events))
        by (inl next) on = on next
        by (inr begun) on =
            let m = begun.0 in
            let is : e ≡ Send m = begun.1 in
            subst (λ (x : Event). P (run now (x ∷ events))) (sym is)
            (gives now m events (record { rests = begun.2; due = waits.due; granted = granted_now now waits }) waits held
            (subst (λ (x : Event). Legal now (x ∷ events)) is legal)
            (subst (λ (x : Event). (run now (x ∷ events)).due ≡ rest) is last)
            (subst (λ (x : Event). IsOver (run now (x ∷ events))) is over))

  led_on : (now : Track) (events : List Event) → Legal now events → (run now events).due ≡ rest → IsOver (run now events) → Waits now → LedBack t o rest (run now events)
  led_on now events legal last over waits = holds_after (λ x. Unit {0}) (LedBack t o rest) (λ x e may at held. tt)
      (λ x m more is at held legal last over. led_from x (run x (Send m ∷ more)) at (leads-back x o rest m more is legal last over))
      now events legal last over waits tt

  -- logs that are empty stay so, where it doesn't write; and a drain empties its own
  dry_on : (k : ℕ) → is_write o.operation ≡ false → (now : Track) (events : List Event) → Legal now events → (run now events).due ≡ rest → IsOver (run now events) → Waits now → IsEmptyAt now k → IsEmptyAt (run now events) k
  dry_on k none now events legal last over waits empty = holds_after (λ x. IsEmptyAt x k) (λ x. IsEmptyAt x k)
      (λ x e may at held. empty_after x k at.middle (ap is_writing at.closed) held e may)
      (λ x m more is at held legal last over. empty-logs-stay-there x o rest m more k is legal last none held)
      now events legal last over waits empty

  drained_on : (d : MemId) → o.operation ≡ Drains d → (now : Track) (events : List Event) → Legal now events → (run now events).due ≡ rest → IsOver (run now events) → Waits now → IsEmptyAt (run now events) d.0
  drained_on d drains now events legal last over waits = holds_after (λ x. Unit {0}) (λ x. IsEmptyAt x d.0) (λ x e may at held. tt)
      (λ x m more is at held legal last over. drains-empty-there x o rest m more d is legal last over drains)
      now events legal last over waits tt

due_waits : (t : Track) (o : Order) (rest : List Mark) (is : IsDue t o rest) (none : CallsNone rest) → Waits t o rest is.granted none t
due_waits t o rest is none = record {
  middle = in_relation None t (rest-is-middle t is.rests);
  closed = is.rests.closed;
  due = is.due;
  plain = refl;
  owners = refl;
  shape = refl;
  clear = is.granted.clear;
}

pub calls_are_granted : (t : Track) (o : Order) (rest : List Mark) (events : List Event) → IsDue t o rest → CallsNone rest → Legal t events → GrantedAll t events
calls_are_granted t o rest events is none legal = all_granted t o rest is.granted none t events legal (inl (due_waits t o rest is none))

pub calls_lead_back : (t : Track) (o : Order) (rest : List Mark) (events : List Event) → IsDue t o rest → CallsNone rest → Legal t events → (run t events).due ≡ rest → IsOver (run t events) → LedBack t o rest (run t events)
calls_lead_back t o rest events is none legal last over = led_on t o rest is.granted none t events legal last over (due_waits t o rest is none)

pub calls-keep-empty-logs : CallsKeepEmptyLogs
calls-keep-empty-logs t o rest events k is none legal last over unwritten empty = dry_on t o rest is.granted none k unwritten t events legal last over (due_waits t o rest is none) empty

pub calls-drain-logs : CallsDrainLogs
calls-drain-logs t o rest events d is none legal last over drains = drained_on t o rest is.granted none d drains t events legal last over (due_waits t o rest is none)

pub calls-are-playable : CallsArePlayable
calls-are-playable t o rest events is none legal = every-track-is-playable t events is.rests legal (calls_are_granted t o rest events is none legal)

pub marks-are-playable : MarksArePlayable
marks-are-playable t events rest none legal = every-track-is-playable t events rest legal (none_all t events none)
