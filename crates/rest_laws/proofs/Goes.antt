-- Every event with nothing lost, and legal lists without a crash.
use Rattle.std.proofs.Common.{◌≡◌, ◌==◌, ◌&&◌, [], ◌∷◌, ◌++◌, ◌∙◌, ℕ, Bool, List, None, Option, Some, ap, arith, cond, drop, false, not, refl, slice_get, subst, sym, true}
use Rattle.std.specs.List.{AllByRecursion}
use Rattle.lego_base.specs.declared.ids.OpNo.{OpNo}
use Rattle.lego_base.specs.declared.records.HomeEntry.{HomeEntry}
use Rattle.lego_msg.specs.Completions.{MayComplete, completed, done_or, finished}
use Rattle.lego_msg.specs.Deliveries.{MayDeliver, comes, is_sent, is_waiting, issuer_gets, memory_handles, noted, noted_with, reaction_of, reacts, stops, taken}
use Rattle.lego_msg.specs.Granted.{OpFits}
use Rattle.lego_msg.specs.Legal.{Legal}
use Rattle.lego_msg.specs.Marks.{Call, Mark, Show}
use Rattle.lego_msg.specs.Operations.{patch_of}
use Rattle.lego_msg.specs.Places.{secondary_of}
use Rattle.lego_msg.specs.Plain.{Plain}
use Rattle.lego_msg.specs.Run.{after, run}
use Rattle.lego_msg.specs.Sends.{IsFirst, MayBegin, MaySend, begins, sent}
use Rattle.lego_msg.specs.State.{Mem}
use Rattle.lego_msg.specs.ShownEvents.{accessed, filled_with, turned, with_line}
use Rattle.lego_msg.specs.Track.{Caches, Track, is_any_done, is_calm, healing_move, is_complete, is_crash_due, memory_count, opened}
use Rattle.lego_msg.specs.declared.clock.Clock.{Clock}
use Rattle.lego_msg.specs.declared.event.Event.{Event}
use Rattle.lego_msg.specs.declared.event.Event.TheVariants.{Access, Complete, Crash, Deliver, Drop, Fill, Out, Send, Turn}
use Rattle.lego_msg.specs.declared.healing.Healing.{Healing}
use Rattle.lego_msg.specs.declared.message.Message.{Message}
use Rattle.lego_msg.specs.declared.operation.Open.{Open}
use Rattle.lego_msg.specs.declared.operation.Operation.{Operation}
use Rattle.lego_msg.specs.declared.operation.Operation.TheVariants.{AsksAreas, AsksSize, Copies, CutsFile, CutsName, Drains, Drops, Finds, FreesFile, GetsName, Heals, ListsNames, MakesName, Reads, ReadsFile, SetsAreas, SetsHome, Unmaps, Writes, WritesFile}
use Rattle.lego_rest.proofs.Resting.{middle-is-rest, rest-is-middle}
use Rattle.lego_msg.specs.declared.body.Body.{Body}
use Rattle.lego_msg.specs.declared.place.Place.{Place}
use Rattle.lego_msg.specs.declared.place.Place.TheVariants.{Manager, Memory, Processor, Storage}
use Rattle.lego_rest.specs.Answers.{second_due}
use Rattle.lego_rest.specs.Fits.{IsRequest}
use Rattle.lego_rest.specs.Parts.{Areas, Cell, Home, Page}
use Rattle.lego_rest.specs.Rest.{CurrentFits, Middle}
use Rattle.rest_laws.proofs.Begun.{operation-begins}
use Rattle.rest_laws.proofs.Comes.{delivery_keeps}
use Rattle.rest_laws.proofs.Ended.{operation-ends}
use Rattle.rest_laws.proofs.Ends.{every-kind-ends}
use Rattle.rest_laws.proofs.Requests.{requests}
use Rattle.rest_laws.proofs.Sends.{first-is-sent, owed-is-sent}
use Rattle.rest_laws.specs.GoingOn.{BeginsGranted, EventsKeep, GrantedAlong, ListsEndAtRest, ListsKeep, owners_with}
use Rattle.rest_laws.specs.KindsEnding.{IsCalled}

-- WHERE NOTHING IS OPEN what is shown changes nothing
pub shown_keeps : (t : Track) (due : List Mark) (clock : Clock) (caches : Caches) → t.current ≡ None → t.healing ≡ None → Middle None t → Middle None (record t { due = due; clock = clock; caches = caches })
shown_keeps t due clock caches closed healed middle = subst (λ (p : Option Open × Option Healing). Middle None (record t { due = due; clock = clock; caches = caches; current = p.0; healing = p.1 })) (λ i. (sym closed i, sym healed i))
    (quiet (subst (λ (p : Option Open × Option Healing). Middle None (record t { current = p.0; healing = p.1 })) (λ i. (closed i, healed i)) middle))
  where
    quiet : Middle None (record t { current = None; healing = None }) → Middle None (record t { due = due; clock = clock; caches = caches; current = None; healing = None })
    quiet m = record {
      machine = m.machine;
      count = m.count;
      next = m.next;
      plain = m.plain;
      forms = m.forms;
      current = tt;
      memories = λ k s up at. let holds = m.memories k s up at in record { part = record { either = holds.part.either; told = λ c due. cc due }; batch = holds.batch; blocks = holds.blocks; log = holds.log };
      seconds = λ j x below up at. record { part = record { either = (m.seconds j x below up at).part.either; told = λ c now. absurd (none_due j c now) } };
      disk = record { files = m.disk.files; told = λ now. cc now; images = m.disk.images; form = m.disk.form };
      pending = m.pending;
      waiting = m.waiting;
      healing = refl;
      idle = m.idle;
    }
      where
        none_due : (j : ℕ) (c : Cell) → second_due (record t { due = due; clock = clock; caches = caches; current = None; healing = None }) (secondary_of (memory_count t.shape) j) c ≡ true → ⊥
        none_due j (Home p r) e = cc e
        none_due j (Areas p r) e = cc e
        none_due j (Page p v) e = cc e

-- SENDS
first_of : (m : Message) (unsent : List Message) → IsFirst m unsent → unsent ≡ m ∷ drop 1 unsent
first_of m [] is = absurd is
first_of m (x ∷ unsent) is = ap (λ (y : Message). y ∷ unsent) (sym is)

calm_crash : (t : Track) → is_calm t ≡ true → is_crash_due t ≡ false
calm_crash t calm = by t.stopped (is_any_done t) (is_crash_due t) calm
  where
    by : (a b c : Bool) → (not a && not b && not c) ≡ true → c ≡ false
    by true b c e = cc e
    by false true c e = cc e
    by false false true e = cc e
    by false false false e = refl

begin_keeps : (t : Track) (m : Message) (due : List Mark) → t.owed ≡ [] → t.current ≡ None → t.healing ≡ None → is_crash_due t ≡ false → MayBegin t m due → BeginsGranted t [] None due → Middle None t → Middle None (begins t m due)
begin_keeps t m [] settled closed healed calm may granted middle = absurd may
begin_keeps t m (Show e ∷ due) settled closed healed calm may granted middle = absurd may
begin_keeps t m (Call o ∷ due) settled closed healed calm may granted middle =
    let two_ = middle.machine.two in
    let unsent : (opened t.shape t.next o.by o.operation).unsent ≡ m ∷ drop 1 (opened t.shape t.next o.by o.operation).unsent = first_of m (opened t.shape t.next o.by o.operation).unsent may.0 in
    operation-begins t o.by o.operation (owners_with o t.owners) m (drop 1 (opened t.shape t.next o.by o.operation).unsent) (record t.caches { filled = None }) due settled closed healed calm unsent
    (subst (AllByRecursion (IsRequest (memory_count t.shape))) unsent (requests (memory_count t.shape) (omega (arith, two_)) o.by (record { 0 = t.next }) (owners_with o t.owners) t.plain granted.within o.operation granted.fits granted.there))
    granted middle

send_keeps : (t : Track) (m : Message) → MaySend t m t.owed t.healing t.current → BeginsGranted t t.owed t.current t.due → t.healing ≡ None → Middle None t → Middle None (sent t m t.owed t.healing t.current) × ((sent t m t.owed t.healing t.current).healing ≡ None)
send_keeps t m may granted healed middle = by t.owed t.healing t.current refl refl refl may granted
  where
    by : (owed : List Message) (h : Option Healing) (c : Option Open) → t.owed ≡ owed → t.healing ≡ h → t.current ≡ c → MaySend t m owed h c → BeginsGranted t owed c t.due → Middle None (sent t m owed h c) × ((sent t m owed h c).healing ≡ None)
    by (first ∷ more) h c owing heals is_open may granted = (subst (λ (x : Message). Middle None (record t { net = t.net ++ x ∷ []; owed = more })) (sym may) (owed-is-sent None t first more owing middle), healed)
    by [] (Some h) c owing heals is_open may granted = let both : None ≡ Some h = sym healed ∙ heals in cc both
    by [] None (Some o) owing heals is_open may granted = (first-is-sent t o m (drop 1 o.unsent) is_open healed owing (first_of m o.unsent may.1) middle, healed)
    by [] None None owing heals is_open may granted = (begin_keeps t m t.due owing is_open healed (calm_crash t may.0) may.1 granted middle, begun_calm t.due)
      where
        begun_calm : (due : List Mark) → (begins t m due).healing ≡ None
        begun_calm [] = healed
        begun_calm (Show e ∷ due) = healed
        begun_calm (Call o ∷ due) = healed

-- DELIVERIES
some_open : (t : Track) → t.healing ≡ None → is_waiting t.healing t.current ≡ true → (o : Open) × (t.current ≡ Some o)
some_open t healed waits = by t.current refl (ap (λ (h : Option Healing). is_waiting h t.current) (sym healed) ∙ waits)
  where
    by : (c : Option Open) → t.current ≡ c → is_sent c ≡ true → (o : Open) × (t.current ≡ Some o)
    by None is waits = cc waits
    by (Some o) is waits = (o, is)

deliver_keeps : (t : Track) (m : Message) → MayDeliver t m → t.healing ≡ None → Middle None t → Middle None (comes (taken t) m m.to)
deliver_keeps t m may healed middle =
    let is_open = some_open t healed may.waiting in
    subst (λ (p : Option Healing × Option Open). Middle None (comes (taken (record t { healing = p.0; current = p.1 })) m m.to)) (λ i. (sym healed i, sym is_open.1 i))
    (delivery_keeps t is_open.0 m
    (subst (λ (p : Option Healing × Option Open). MayDeliver (record t { healing = p.0; current = p.1 }) m) (λ i. (healed i, is_open.1 i)) may)
    (subst (λ (p : Option Healing × Option Open). Middle None (record t { healing = p.0; current = p.1 })) (λ i. (healed i, is_open.1 i)) middle))

-- COMPLETIONS
pub called_of : (owners : List HomeEntry) (f : Plain) (o : Operation) → OpFits owners f o → IsCalled o
called_of owners f (Finds pid region) fits = tt
called_of owners f (Reads pid line owner) fits = tt
called_of owners f (Writes origin patch owner) fits = tt
called_of owners f (SetsHome pid region owner) fits = tt
called_of owners f (SetsAreas pid region areas owner) fits = tt
called_of owners f (AsksAreas pid region owner) fits = tt
called_of owners f (Drains m) fits = tt
called_of owners f (Unmaps pid region first pages areas owner) fits = tt
called_of owners f (Copies parent child regions owner) fits = tt
called_of owners f (Drops pid) fits = tt
called_of owners f (ReadsFile file block off len) fits = tt
called_of owners f (WritesFile file block off bytes) fits = tt
called_of owners f (CutsFile file size) fits = tt
called_of owners f (AsksSize file) fits = tt
called_of owners f (GetsName name) fits = tt
called_of owners f (MakesName name) fits = tt
called_of owners f (CutsName name) fits = tt
called_of owners f ListsNames fits = tt
called_of owners f (FreesFile file) fits = tt
called_of owners f (Heals to what) fits = fits

-- the open operation is the one that is complete
pub complete_one : (net : List Message) (current : Option Open) (op : OpNo) → done_or net current None ≡ Some op → (o : Open) × (current ≡ Some o) × (is_complete net o ≡ true)
complete_one net None op is = cc is
complete_one net (Some o) op is = by (is_complete net o) refl is
  where
    by : (b : Bool) → is_complete net o ≡ b → cond b (Some o.number) None ≡ Some op → (x : Open) × (Some o ≡ Some x) × (is_complete net x ≡ true)
    by true e is = (o, refl, e)
    by false e is = cc is

pub end_keeps : (t : Track) (o : Open) → t.current ≡ Some o → t.healing ≡ None → t.owed ≡ [] → is_complete t.net o ≡ true → Middle None t → Middle None (finished t (Some o))
end_keeps t o is_open healed settled complete middle =
    let fits = subst (CurrentFits t) is_open middle.current in
    let two_ = middle.machine.two in
    operation-ends t o is_open healed settled complete (every-kind-ends (memory_count t.shape) t.owners t.plain o.operation (omega (arith, two_)) middle.plain fits.0.fits (called_of t.owners t.plain o.operation fits.0.fits)) middle

complete_keeps : (t : Track) (op : OpNo) → MayComplete t op → t.healing ≡ None → Middle None t → Middle None (completed t op.0 t.healing) × ((completed t op.0 t.healing).healing ≡ None)
complete_keeps t op may healed middle =
    let one = complete_one t.net t.current op (ap (λ (h : Option Healing). done_or t.net (healing_move h) (done_or t.net t.current None)) (sym healed) ∙ may.complete) in
    subst (λ (x : Track). Middle None x × (x.healing ≡ None)) (sym (ap (completed t op.0) healed ∙ ap (finished t) one.1)) (end_keeps t one.0 one.1 healed may.owed one.2 middle, healed)

-- a delivery begins no healing
healing_noted : (t : Track) (m : Message) (c : Option Open) → (noted t m c).healing ≡ t.healing
healing_noted t m None = refl
healing_noted t m (Some o) = by (m.op.0 == o.number.0) (reaction_of (patch_of o.operation) m.body)
  where
    by : (b : Bool) (r : Option Body) → (cond b (reacts t o m r) t).healing ≡ t.healing
    by true None = refl
    by true (Some what) = refl
    by false r = refl

delivered_calm : (t : Track) (m : Message) → t.healing ≡ None → (comes (taken t) m m.to).healing ≡ None
delivered_calm t m healed = by m.to
  where
    issuer : (issuer_gets (taken t) m).healing ≡ None
    issuer = under (stops m.body)
      where
        noted_calm : (h : Option Healing) → t.healing ≡ h → (noted_with (taken t) m h).healing ≡ None
        noted_calm None is = healing_noted (taken t) m t.current ∙ healed
        noted_calm (Some h) is = let both : None ≡ Some h = sym healed ∙ is in cc both

        under : (b : Bool) → (cond b (record (taken t) { stopped = true }) (noted_with (taken t) m t.healing)).healing ≡ None
        under true = healed
        under false = noted_calm t.healing refl

    memory_calm : (k : ℕ) (s : Option Mem) → (memory_handles (taken t) k m s).healing ≡ None
    memory_calm k None = healed
    memory_calm k (Some s) = healed

    by : (to : Place) → (comes (taken t) m to).healing ≡ None
    by (Processor cpu) = issuer
    by (Memory number) = memory_calm number.0 (slice_get t.mems number.0)
    by Storage = healed
    by Manager = issuer

-- EVERY EVENT
pub events-keep : EventsKeep
events-keep t (Turn number pid) may none granted healed middle = (shown_keeps t (drop 1 t.due) (turned t.shape number) t.caches may.0.0.closed healed middle, healed)
events-keep t (Access cpu pid address kind bytes) may none granted healed middle = (shown_keeps t (drop 1 t.due) t.clock (accessed t.caches cpu.0 pid.0 address kind bytes) may.0.0.closed healed middle, healed)
events-keep t (Fill pid address bytes) may none granted healed middle = (shown_keeps t (drop 1 t.due) t.clock (filled_with t.caches pid.0 address bytes) may.0.closed healed middle, healed)
events-keep t (Drop cpu pid line) may none granted healed middle = (shown_keeps t (drop 1 t.due) t.clock (with_line cpu.0 pid.0 line.0 None t.caches) may.0.0.closed healed middle, healed)
events-keep t (Send m) may none granted healed middle = send_keeps t m may granted healed middle
events-keep t (Deliver m) may none granted healed middle = (deliver_keeps t m may healed middle, delivered_calm t m healed)
events-keep t (Crash number inc) may none granted healed middle = absurd none
events-keep t (Complete op) may none granted healed middle = complete_keeps t op may healed middle
events-keep t (Out stream bytes) may none granted healed middle = (shown_keeps t (drop 1 t.due) t.clock t.caches may.0.closed healed middle, healed)

pub lists_from : (t : Track) (events : List Event) → t.healing ≡ None → Middle None t → Legal t events → GrantedAlong t events → Middle None (run t events) × ((run t events).healing ≡ None)
lists_from t [] healed middle legal granted = (middle, healed)
lists_from t (e ∷ events) healed middle legal granted = let next = events-keep t e legal.0 granted.0 granted.1 healed middle in lists_from (after t e) events next.1 next.0 legal.1 granted.2

pub lists-keep : ListsKeep
lists-keep t events rest legal granted = lists_from t events rest.healed (rest-is-middle t rest) legal granted

pub lists-end-at-rest : ListsEndAtRest
lists-end-at-rest t events rest legal granted closed goes =
    let ends = lists-keep t events rest legal granted in
    middle-is-rest (run t events) closed ends.1 goes ends.0
