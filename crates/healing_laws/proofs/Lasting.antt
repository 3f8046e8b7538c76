-- A refusal that is on its way keeps its cause, crashes and healing included.
use Rattle.std.proofs.Common.{◌≡◌, ◌⊎◌, ◌/◌, ◌<◌, ◌==◌, ◌||◌, [], ◌∷◌, ◌++◌, ◌∙◌, ℕ, Bool, List, None, Option, Some, ap, append-nil, append_assoc, arith, cond, drop, false, inl, inr, is_some, length, refl, slice_get, subst, sym, true}
use Rattle.std.specs.List.{AllByRecursion}
use Rattle.lego_base.specs.declared.ids.MemId.{MemId}
use Rattle.lego_base.specs.declared.ids.OpNo.{OpNo}
use Rattle.lego_base.specs.declared.records.HomeEntry.{HomeEntry}
use Rattle.lego_base.specs.declared.records.PageImage.{PageImage}
use Rattle.lego_msg.specs.Completions.{MayComplete, completed, completed_beside, finished, move_finished}
use Rattle.lego_msg.specs.Crashes.{crashed}
use Rattle.lego_msg.specs.Deliveries.{MayDeliver, comes, issuer_gets, memory_handles, noted, noted_by_move, noted_with, reaction_of, reacts, stops, taken}
use Rattle.lego_msg.specs.Files.{is_room}
use Rattle.lego_msg.specs.Healing.{ask_of}
use Rattle.lego_msg.specs.Legal.{Legal, May}
use Rattle.lego_msg.specs.Marks.{Call, Mark, Show}
use Rattle.lego_msg.specs.Operations.{asks_of, messages_of, patch_of}
use Rattle.lego_msg.specs.Places.{lose, memory, same_place}
use Rattle.lego_msg.specs.Plain.{Plain, effect, touched}
use Rattle.lego_msg.specs.Run.{after, run}
use Rattle.lego_msg.specs.Sends.{IsFirst, IsMove, MayBegin, MaySend, begins, move_begins, open_move, sent}
use Rattle.lego_msg.specs.State.{Mem}
use Rattle.lego_msg.specs.Table.{handled, stored}
use Rattle.lego_msg.specs.Track.{Track, healing_move, is_complete, memory_count}
use Rattle.lego_msg.specs.declared.body.Body.{Body}
use Rattle.lego_msg.specs.declared.body.Body.TheVariants as body
use Rattle.lego_msg.specs.declared.event.Event.{Event}
use Rattle.lego_msg.specs.declared.event.Event.TheVariants.{Access, Complete, Crash, Deliver, Drop, Fill, Out, Send, Turn}
use Rattle.lego_msg.specs.declared.healing.Healing.{Healing}
use Rattle.lego_msg.specs.declared.healing.Move.{Move}
use Rattle.lego_msg.specs.declared.healing.Move.TheVariants.{Asks, HandsImages, HandsMeta, HandsPages}
use Rattle.lego_msg.specs.declared.message.Message.{Message}
use Rattle.lego_msg.specs.declared.operation.Open.{Open}
use Rattle.lego_msg.specs.declared.operation.Operation.{Operation}
use Rattle.lego_msg.specs.declared.operation.Operation.TheVariants.{Heals}
use Rattle.lego_msg.specs.declared.place.Place.{Place}
use Rattle.lego_msg.specs.declared.place.Place.TheVariants.{Manager, Memory, Processor, Storage}
use Rattle.lego_rest.proofs.Resting.{rest-is-middle}
use Rattle.lego_rest.specs.Answers.{all_pending}
use Rattle.lego_rest.specs.Heals.{HandsOver, HealFits, MoveFits, MoveGot, Scene, scene_of}
use Rattle.lego_rest.specs.Parts.{Page, Sides, owns, plain_with, sides_of}
use Rattle.lego_rest.specs.Pending.{Among, Goes, IsBatch, IsOfMove, Left, MayPend, OfBackground, OfMove, OfOperation, Pends, Returns}
use Rattle.lego_rest.specs.Rest.{CurrentFits, Middle}
use Rattle.rest_laws.proofs.Bare.{calm_on}
use Rattle.rest_laws.proofs.Caused.{served_goes}
use Rattle.rest_laws.proofs.Delivered.{left_of}
use Rattle.rest_laws.proofs.Following.{IsServed, all_served}
use Rattle.rest_laws.proofs.Goes.{called_of}
use Rattle.rest_laws.proofs.Meeting.{memory_same}
use Rattle.rest_laws.proofs.Opened.{all_among, all_both, among_middle, every}
use Rattle.rest_laws.proofs.Refusing.{reaction_goes}
use Rattle.rest_laws.proofs.Taken.{all_taken, whole}
use Rattle.rest_laws.specs.Causes.{IsTooMuch}
use Rattle.rest_laws.specs.GoingOn.{BeginsGranted, owners_with}
use Rattle.healing_laws.proofs.Causing.{Roomy, rest_roomy, roomy_after}
use Rattle.healing_laws.proofs.EndsBeside.{same_lost}
use Rattle.healing_laws.proofs.Events.{every-event-keeps, in_relation}
use Rattle.healing_laws.proofs.Frames.{was_there}
use Rattle.healing_laws.proofs.LeadsBack.{Ends, Same, Shrinks, Stays, Steps, comes_same, completed_due, completed_steps, crashed_same, operation_in}
use Rattle.healing_laws.proofs.MovesAre.{AskIs, MoveIs, OfImages, OfLog, OfMain, OfPages, OfSpare}
use Rattle.healing_laws.proofs.OnItsWay.{OnItsWay, on_its_way}
use Rattle.healing_laws.proofs.Refusers.{MemoryRefuses, StorageRefuses, memory_from, storage_from}
use Rattle.healing_laws.proofs.Refuses.{memory_causes, storage_causes}
use Rattle.healing_laws.specs.Refusals.{HasCauseNow, IsMemoryRefusal, IsStorageRefusal, PendingRefusalsHaveCauses}
use Rattle.healing_laws.specs.Running.{GrantedAll, GrantedBeside, InRelation, IsGrantedThere, lost_in}
use Rattle.lego_msg.specs.declared.place.Place.TheVariants as place
use Rattle.lego_msg.specs.declared.place.Why.TheVariants as why

quiet : (t : Track) (x : Message) → stops x.body ≡ false → HasCauseNow t x
quiet t x goes stop = let both : false ≡ true = sym goes ∙ stop in cc both

-- A STEP THAT CHANGES neither the plain map, nor the owners, nor which operation is open, leaves a cause
abbrev plain_by : Option Operation → Plain → Plain
plain_by None f = f
plain_by (Some o) f = effect o f

plain_is : (c : Option Open) (f : Plain) → plain_with c f ≡ plain_by (operation_in c) f
plain_is None f = refl
plain_is (Some o) f = refl

stays : (t u : Track) → Same t u → (x : Message) → HasCauseNow t x → HasCauseNow u x
stays t u same x cause stop = by (cause stop)
  where
    plain_same : plain_with t.current t.plain ≡ plain_with u.current u.plain
    plain_same = plain_is t.current t.plain ∙ (λ i. plain_by (sym same.operation i) (sym same.plain i)) ∙ sym (plain_is u.current u.plain)

    by : IsMemoryRefusal t x ⊎ IsStorageRefusal t x → IsMemoryRefusal u x ⊎ IsStorageRefusal u x
    by (inl it) =
        let was = was_there u.mems t.mems it.k it.s (sym (same.frames it.k)) it.at in
        inl (record {
          k = it.k;
          s = was.before;
          from = it.from;
          told = it.told;
          at = was.at;
          full = subst (λ (p : List HomeEntry × Plain × ℕ). IsTooMuch p.0 p.1 it.k p.2) (λ i. (sym same.owners i, plain_same i, was.frames i)) it.full;
        })
    by (inr it) = inr (record { from = it.from; told = it.told; full = (λ i. is_room (same.plain i).files (sym plain_same i).files.files) ∙ it.full })

-- WITH NOTHING OPEN OR HEALING nothing refuses
calm_quiet : (t : Track) → t.current ≡ None → t.healing ≡ None → InRelation t → AllByRecursion (λ (x : Message). stops x.body ≡ false) (all_pending t)
calm_quiet t closed healed middle = every old (all_pending t) (subst (λ (p : Option Open × Option Healing). AllByRecursion (MayPend (lost_in p.1) (memory_count t.shape) t.plain p.0 (healing_move p.1) t.next) (all_pending t)) (λ i. (closed i, healed i)) middle.pending)
  where
    old : (y : Message) → MayPend None (memory_count t.shape) t.plain None None t.next y → stops y.body ≡ false
    old y pend = by pend.kind
      where
        batch : (j : ℕ) → IsBatch y j → stops y.body ≡ false
        batch j (Goes from to patches is) = ap stops is
        batch j (Returns from to is) = ap stops is

        by : Pends None (memory_count t.shape) t.plain None None t.next y → stops y.body ≡ false
        by (OfOperation of) = absurd of
        by (OfMove of) = absurd of
        by (OfBackground of) = batch of.of of.batch
        by (Left old_) = ap stops old_.drained

abbrev Caused : Track → Type 0
Caused t = AllByRecursion (HasCauseNow t) (all_pending t)

calm_caused : (t : Track) → t.current ≡ None → t.healing ≡ None → InRelation t → Caused t
calm_caused t closed healed middle = every (quiet t) (all_pending t) (calm_quiet t closed healed middle)

-- WHAT A MOVE ASKS doesn't refuse, and what it is answered refuses only as a full memory that is healed
asked_goes : (n c : ℕ) (owners : List HomeEntry) (to : Place) (what : Body) → AskIs n c owners to what → stops what ≡ false
asked_goes n c owners to what (OfLog e at) = ap stops e
asked_goes n c owners to what (OfSpare who e at) = ap stops e
asked_goes n c owners to what (OfMain who e at) = ap stops e
asked_goes n c owners to what (OfImages pid region e at mine) = ap stops e
asked_goes n c owners to what (OfPages pid region e at mine) = ap stops e

told_goes : (w : Sides) (n c : ℕ) (owners : List HomeEntry) (move : Move) (told : Body) → MoveIs n c owners move → HandsOver w c move told → stops told ≡ false
told_goes w n c owners (Asks to what) told is hands = ap stops hands ∙ asked_goes n c owners to what is
told_goes w n c owners (HandsMeta to role) told is hands = ap stops hands.1
told_goes w n c owners (HandsImages to pid region) told is hands = ap stops hands.1
told_goes w n c owners (HandsPages pid region) told is hands = ap stops hands.1

no_stop : {A : Type 0} (told : Body) → stops told ≡ false → stops told ≡ true → A
no_stop told goes stop = let both : false ≡ true = sym goes ∙ stop in cc both

got_stops : (w : Scene) (n c : ℕ) (owners : List HomeEntry) (move : Move) (got : Body) → MoveIs n c owners move → MoveGot w c move got → stops got ≡ true → ((ask_of move None).to ≡ memory c) × (got ≡ body.Refused why.Full)
got_stops w n c owners (Asks to what) got is it stop = by is
  where
    by : AskIs n c owners to what → ((ask_of (Asks to what) None).to ≡ memory c) × (got ≡ body.Refused why.Full)
    by (OfLog e at) = no_stop got (ap stops (subst (λ (b : Body). MoveGot w c (Asks to b) got) e it).0) stop
    by (OfSpare who e at) = no_stop got (ap stops (subst (λ (b : Body). MoveGot w c (Asks to b) got) e it).1) stop
    by (OfMain who e at) = no_stop got (ap stops (subst (λ (b : Body). MoveGot w c (Asks to b) got) e it).1) stop
    by (OfImages pid region e at mine) = no_stop got (ap stops (subst (λ (b : Body). MoveGot w c (Asks to b) got) e it).1) stop
    by (OfPages pid region e at mine) = no_stop got (ap stops (subst (λ (b : Body). MoveGot w c (Asks to b) got) e it).1) stop
got_stops w n c owners (HandsMeta to role) got is it stop = no_stop got (ap stops it) stop
got_stops w n c owners (HandsImages to pid region) got is (inl it) stop = no_stop got (ap stops it) stop
got_stops w n c owners (HandsImages to pid region) got is (inr (inl it)) stop = (is.0, it)
got_stops w n c owners (HandsImages to pid region) got is (inr (inr none)) stop = absurd none
got_stops w n c owners (HandsPages pid region) got is it stop = no_stop got (ap stops it) stop

-- a pending refusal of a move is of the memory that is healed
record OfLost (h : Healing) (x : Message) : Type 0 where
  from : x.from ≡ memory h.memory.0

of_move_stops : (lost : Option ℕ) (t : Track) (h : Healing) → t.healing ≡ Some h → t.stopped ≡ false → Middle lost t → AllByRecursion (λ (x : Message). IsOfMove x h.current → stops x.body ≡ true → OfLost h x) (all_pending t)
of_move_stops lost t h heals goes_on middle = by h.current refl
  where
    none : (xs : List Message) → AllByRecursion (λ (x : Message). IsOfMove x None → stops x.body ≡ true → OfLost h x) xs
    none [] = tt
    none (x ∷ xs) = (λ of stop. absurd of, none xs)

    by : (c : Option Open) → h.current ≡ c → AllByRecursion (λ (x : Message). IsOfMove x c → stops x.body ≡ true → OfLost h x) (all_pending t)
    by None now = none (all_pending t)
    by (Some o) now =
        let way = on_its_way lost t h.memory.0 h ((subst (HealFits lost t) heals middle.healing).1 goes_on) o middle now in
        every (each way.move way.of way.fits) (all_pending t) way.fits.answering
      where
        each : (move : Move) → MoveIs (memory_count t.shape) h.memory.0 t.owners move → (fit : MoveFits (scene_of t) h.memory.0 (all_pending t) t.next o move) → (x : Message) → (x.op.0 ≡ o.number.0 → x.to ≡ place.Manager → (x.from ≡ fit.to) × MoveGot (scene_of t) h.memory.0 move x.body) → IsOfMove x (Some o) → stops x.body ≡ true → OfLost h x
        each move of fit x heard it stop = elim it.1 [
          | inl first ↦ no_stop x.body (first_goes (subst (λ (p : Operation). Among x (messages_of o.by o.number (asks_of 0 p))) fit.is first)) stop
          | inr answer ↦
              let got = heard it.0 answer.0 in
              record { from = got.0 ∙ fit.receiver ∙ (got_stops (scene_of t) (memory_count t.shape) h.memory.0 t.owners move x.body of got.1 stop).0 }
        ]
          where
            first_goes : Among x (record { from = o.by; to = fit.to; op = o.number; body = fit.told } ∷ []) → stops x.body ≡ false
            first_goes (inl e) = ap (λ (y : Message). stops y.body) e ∙ told_goes (scene_of t).sides (memory_count t.shape) h.memory.0 t.owners move fit.told of fit.hands
            first_goes (inr e) = absurd e

-- DELIVERIES
all_zip : {X : Type 0} (P Q : X → Type 0) → (xs : List X) → AllByRecursion P xs → AllByRecursion Q xs → AllByRecursion (λ (x : X). P x × Q x) xs
all_zip P Q [] p q = tt
all_zip P Q (x ∷ xs) p q = ((p.0, q.0), all_zip P Q xs p.1 q.1)

module _ (t : Track) (m : Message) (may : MayDeliver t m) (middle : InRelation t) (roomy : Roomy t) (caused : Caused t) where
  left : AllByRecursion (HasCauseNow t) (left_of t)
  left = subst (AllByRecursion (HasCauseNow t)) (ap (λ (ms : List Message). left_of t ++ ms) may.owed ∙ append-nil (left_of t)) (all_taken (HasCauseNow t) (all_pending t) (all_pending (taken t)) m (whole t m may) caused).1

  with_left : (out : List Message) → AllByRecursion (HasCauseNow t) out → AllByRecursion (HasCauseNow t) (left_of t ++ out)
  with_left out all = all_both (HasCauseNow t) (left_of t) out left all

  taken_caused : AllByRecursion (HasCauseNow t) (left_of t ++ t.owed)
  taken_caused = subst (λ (ms : List Message). AllByRecursion (HasCauseNow t) (left_of t ++ ms)) (sym may.owed) (with_left [] tt)

  noted_caused : (c : Option Open) → AllByRecursion (HasCauseNow t) (all_pending (noted (taken t) m c))
  noted_caused None = taken_caused
  noted_caused (Some o) = under (m.op.0 == o.number.0)
    where
      react : (r : Option Body) → reaction_of (patch_of o.operation) m.body ≡ r → AllByRecursion (HasCauseNow t) (all_pending (reacts (taken t) o m r))
      react None is = taken_caused
      react (Some what) is = with_left (record { from = m.to; to = m.from; op = m.op; body = what } ∷ []) (quiet t (record { from = m.to; to = m.from; op = m.op; body = what }) (reaction_goes (patch_of o.operation) m.body what is), tt)

      under : (b : Bool) → AllByRecursion (HasCauseNow t) (all_pending (cond b (reacts (taken t) o m (reaction_of (patch_of o.operation) m.body)) (taken t)))
      under true = react (reaction_of (patch_of o.operation) m.body) refl
      under false = taken_caused

  beside_caused : (g : Option Healing) → AllByRecursion (HasCauseNow t) (all_pending (noted_with (taken t) m g))
  beside_caused None = noted_caused t.current
  beside_caused (Some h) = by h.current
    where
      by : (move : Option Open) → AllByRecursion (HasCauseNow t) (all_pending (noted_by_move (taken t) m h move))
      by None = noted_caused t.current
      by (Some o) = under (m.op.0 == o.number.0)
        where
          under : (b : Bool) → AllByRecursion (HasCauseNow t) (all_pending (cond b (record (taken t) { healing = Some (record h { current = Some (record o { answers = record { place = m.from; body = m.body } ∷ o.answers }) }) }) (noted (taken t) m t.current)))
          under true = taken_caused
          under false = noted_caused t.current

  issuer_caused : AllByRecursion (HasCauseNow t) (all_pending (issuer_gets (taken t) m))
  issuer_caused = by (stops m.body)
    where
      by : (b : Bool) → AllByRecursion (HasCauseNow t) (all_pending (cond b (record (taken t) { stopped = true }) (noted_with (taken t) m t.healing)))
      by true = taken_caused
      by false = beside_caused t.healing

  memory_caused : (k : ℕ) → m.to ≡ memory k → (c : Option Mem) → slice_get t.mems k ≡ c → AllByRecursion (HasCauseNow t) (all_pending (memory_handles (taken t) k m c))
  memory_caused k to None at = taken_caused
  memory_caused k to (Some s) at = with_left (handled s m).1 (every each (handled s m).1 (all_zip _ _ (handled s m).1 (memory_from s m) (memory_causes (lost_in t.healing) t m may middle k s to at roomy)))
    where
      each : (r : Message) → (stops r.body ≡ true → MemoryRefuses s.id r) × (stops r.body ≡ true → IsTooMuch t.owners (plain_with t.current t.plain) k s.frames) → HasCauseNow t r
      each r it stop = inl (record { k = k; s = s; from = (it.0 stop).0 ∙ ap memory (middle.forms k s at).id; told = (it.0 stop).1; at = at; full = it.1 stop })

  storage_caused : m.to ≡ place.Storage → AllByRecursion (HasCauseNow t) (left_of t ++ (stored t.disk m).1)
  storage_caused to = with_left (stored t.disk m).1 (every each (stored t.disk m).1 (all_zip _ _ (stored t.disk m).1 (storage_from t.disk m) (storage_causes (lost_in t.healing) t m may middle to)))
    where
      each : (r : Message) → (stops r.body ≡ true → StorageRefuses r) × (stops r.body ≡ true → is_room t.plain.files (plain_with t.current t.plain).files.files ≡ false) → HasCauseNow t r
      each r it stop = inr (record { from = (it.0 stop).0; told = (it.0 stop).1; full = it.1 stop })

  deliver_caused : Caused (comes (taken t) m m.to)
  deliver_caused = every (stays t (comes (taken t) m m.to) (comes_same t m m.to)) (all_pending (comes (taken t) m m.to)) (by m.to refl)
    where
      by : (to : Place) → m.to ≡ to → AllByRecursion (HasCauseNow t) (all_pending (comes (taken t) m to))
      by (Processor cpu) is = issuer_caused
      by (Memory k) is = memory_caused k.0 is (slice_get t.mems k.0) refl
      by Storage is = storage_caused is
      by Manager is = issuer_caused

-- SENDS
abbrev begun_of : Track → Move → Healing → Open
begun_of t move h = record (open_move t move h.got) { unsent = [] }

abbrev going_of : Track → Move → List Move → Healing → Healing
going_of t move moves h = record h { moves = moves; current = Some (begun_of t move h); got = None }

module _ (t : Track) (m : Message) (middle : InRelation t) (caused : Caused t) where
  -- one more that doesn't refuse
  more_caused : t.owed ≡ [] → stops m.body ≡ false → AllByRecursion (HasCauseNow t) ((t.net ++ m ∷ []) ++ t.owed)
  more_caused settled goes = subst (λ (ms : List Message). AllByRecursion (HasCauseNow t) ((t.net ++ m ∷ []) ++ ms)) (sym settled) (subst (AllByRecursion (HasCauseNow t)) (sym (append-nil (t.net ++ m ∷ []))) (all_both (HasCauseNow t) t.net (m ∷ []) (subst (AllByRecursion (HasCauseNow t)) (ap (λ (ms : List Message). t.net ++ ms) settled ∙ append-nil t.net) caused) (quiet t m goes, tt)))

  first_goes : (o : Open) → t.current ≡ Some o → IsFirst m o.unsent → stops m.body ≡ false
  first_goes o is first = served_goes m (all_among IsServed (messages_of o.by o.number (asks_of (memory_count t.shape) o.operation)) m among (all_served (memory_count t.shape) o.by o.number o.operation (called_of t.owners t.plain o.operation fits.0.fits)))
    where
      fits : CurrentFits t (Some o)
      fits = subst (CurrentFits t) is middle.current

      unsent : (ms : List Message) → IsFirst m ms → ms ≡ m ∷ drop 1 ms
      unsent [] is = absurd is
      unsent (y ∷ more) is = ap (λ (z : Message). z ∷ more) (sym is)

      among : Among m (messages_of o.by o.number (asks_of (memory_count t.shape) o.operation))
      among = subst (Among m) (ap (λ (ms : List Message). fits.0.sent.0 ++ ms) (sym (unsent o.unsent first)) ∙ fits.0.sent.1) (among_middle m fits.0.sent.0 (drop 1 o.unsent))

  begun_caused : (due : List Mark) → t.owed ≡ [] → t.current ≡ None → t.healing ≡ None → MayBegin t m due → BeginsGranted t [] None due → Caused (begins t m due)
  begun_caused [] settled closed healed may granted = absurd may
  begun_caused (Show e ∷ due) settled closed healed may granted = absurd may
  begun_caused (Call o ∷ due) settled closed healed may granted = every (quiet (begins t m (Call o ∷ due))) ((t.net ++ m ∷ []) ++ t.owed) (subst (λ (ms : List Message). AllByRecursion (λ (x : Message). stops x.body ≡ false) ((t.net ++ m ∷ []) ++ ms)) (sym settled) (subst (AllByRecursion (λ (x : Message). stops x.body ≡ false)) (sym (append-nil (t.net ++ m ∷ []))) (all_both (λ (x : Message). stops x.body ≡ false) t.net (m ∷ []) (subst (AllByRecursion (λ (x : Message). stops x.body ≡ false)) (ap (λ (ms : List Message). t.net ++ ms) settled ∙ append-nil t.net) (calm_quiet t closed healed middle)) (first, tt))))
    where
      first : stops m.body ≡ false
      first = by (messages_of o.by (record { 0 = t.next }) (asks_of (memory_count t.shape) o.operation)) may.0 (all_served (memory_count t.shape) o.by (record { 0 = t.next }) o.operation (called_of (owners_with o t.owners) t.plain o.operation granted.fits))
        where
          by : (ms : List Message) → IsFirst m ms → AllByRecursion IsServed ms → stops m.body ≡ false
          by [] is served = absurd is
          by (y ∷ more) is served = served_goes m (subst IsServed (sym is) served.0)

  -- a move's message
  moved_caused : (h : Healing) (moves : List Move) → t.healing ≡ Some h → t.owed ≡ [] → t.stopped ≡ false → IsMove t m h h.current moves → InRelation (move_begins t m h moves) → Caused (move_begins t m h moves)
  moved_caused h moves heals settled goes_on is then_ = by h.current moves is then_
    where
      by : (c : Option Open) (moves : List Move) → IsMove t m h c moves → InRelation (move_begins t m h moves) → Caused (move_begins t m h moves)
      by (Some o) moves is then_ = absurd is
      by None [] is then_ = absurd is
      by None (move ∷ moves) is then_ = every (stays t (move_begins t m h (move ∷ moves)) (record { plain = refl; owners = refl; due = refl; operation = refl; frames = λ k. refl })) ((t.net ++ m ∷ []) ++ t.owed) (more_caused settled goes)
        where
          way : OnItsWay (move_begins t m h (move ∷ moves)) h.memory.0 (going_of t move moves h) (then_.healing.1 goes_on) (begun_of t move h)
          way = on_its_way (Some h.memory.0) (move_begins t m h (move ∷ moves)) h.memory.0 (going_of t move moves h) (then_.healing.1 goes_on) (begun_of t move h) then_ refl

          same_body : (to to' : Place) (a b : Body) → Heals to a ≡ Heals to' b → a ≡ b
          same_body to to' a b e = cc e

          goes : stops m.body ≡ false
          goes = ap (λ (y : Message). stops y.body) is ∙ ap stops (same_body (ask_of move h.got).to way.fits.to (ask_of move h.got).body way.fits.told way.fits.is) ∙ told_goes (sides_of (move_begins t m h (move ∷ moves))) (memory_count t.shape) h.memory.0 t.owners way.move way.fits.told way.of way.fits.hands

  send_caused : MaySend t m t.owed t.healing t.current → GrantedBeside t t.healing → InRelation (sent t m t.owed t.healing t.current) → Caused (sent t m t.owed t.healing t.current)
  send_caused may granted then_ = by t.owed t.healing t.current refl refl refl may then_
    where
      alike : (owed : List Message) (net : List Message) → Same t (record t { net = net; owed = owed })
      alike owed net = record { plain = refl; owners = refl; due = refl; operation = refl; frames = λ k. refl }

      by : (owed : List Message) (h : Option Healing) (c : Option Open) → t.owed ≡ owed → t.healing ≡ h → t.current ≡ c → MaySend t m owed h c → InRelation (sent t m owed h c) → Caused (sent t m owed h c)
      by (x ∷ more) h c owing heals is may then_ = every (stays t (record t { net = t.net ++ m ∷ []; owed = more }) (alike more (t.net ++ m ∷ []))) ((t.net ++ m ∷ []) ++ more) (subst (AllByRecursion (HasCauseNow t)) (sym (append_assoc t.net (m ∷ []) more ∙ ap (λ (z : Message). t.net ++ z ∷ more) may ∙ ap (λ (ms : List Message). t.net ++ ms) (sym owing))) caused)
      by [] (Some h) c owing heals is may then_ = moved_caused h h.moves heals owing (calm_on t may.0) may.1 then_
      by [] None (Some o) owing heals is may then_ = every (stays t (sent t m [] None (Some o)) (record { plain = refl; owners = refl; due = refl; operation = sym (ap operation_in is); frames = λ k. refl })) ((t.net ++ m ∷ []) ++ t.owed) (more_caused owing (first_goes o is may.1))
      by [] None None owing heals is may then_ = begun_caused t.due owing is heals may.1 (subst (λ (p : List Message × Option Open). BeginsGranted t p.0 p.1 t.due) (λ i. (owing i, is i)) (subst (GrantedBeside t) heals granted))

-- CRASHES
lose_all : (P : Message → Type 0) (p : Place) (xs : List Message) → AllByRecursion P xs → AllByRecursion P (lose p xs)
lose_all P p [] all = tt
lose_all P p (x ∷ xs) all = by (same_place x.from p || same_place x.to p) (lose_all P p xs all.1)
  where
    by : (b : Bool) → AllByRecursion P (lose p xs) → AllByRecursion P (cond b (lose p xs) (x ∷ lose p xs))
    by true rest = rest
    by false rest = (all.0, rest)

crash_caused : (t : Track) (number : MemId) → t.owed ≡ [] → Caused t → Caused (crashed t number.0)
crash_caused t number settled caused = every (stays t (crashed t number.0) (crashed_same t number)) (all_pending (crashed t number.0)) (subst (λ (ms : List Message). AllByRecursion (HasCauseNow t) (lose (memory number.0) t.net ++ ms)) (sym settled) (all_both (HasCauseNow t) (lose (memory number.0) t.net) [] (lose_all (HasCauseNow t) (memory number.0) t.net (subst (AllByRecursion (HasCauseNow t)) (ap (λ (ms : List Message). t.net ++ ms) settled ∙ append-nil t.net) caused)) tt))

-- COMPLETIONS
module _ (t : Track) (middle : InRelation t) (caused : Caused t) where
  finished_pending : (c : Option Open) → all_pending (finished t c) ≡ all_pending t
  finished_pending None = refl
  finished_pending (Some o) = refl

  completed_pending : (number : ℕ) (g : Option Healing) → all_pending (completed t number g) ≡ all_pending t
  completed_pending number None = finished_pending t.current
  completed_pending number (Some h) = by h.current
    where
      moved : (o : Open) (moves : List Move) → all_pending (move_finished t h o moves) ≡ all_pending t
      moved o [] = refl
      moved o (move ∷ moves) = refl

      by : (c : Option Open) → all_pending (completed_beside t number h c) ≡ all_pending t
      by None = finished_pending t.current
      by (Some o) = under (o.number.0 == number)
        where
          under : (b : Bool) → all_pending (cond b (move_finished t h o h.moves) (finished t t.current)) ≡ all_pending t
          under true = moved o h.moves
          under false = finished_pending t.current

  -- the open operation ends while a memory is healed: no refusal is on its way
  module _ (h : Healing) (heals : t.healing ≡ Some h) (o : Open) (is : t.current ≡ Some o) (goes_on : t.stopped ≡ false) (settled : t.owed ≡ []) (complete : is_complete t.net o ≡ true) (roomy : Roomy t) (then_ : InRelation (finished t (Some o))) where
    busy : Middle (Some h.memory.0) (record t { current = Some o; healing = Some h; owed = [] })
    busy = subst (λ (p : List Message × Option Open × Option Healing). Middle (lost_in p.2) (record t { owed = p.0; current = p.1; healing = p.2 })) (λ i. (settled i, is i, heals i)) middle

    -- what the memory that is healed owns is the same before and after
    unchanged : (s : Mem) → slice_get t.mems h.memory.0 ≡ Some s → IsTooMuch t.owners (effect o.operation t.plain) h.memory.0 s.frames → ⊥
    unchanged s at too = roomy h.memory.0 s at (record { pages = too.pages; rise = too.rise; more = too.more; there = every each too.pages too.there })
      where
        each : (p : PageImage) → (owns t.owners h.memory.0 p.pid.0 (p.vpn.0 / 512) ≡ true) × (touched (effect o.operation t.plain) p.pid.0 p.vpn.0 ≡ true) → (owns t.owners h.memory.0 p.pid.0 (p.vpn.0 / 512) ≡ true) × (touched t.plain p.pid.0 p.vpn.0 ≡ true)
        each p it =
            let shares = same_lost (Some h.memory.0) t o h goes_on complete busy (Page p.pid.0 p.vpn.0) in
            let pages_same : t.plain.page p.pid.0 p.vpn.0 ≡ (effect o.operation t.plain).page p.pid.0 p.vpn.0 =
            sym (ap (λ (b : Bool). cond b (t.plain.page p.pid.0 p.vpn.0) None) it.0) ∙ shares ∙ ap (λ (b : Bool). cond b ((effect o.operation t.plain).page p.pid.0 p.vpn.0) None) it.0 in
            (it.0, ap is_some pages_same ∙ it.1)

    none_stops : (x : Message) → HasCauseNow t x × ((IsOfMove x h.current → stops x.body ≡ true → OfLost h x) × MayPend (lost_in t.healing) (memory_count t.shape) (effect o.operation t.plain) None (healing_move t.healing) t.next x) → stops x.body ≡ true → ⊥
    none_stops x it stop = by it.1.1.kind
      where
        batch : (j : ℕ) → IsBatch x j → stops x.body ≡ false
        batch j (Goes from to patches told) = ap stops told
        batch j (Returns from to told) = ap stops told

        storage : memory h.memory.0 ≡ place.Storage → ⊥
        storage e = cc e

        refused : OfLost h x → IsMemoryRefusal t x ⊎ IsStorageRefusal t x → ⊥
        refused of (inr r) = storage (sym of.from ∙ r.from)
        refused of (inl r) =
            let same : r.k ≡ h.memory.0 = memory_same r.k h.memory.0 (sym r.from ∙ of.from) in
            unchanged r.s (ap (slice_get t.mems) (sym same) ∙ r.at) (subst (λ (p : ℕ × Option Open). IsTooMuch t.owners (plain_with p.1 t.plain) p.0 r.s.frames) (λ i. (same i, is i)) r.full)

        by : Pends (lost_in t.healing) (memory_count t.shape) (effect o.operation t.plain) None (healing_move t.healing) t.next x → ⊥
        by (OfOperation of) = absurd of
        by (OfMove of) = refused (it.1.0 (subst (λ (g : Option Healing). IsOfMove x (healing_move g)) heals of) stop) (it.0 stop)
        by (OfBackground of) = no_stop x.body (batch of.of of.batch) stop
        by (Left old) = no_stop x.body (ap stops old.drained) stop

    ended_beside : Caused (finished t (Some o))
    ended_beside = every (λ x it stop. absurd (none_stops x it stop)) (all_pending t) (all_zip (HasCauseNow t) _ (all_pending t) caused (all_zip _ _ (all_pending t) (of_move_stops (lost_in t.healing) t h heals goes_on middle) then_.pending))

  complete_caused : (op : OpNo) → MayComplete t op → Roomy t → InRelation (completed t op.0 t.healing) → Caused (completed t op.0 t.healing)
  complete_caused op may roomy then_ = by (completed_steps t op may)
    where
      same_due : length (completed t op.0 t.healing).due < length t.due → ⊥
      same_due less = let same : length (completed t op.0 t.healing).due ≡ length t.due = ap length (completed_due t op.0 t.healing) in omega (arith, less, same)

      ended : (o : Open) → t.current ≡ Some o → is_complete t.net o ≡ true → InRelation (finished t (Some o)) → (g : Option Healing) → t.healing ≡ g → Caused (finished t (Some o))
      ended o is complete over None heals = calm_caused (finished t (Some o)) refl heals over
      ended o is complete over (Some h) heals = ended_beside h heals o is may.goes_on may.owed complete roomy over

      by : Steps t (completed t op.0 t.healing) → Caused (completed t op.0 t.healing)
      by (Stays same) = every (stays t (completed t op.0 t.healing) same) (all_pending (completed t op.0 t.healing)) (subst (AllByRecursion (HasCauseNow t)) (sym (completed_pending op.0 t.healing)) caused)
      by (Ends o is complete are) = subst Caused (sym are) (ended o is complete (subst InRelation are then_) t.healing refl)
      by (Shrinks less) = absurd (same_due less)

-- EVERY EVENT keeps it
caused_after : (t : Track) (e : Event) → May t e → IsGrantedThere t e → InRelation t → InRelation (after t e) → Roomy t → Caused t → Caused (after t e)
caused_after t (Turn number pid) may granted middle then_ roomy caused = calm_caused (after t (Turn number pid)) may.0.0.closed may.0.0.healed then_
caused_after t (Access cpu pid address kind bytes) may granted middle then_ roomy caused = calm_caused (after t (Access cpu pid address kind bytes)) may.0.0.closed may.0.0.healed then_
caused_after t (Fill pid address bytes) may granted middle then_ roomy caused = calm_caused (after t (Fill pid address bytes)) may.0.closed may.0.healed then_
caused_after t (Drop cpu pid line) may granted middle then_ roomy caused = calm_caused (after t (Drop cpu pid line)) may.0.0.closed may.0.0.healed then_
caused_after t (Send m) may granted middle then_ roomy caused = send_caused t m middle caused may granted then_
caused_after t (Deliver m) may granted middle then_ roomy caused = deliver_caused t m may middle roomy caused
caused_after t (Crash number inc) may granted middle then_ roomy caused = crash_caused t number may.owed caused
caused_after t (Complete op) may granted middle then_ roomy caused = complete_caused t middle caused op may roomy then_
caused_after t (Out stream bytes) may granted middle then_ roomy caused = calm_caused (after t (Out stream bytes)) may.0.closed may.0.healed then_

caused_list : (t : Track) (events : List Event) → InRelation t → Roomy t → Caused t → Legal t events → GrantedAll t events → Caused (run t events)
caused_list t [] middle roomy caused legal granted = caused
caused_list t (e ∷ events) middle roomy caused legal granted =
    let then_ = every-event-keeps t e legal.0 granted.0 middle in
    caused_list (after t e) events then_ (roomy_after t e legal.0 granted.0 middle roomy) (caused_after t e legal.0 granted.0 middle then_ roomy caused) legal.1 granted.1

pub pending-refusals-have-causes : PendingRefusalsHaveCauses
pending-refusals-have-causes t events rest legal granted = front (run t events).net (run t events).owed (caused_list t events (in_relation None t (rest-is-middle t rest)) (rest_roomy t rest) (calm_caused t rest.closed rest.healed (in_relation None t (rest-is-middle t rest))) legal granted)
  where
    front : (net out : List Message) → AllByRecursion (HasCauseNow (run t events)) (net ++ out) → AllByRecursion (HasCauseNow (run t events)) net
    front [] out all = tt
    front (x ∷ net) out all = (all.0, front net out all.1)
