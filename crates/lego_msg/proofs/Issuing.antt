-- A memory or storage sends only what it owes.
use Rattle.std.proofs.Common.{◌≡◌, [], ◌∷◌, ◌∙◌, ℕ, Bool, List, None, Option, Some, ap, cond, drop, eqb, false, refl, slice_get, subst, sym, true}
use Rattle.std.specs.List.{AllByRecursion}
use Rattle.lego_base.specs.declared.ids.OpNo.{OpNo}
use Rattle.lego_msg.proofs.Lists.{Legal-back, Legal-front}
use Rattle.lego_msg.specs.Completions.{completed, completed_beside, finished, move_finished, sent_again}
use Rattle.lego_msg.specs.Crashes.{forgotten}
use Rattle.lego_msg.specs.Deliveries.{answered, comes, issuer_gets, memory_handles, noted, noted_by_move, noted_with, reaction_of, reacts, stops, taken}
use Rattle.lego_msg.specs.Laws.{OthersSendWhatTheyOwe}
use Rattle.lego_msg.specs.Legal.{Legal}
use Rattle.lego_msg.specs.Marks.{Call, Mark, Show}
use Rattle.lego_msg.specs.Operations.{Ask, asks_of, messages_of, patch_of}
use Rattle.lego_msg.specs.Places.{is_issuer}
use Rattle.lego_msg.specs.Run.{after, run}
use Rattle.lego_msg.specs.Sends.{IsFirst, IsMove, MayBegin, MaySend, begins, move_begins, open_move, sent}
use Rattle.lego_msg.specs.State.{Mem}
use Rattle.lego_msg.specs.Track.{Track, memory_count, start}
use Rattle.lego_msg.specs.declared.body.Body.{Body}
use Rattle.lego_msg.specs.declared.event.Event.{Event}
use Rattle.lego_msg.specs.declared.event.Event.TheVariants.{Access, Complete, Crash, Deliver, Drop, Fill, Out, Send, Turn}
use Rattle.lego_msg.specs.declared.healing.Healing.{Healing}
use Rattle.lego_msg.specs.declared.healing.Move.{Move}
use Rattle.lego_msg.specs.declared.message.Message.{Message}
use Rattle.lego_msg.specs.declared.operation.Open.{Open}
use Rattle.lego_msg.specs.declared.place.Place.{Place}
use Rattle.lego_msg.specs.declared.place.Place.TheVariants.{Manager, Memory, Processor, Storage}

abbrev AllFrom : Place → List Message → Type 0
AllFrom by messages = AllByRecursion (λ (m : Message). m.from ≡ by) messages

-- an open operation is a processor's or the manager's, and so are its first messages
abbrev Issued : Option Open → Type 0
Issued None = Unit {0}
Issued (Some o) = (is_issuer o.by ≡ true) × AllFrom o.by o.unsent

messages_from : (by : Place) (n : OpNo) (asks : List Ask) → AllFrom by (messages_of by n asks)
messages_from by n [] = tt
messages_from by n (a ∷ asks) = (refl, messages_from by n asks)

rest_from : (by : Place) (messages : List Message) → AllFrom by messages → AllFrom by (drop 1 messages)
rest_from by [] all = tt
rest_from by (m ∷ messages) all = all.1

either_issued : (x y : Track) (b : Bool) → Issued x.current → Issued y.current → Issued (cond b x y).current
either_issued x y true p q = p
either_issued x y false p q = q

reacts_issued : (t : Track) (o : Open) (m : Message) (b : Option Body) → t.current ≡ Some o → Issued t.current → Issued (reacts t o m b).current
reacts_issued t o m None e issued = subst Issued e issued
reacts_issued t o m (Some b) e issued = issued

noted_issued : (t : Track) (m : Message) (o : Option Open) → t.current ≡ o → Issued t.current → Issued (noted t m o).current
noted_issued t m None e issued = issued
noted_issued t m (Some o) e issued = either_issued (reacts t o m (reaction_of (patch_of o.operation) m.body)) t (eqb m.op.0 o.number.0) (reacts_issued t o m (reaction_of (patch_of o.operation) m.body) e issued) issued

move_issued : (t : Track) (m : Message) (h : Healing) (o : Option Open) → Issued t.current → Issued (noted_by_move t m h o).current
move_issued t m h None issued = noted_issued t m t.current refl issued
move_issued t m h (Some o) issued = either_issued (record t { healing = Some (record h { current = Some (answered o m) }) }) (noted t m t.current) (eqb m.op.0 o.number.0) issued (noted_issued t m t.current refl issued)

with_issued : (t : Track) (m : Message) (h : Option Healing) → Issued t.current → Issued (noted_with t m h).current
with_issued t m None issued = noted_issued t m t.current refl issued
with_issued t m (Some h) issued = move_issued t m h h.current issued

issuer_issued : (t : Track) (m : Message) → Issued t.current → Issued (issuer_gets t m).current
issuer_issued t m issued = either_issued (record t { stopped = true }) (noted_with t m t.healing) (stops m.body) issued (with_issued t m t.healing issued)

handles_issued : (t : Track) (i : ℕ) (m : Message) (s : Option Mem) → Issued t.current → Issued (memory_handles t i m s).current
handles_issued t i m None issued = issued
handles_issued t i m (Some s) issued = issued

comes_issued : (t : Track) (m : Message) (to : Place) → Issued t.current → Issued (comes t m to).current
comes_issued t m (Processor cpu) issued = issuer_issued t m issued
comes_issued t m (Memory number) issued = handles_issued t number.0 m (slice_get t.mems number.0) issued
comes_issued t m Storage issued = issued
comes_issued t m Manager issued = issuer_issued t m issued

begins_issued : (t : Track) (m : Message) (due : List Mark) → MayBegin t m due → Issued (begins t m due).current
begins_issued t m [] may = absurd may
begins_issued t m (Show e ∷ due) may = absurd may
begins_issued t m (Call o ∷ due) may = (may.3, rest_from o.by _ (messages_from o.by (record { 0 = t.next }) (asks_of (memory_count t.shape) o.operation)))

moves_issued : (t : Track) (m : Message) (h : Healing) (moves : List Move) → Issued t.current → Issued (move_begins t m h moves).current
moves_issued t m h [] issued = issued
moves_issued t m h (move ∷ moves) issued = issued

sent_issued : (t : Track) (m : Message) (owed : List Message) (h : Option Healing) (o : Option Open) → t.current ≡ o → MaySend t m owed h o → Issued t.current → Issued (sent t m owed h o).current
sent_issued t m (x ∷ owed) h o e may issued = issued
sent_issued t m [] (Some h) o e may issued = moves_issued t m h h.moves issued
sent_issued t m [] None (Some o) e may issued =
    let here : Issued (Some o) = subst Issued e issued in
    (here.0, rest_from o.by o.unsent here.1)
sent_issued t m [] None None e may issued = begins_issued t m t.due may.1

forgotten_issued : (p : Place) (o : Option Open) → Issued o → Issued (forgotten p o)
forgotten_issued p None issued = tt
forgotten_issued p (Some o) issued = issued

again_issued : (t : Track) (o : Option Open) → Issued o → Issued (sent_again t o)
again_issued t None issued = tt
again_issued t (Some o) issued = (issued.0, messages_from o.by o.number (asks_of (memory_count t.shape) o.operation))

finished_issued : (t : Track) (o : Option Open) → Issued t.current → Issued (finished t o).current
finished_issued t None issued = issued
finished_issued t (Some o) issued = tt

move_finished_issued : (t : Track) (h : Healing) (o : Open) (moves : List Move) → Issued t.current → Issued (move_finished t h o moves).current
move_finished_issued t h o [] issued = again_issued t t.current issued
move_finished_issued t h o (move ∷ moves) issued = issued

beside_issued : (t : Track) (n : ℕ) (h : Healing) (o : Option Open) → Issued t.current → Issued (completed_beside t n h o).current
beside_issued t n h None issued = finished_issued t t.current issued
beside_issued t n h (Some o) issued = either_issued (move_finished t h o h.moves) (finished t t.current) (eqb o.number.0 n) (move_finished_issued t h o h.moves issued) (finished_issued t t.current issued)

completed_issued : (t : Track) (n : ℕ) (h : Option Healing) → Issued t.current → Issued (completed t n h).current
completed_issued t n None issued = finished_issued t t.current issued
completed_issued t n (Some h) issued = beside_issued t n h h.current issued

issued_along : (t : Track) (es : List Event) → Legal t es → Issued t.current → Issued (run t es).current
issued_along t [] legal issued = issued
issued_along t (Turn number pid ∷ es) legal issued = issued_along (after t (Turn number pid)) es legal.1 issued
issued_along t (Access cpu pid address kind bytes ∷ es) legal issued = issued_along (after t (Access cpu pid address kind bytes)) es legal.1 issued
issued_along t (Fill pid address bytes ∷ es) legal issued = issued_along (after t (Fill pid address bytes)) es legal.1 issued
issued_along t (Drop cpu pid line ∷ es) legal issued = issued_along (after t (Drop cpu pid line)) es legal.1 issued
issued_along t (Send m ∷ es) legal issued = issued_along (after t (Send m)) es legal.1 (sent_issued t m t.owed t.healing t.current refl legal.0 issued)
issued_along t (Deliver m ∷ es) legal issued = issued_along (after t (Deliver m)) es legal.1 (comes_issued (taken t) m m.to issued)
issued_along t (Crash number inc ∷ es) legal issued = issued_along (after t (Crash number inc)) es legal.1 (forgotten_issued _ t.current issued)
issued_along t (Complete op ∷ es) legal issued = issued_along (after t (Complete op)) es legal.1 (completed_issued t op.0 t.healing issued)
issued_along t (Out stream bytes ∷ es) legal issued = issued_along (after t (Out stream bytes)) es legal.1 issued

both_ways : (b : Bool) → b ≡ true → b ≡ false → ⊥
both_ways true e f = cc f
both_ways false e f = cc e

not_first : (m : Message) (by : Place) (messages : List Message) → IsFirst m messages → AllFrom by messages → is_issuer by ≡ true → is_issuer m.from ≡ false → ⊥
not_first m by [] first all issuer other = first
not_first m by (x ∷ messages) first all issuer other = both_ways (is_issuer m.from) (ap is_issuer (ap (λ (m : Message). m.from) first ∙ all.0) ∙ issuer) other

not_move : (t : Track) (m : Message) (h : Healing) (o : Option Open) (moves : List Move) → IsMove t m h o moves → is_issuer m.from ≡ false → ⊥
not_move t m h (Some o) moves may other = may
not_move t m h None [] may other = may
not_move t m h None (move ∷ moves) may other = not_first m Manager (open_move t move h.got).unsent may (messages_from Manager (record { 0 = t.next }) (asks_of (memory_count t.shape) (open_move t move h.got).operation)) refl other

not_begun : (t : Track) (m : Message) (due : List Mark) → MayBegin t m due → is_issuer m.from ≡ false → ⊥
not_begun t m [] may other = may
not_begun t m (Show e ∷ due) may other = may
not_begun t m (Call o ∷ due) may other = not_first m o.by _ may.0 (messages_from o.by (record { 0 = t.next }) (asks_of (memory_count t.shape) o.operation)) may.3 other

owes_it : (t : Track) (m : Message) (owed : List Message) (h : Option Healing) (o : Option Open) → t.current ≡ o → Issued t.current → MaySend t m owed h o → is_issuer m.from ≡ false → (rest : List Message) × (owed ≡ m ∷ rest)
owes_it t m (x ∷ owed) h o e issued may other = (owed, ap (λ (m : Message). m ∷ owed) (sym may))
owes_it t m [] (Some h) o e issued may other = absurd (not_move t m h h.current h.moves may.1 other)
owes_it t m [] None (Some o) e issued may other =
    let here : Issued (Some o) = subst Issued e issued in
    absurd (not_first m o.by o.unsent may.1 here.1 here.0 other)
owes_it t m [] None None e issued may other = absurd (not_begun t m t.due may.1 other)

pub others-send-what-they-owe : OthersSendWhatTheyOwe
others-send-what-they-owe shape due es fs m legal other =
    let t : Track = start shape due in
    let issued : Issued (run t es).current = issued_along t es (Legal-front t es (Send m ∷ fs) legal) tt in
    owes_it (run t es) m (run t es).owed (run t es).healing (run t es).current refl issued (Legal-back t es (Send m ∷ fs) legal).0 other
