-- The open operation and the move of a healing have numbers below the next one, and not the same.
use Rattle.std.proofs.Common.{◌≡◌, ◌+◌, ◌<◌, [], ◌∷◌, ◌∙◌, ℕ, Bool, List, None, Option, Some, ap, arith, cond, eqb, false, refl, slice_get, subst, sym, true}
use Rattle.lego_msg.specs.Completions.{completed, completed_beside, finished, move_finished, sent_again}
use Rattle.lego_msg.specs.Crashes.{forgotten}
use Rattle.lego_msg.specs.Deliveries.{answered, comes, issuer_gets, memory_handles, noted, noted_by_move, noted_with, reaction_of, reacts, stops, taken}
use Rattle.lego_msg.specs.Legal.{Legal}
use Rattle.lego_msg.specs.Marks.{Call, Mark, Show}
use Rattle.lego_msg.specs.Operations.{patch_of}
use Rattle.lego_msg.specs.Run.{after, run}
use Rattle.lego_msg.specs.Sends.{IsMove, MayBegin, MaySend, begins, move_begins, sent}
use Rattle.lego_msg.specs.State.{Mem, kept}
use Rattle.lego_msg.specs.Track.{Track, healing_move}
use Rattle.lego_msg.specs.declared.body.Body.{Body}
use Rattle.lego_msg.specs.declared.event.Event.{Event}
use Rattle.lego_msg.specs.declared.event.Event.TheVariants.{Access, Complete, Crash, Deliver, Drop, Fill, Out, Send, Turn}
use Rattle.lego_msg.specs.declared.healing.Healing.{Healing}
use Rattle.lego_msg.specs.declared.healing.Move.{Move}
use Rattle.lego_msg.specs.declared.message.Message.{Message}
use Rattle.lego_msg.specs.declared.operation.Open.{Open}
use Rattle.lego_msg.specs.declared.place.Place.{Place}
use Rattle.lego_msg.specs.declared.place.Place.TheVariants.{Manager, Memory, Processor, Storage}

abbrev pub number_of : Option Open → Option ℕ
number_of None = None
number_of (Some o) = Some o.number.0

abbrev pub Apart : Option ℕ → Option ℕ → ℕ → Type 0
Apart None None n = Unit {0}
Apart (Some a) None n = a < n
Apart None (Some b) n = b < n
Apart (Some a) (Some b) n = (a < n) × (b < n) × (a ≡ b → ⊥)

abbrev pub Ordered : Track → Type 0
Ordered t = Apart (number_of t.current) (number_of (healing_move t.healing)) t.next

no_current : (a b : Option ℕ) (n : ℕ) → Apart a b n → Apart None b n
no_current None None n apart = tt
no_current None (Some b) n apart = apart
no_current (Some a) None n apart = tt
no_current (Some a) (Some b) n apart = apart.1

no_move : (a b : Option ℕ) (n : ℕ) → Apart a b n → Apart a None n
no_move None None n apart = tt
no_move None (Some b) n apart = tt
no_move (Some a) None n apart = apart
no_move (Some a) (Some b) n apart = apart.0

new_move : (a : Option ℕ) (n : ℕ) → Apart a None n → Apart a (Some n) (n + 1)
new_move None n apart = omega arith
new_move (Some a) n apart = (omega (arith, apart), omega arith, λ same. omega (arith, apart, same))

new_current : (n : ℕ) → Apart (Some n) None (n + 1)
new_current n = omega arith

-- THE SAME NUMBERS

record Kept (t t' : Track) : Type 0 where
  current : number_of t'.current ≡ number_of t.current
  move : number_of (healing_move t'.healing) ≡ number_of (healing_move t.healing)
  next : t'.next ≡ t.next

still_apart : (t t' : Track) → Kept t t' → Ordered t → Ordered t'
still_apart t t' kept ordered = subst (λ (p : Option ℕ × Option ℕ × ℕ). Apart p.0 p.1 p.2) (λ i. (sym kept.current i, sym kept.move i, sym kept.next i)) ordered

all_kept : (t : Track) → Kept t t
all_kept t = record { current = refl; move = refl; next = refl }

either_kept : (t x y : Track) (b : Bool) → Kept t x → Kept t y → Kept t (cond b x y)
either_kept t x y true p q = p
either_kept t x y false p q = q

reacts_kept : (t : Track) (o : Open) (m : Message) (b : Option Body) → t.current ≡ Some o → Kept t (reacts t o m b)
reacts_kept t o m None e = record { current = sym (ap number_of e); move = refl; next = refl }
reacts_kept t o m (Some b) e = record { current = refl; move = refl; next = refl }

noted_kept : (t : Track) (m : Message) (o : Option Open) → t.current ≡ o → Kept t (noted t m o)
noted_kept t m None e = all_kept t
noted_kept t m (Some o) e = either_kept t _ _ _ (reacts_kept t o m (reaction_of (patch_of o.operation) m.body) e) (all_kept t)

abbrev with_answer : Track → Healing → Open → Message → Track
with_answer t h o m = record t { healing = Some (record h { current = Some (answered o m) }) }

answer_kept : (t : Track) (h : Healing) (o : Open) (m : Message) → t.healing ≡ Some h → h.current ≡ Some o → Kept t (with_answer t h o m)
answer_kept t h o m e f =
    let here : healing_move t.healing ≡ Some o = ap healing_move e ∙ f in
    record { current = refl; move = sym (ap number_of here); next = refl }

move_kept : (t : Track) (m : Message) (h : Healing) (o : Option Open) → t.healing ≡ Some h → h.current ≡ o → Kept t (noted_by_move t m h o)
move_kept t m h None e f = noted_kept t m t.current refl
move_kept t m h (Some o) e f = either_kept t (with_answer t h o m) (noted t m t.current) (eqb m.op.0 o.number.0) (answer_kept t h o m e f) (noted_kept t m t.current refl)

with_kept : (t : Track) (m : Message) (h : Option Healing) → t.healing ≡ h → Kept t (noted_with t m h)
with_kept t m None e = noted_kept t m t.current refl
with_kept t m (Some h) e = move_kept t m h h.current e refl

issuer_kept : (t : Track) (m : Message) → Kept t (issuer_gets t m)
issuer_kept t m = either_kept t _ _ (stops m.body) (record { current = refl; move = refl; next = refl }) (with_kept t m t.healing refl)

handles_kept : (t : Track) (i : ℕ) (m : Message) (s : Option Mem) → Kept t (memory_handles t i m s)
handles_kept t i m None = all_kept t
handles_kept t i m (Some s) = record { current = refl; move = refl; next = refl }

comes_kept : (t : Track) (m : Message) (to : Place) → Kept t (comes t m to)
comes_kept t m (Processor cpu) = issuer_kept t m
comes_kept t m (Memory number) = handles_kept t number.0 m (slice_get t.mems number.0)
comes_kept t m Storage = record { current = refl; move = refl; next = refl }
comes_kept t m Manager = issuer_kept t m

-- OTHER NUMBERS

begins_apart : (t : Track) (m : Message) (due : List Mark) → t.healing ≡ None → MayBegin t m due → Ordered (begins t m due)
begins_apart t m [] e may = absurd may
begins_apart t m (Show x ∷ due) e may = absurd may
begins_apart t m (Call o ∷ due) e may = subst (λ (h : Option Healing). Apart (Some t.next) (number_of (healing_move h)) (t.next + 1)) (sym e) (new_current t.next)

move_apart : (t : Track) (m : Message) (h : Healing) (o : Option Open) (moves : List Move) → IsMove t m h o moves → Apart (number_of t.current) (number_of o) t.next → Ordered (move_begins t m h moves)
move_apart t m h (Some o) moves may apart = absurd may
move_apart t m h None [] may apart = absurd may
move_apart t m h None (move ∷ moves) may apart = new_move (number_of t.current) t.next apart

sent_apart : (t : Track) (m : Message) (owed : List Message) (h : Option Healing) (o : Option Open) → t.healing ≡ h → t.current ≡ o → MaySend t m owed h o → Ordered t → Ordered (sent t m owed h o)
sent_apart t m (x ∷ owed) h o e f may ordered = ordered
sent_apart t m [] (Some h) o e f may ordered = move_apart t m h h.current h.moves may.1 (subst (λ (h : Option Healing). Apart (number_of t.current) (number_of (healing_move h)) t.next) e ordered)
sent_apart t m [] None (Some o) e f may ordered = subst (λ (o : Option Open). Apart (number_of o) (number_of (healing_move t.healing)) t.next) f ordered
sent_apart t m [] None None e f may ordered = begins_apart t m t.due e may.1

forgotten_number : (p : Place) (o : Option Open) → number_of (forgotten p o) ≡ number_of o
forgotten_number p None = refl
forgotten_number p (Some o) = refl

again_number : (t : Track) (o : Option Open) → number_of (sent_again t o) ≡ number_of o
again_number t None = refl
again_number t (Some o) = refl

finished_apart : (t : Track) (o : Option Open) → t.current ≡ o → Ordered t → Ordered (finished t o)
finished_apart t None e ordered = ordered
finished_apart t (Some o) e ordered = no_current (number_of t.current) _ t.next ordered

move_finished_apart : (t : Track) (h : Healing) (o : Open) (moves : List Move) → Ordered t → Ordered (move_finished t h o moves)
move_finished_apart t h o [] ordered = subst (λ (a : Option ℕ). Apart a None t.next) (sym (again_number t t.current)) (no_move (number_of t.current) _ t.next ordered)
move_finished_apart t h o (move ∷ moves) ordered = no_move (number_of t.current) _ t.next ordered

either_apart : (x y : Track) (b : Bool) → Ordered x → Ordered y → Ordered (cond b x y)
either_apart x y true p q = p
either_apart x y false p q = q

beside_apart : (t : Track) (n : ℕ) (h : Healing) (o : Option Open) → Ordered t → Ordered (completed_beside t n h o)
beside_apart t n h None ordered = finished_apart t t.current refl ordered
beside_apart t n h (Some o) ordered = either_apart _ _ (eqb o.number.0 n) (move_finished_apart t h o h.moves ordered) (finished_apart t t.current refl ordered)

completed_apart : (t : Track) (n : ℕ) (h : Option Healing) → Ordered t → Ordered (completed t n h)
completed_apart t n None ordered = finished_apart t t.current refl ordered
completed_apart t n (Some h) ordered = beside_apart t n h h.current ordered

crashed_apart : (t : Track) (p : Place) → Ordered t → Apart (number_of (forgotten p t.current)) None t.next
crashed_apart t p ordered = subst (λ (a : Option ℕ). Apart a None t.next) (sym (forgotten_number p t.current)) (no_move (number_of t.current) _ t.next ordered)

pub after_ordered : (t : Track) (e : Event) (es : List Event) → Legal t (e ∷ es) → Ordered t → Ordered (after t e)
after_ordered t (Turn number pid) es legal ordered = ordered
after_ordered t (Access cpu pid address kind bytes) es legal ordered = ordered
after_ordered t (Fill pid address bytes) es legal ordered = ordered
after_ordered t (Drop cpu pid line) es legal ordered = ordered
after_ordered t (Send m) es legal ordered = sent_apart t m t.owed t.healing t.current refl refl legal.0 ordered
after_ordered t (Deliver m) es legal ordered = still_apart (taken t) _ (comes_kept (taken t) m m.to) ordered
after_ordered t (Crash number inc) es legal ordered = crashed_apart t _ ordered
after_ordered t (Complete op) es legal ordered = completed_apart t op.0 t.healing ordered
after_ordered t (Out stream bytes) es legal ordered = ordered

pub ordered_along : (t : Track) (es : List Event) → Legal t es → Ordered t → Ordered (run t es)
ordered_along t [] legal ordered = ordered
ordered_along t (e ∷ es) legal ordered = ordered_along (after t e) es legal.1 (after_ordered t e es legal ordered)
