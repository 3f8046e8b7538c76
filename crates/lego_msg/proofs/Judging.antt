-- The answers of an open operation are those that the list of events has since each place's last crash.
use Rattle.std.proofs.Common.{◌≡◌, ◌&&◌, ◌||◌, [], ◌∷◌, ◌++◌, ◌∙◌, ℕ, Bool, List, None, Option, Some, ap, cond, eqb, false, inl, inr, is_some, not, refl, slice_get, subst, sym, true}
use Rattle.std.proofs.lemmas.Bool.{eq-eqb, eqb-true}
use Rattle.lego_base.specs.declared.ids.OpNo.{OpNo}
use Rattle.lego_base.specs.declared.records.Patch.{Patch}
use Rattle.lego_msg.proofs.Flow.{net_along}
use Rattle.lego_msg.proofs.Lists.{Legal-append, Legal-back, Legal-front, run-append}
use Rattle.lego_msg.proofs.Moments.{due_from}
use Rattle.lego_msg.proofs.Numbers.{Apart, Ordered, after_ordered, number_of, ordered_along}
use Rattle.lego_msg.proofs.Senders.{same_some}
use Rattle.lego_msg.specs.Completions.{completed, completed_beside, finished, first_done, move_finished, sent_again}
use Rattle.lego_msg.specs.Crashes.{crashed, forgotten}
use Rattle.lego_msg.specs.Deliveries.{answered, comes, issuer_gets, memory_handles, noted, noted_by_move, noted_with, reaction, reaction_of, reacts, stops, taken}
use Rattle.lego_msg.specs.Judged.{all_answered_in, answered_after, answered_along, is_complete_in, is_reaction}
use Rattle.lego_msg.specs.Laws.{CompletionsAreByTheList, is_other, is_uncompleted, pending_of}
use Rattle.lego_msg.specs.Legal.{Legal}
use Rattle.lego_msg.specs.Operations.{has_patch, is_write, patch_of}
use Rattle.lego_msg.specs.Places.{is_issuer, memory, same_place}
use Rattle.lego_msg.specs.Run.{after, run}
use Rattle.lego_msg.specs.Sends.{move_begins, sent}
use Rattle.lego_msg.specs.State.{Mem, kept}
use Rattle.lego_msg.specs.Table.{answers}
use Rattle.lego_msg.specs.Track.{Track, all_answered, forget, has_answered, healing_move, is_complete, is_pending, start}
use Rattle.lego_msg.specs.declared.body.Body.{Body}
use Rattle.lego_msg.specs.declared.body.Body.TheVariants.{Drained, LogFull}
use Rattle.lego_msg.specs.declared.event.Event.{Event}
use Rattle.lego_msg.specs.declared.event.Event.TheVariants.{Access, Complete, Crash, Deliver, Drop, Fill, Out, Send, Turn}
use Rattle.lego_msg.specs.declared.healing.Healing.{Healing}
use Rattle.lego_msg.specs.declared.healing.Move.{Move}
use Rattle.lego_msg.specs.declared.message.Message.{Message}
use Rattle.lego_msg.specs.declared.operation.Answer.{Answer}
use Rattle.lego_msg.specs.declared.operation.Open.{Open}
use Rattle.lego_msg.specs.declared.operation.Operation.{Operation}
use Rattle.lego_msg.specs.declared.place.Place.{Place}
use Rattle.lego_msg.specs.declared.place.Place.TheVariants.{Manager, Memory, Processor, Storage}

none_open : (o : Open) → None ≡ Some o → ⊥
none_open o e = cc e

-- PLACES that are the same are equal

same_is : (a b : Place) → same_place a b ≡ true → a ≡ b
same_is (Processor a) (Processor b) e = λ i. Processor (record { 0 = eqb-true a.0 b.0 e i })
same_is (Processor a) (Memory b) e = cc e
same_is (Processor a) Storage e = cc e
same_is (Processor a) Manager e = cc e
same_is (Memory a) (Processor b) e = cc e
same_is (Memory a) (Memory b) e = λ i. Memory (record { 0 = eqb-true a.0 b.0 e i })
same_is (Memory a) Storage e = cc e
same_is (Memory a) Manager e = cc e
same_is Storage (Processor b) e = cc e
same_is Storage (Memory b) e = cc e
same_is Storage Storage e = refl
same_is Storage Manager e = cc e
same_is Manager (Processor b) e = cc e
same_is Manager (Memory b) e = cc e
same_is Manager Storage e = cc e
same_is Manager Manager e = refl

-- THE OPERATION IS STILL OPEN, and has these answers

record Still (o : Open) (f : Place → Bool) (t : Track) : Type 0 where
  here : Open
  is : t.current ≡ Some here
  number : here.number ≡ o.number
  operation : here.operation ≡ o.operation
  targets : here.targets ≡ o.targets
  answers : (p : Place) → has_answered p here.answers ≡ f p

same_current : (o : Open) (f : Place → Bool) (t t' : Track) → t'.current ≡ t.current → Still o f t → Still o f t'
same_current o f t t' e still = record { here = still.here; is = e ∙ still.is; number = still.number; operation = still.operation; targets = still.targets; answers = still.answers }

same_answers : (o : Open) (f g : Place → Bool) (t : Track) → ((p : Place) → f p ≡ g p) → Still o f t → Still o g t
same_answers o f g t e still = record { here = still.here; is = still.is; number = still.number; operation = still.operation; targets = still.targets; answers = λ p. still.answers p ∙ e p }

-- what is said of it holds of whatever is found open
record Said (o : Open) (f : Place → Bool) (x : Open) : Type 0 where
  number : x.number ≡ o.number
  operation : x.operation ≡ o.operation
  targets : x.targets ≡ o.targets
  answers : (p : Place) → has_answered p x.answers ≡ f p

said : (o : Open) (f : Place → Bool) (t : Track) (x : Open) → t.current ≡ Some x → Still o f t → Said o f x
said o f t x e still = subst (λ (x : Open). Said o f x) (same_some still.here x (sym still.is ∙ e)) (record { number = still.number; operation = still.operation; targets = still.targets; answers = still.answers })

-- SENDS

move_current : (t : Track) (m : Message) (h : Healing) (moves : List Move) → (move_begins t m h moves).current ≡ t.current
move_current t m h [] = refl
move_current t m h (move ∷ moves) = refl

sent_still : (o : Open) (f : Place → Bool) (t : Track) (m : Message) (owed : List Message) (h : Option Healing) (c : Option Open) → t.current ≡ c → Still o f t → Still o f (sent t m owed h c)
sent_still o f t m (x ∷ owed) h c e still = same_current o f t _ refl still
sent_still o f t m [] (Some h) c e still = same_current o f t _ (move_current t m h h.moves) still
sent_still o f t m [] None (Some x) e still =
    let s = said o f t x e still in
    record { here = record x { unsent = _ }; is = refl; number = s.number; operation = s.operation; targets = s.targets; answers = s.answers }
sent_still o f t m [] None None e still = absurd (none_open still.here (sym e ∙ still.is))

-- DELIVERIES

-- tests of a message that isn't an answer, for one cause or another
not_ours : (a b c d e so : Bool) → a ≡ false → so ≡ ((a && b && c && d && e) || so)
not_ours true b c d e so f = cc f
not_ours false b c d e so f = refl

no_issuer : (a c d e so : Bool) → so ≡ ((a && false && c && d && e) || so)
no_issuer true c d e so = refl
no_issuer false c d e so = refl

stop_is_none : (a b c d so : Bool) → so ≡ ((a && b && c && d && false) || so)
stop_is_none false b c d so = refl
stop_is_none true false c d so = refl
stop_is_none true true false d so = refl
stop_is_none true true true false so = refl
stop_is_none true true true true so = refl

reaction_is_none : (a b c r e so : Bool) → r ≡ true → so ≡ ((a && b && c && not r && e) || so)
reaction_is_none a b c false e so f = cc f
reaction_is_none false b c true e so f = refl
reaction_is_none true false c true e so f = refl
reaction_is_none true true false true e so f = refl
reaction_is_none true true true true e so f = refl

is_ours : (a c r so : Bool) → a ≡ true → r ≡ false → (c || so) ≡ ((a && true && c && not r && true) || so)
is_ours false c r so e f = cc e
is_ours true c true so e f = cc f
is_ours true false false so e f = refl
is_ours true true false so e f = refl

no_reaction : (b : Body) → is_reaction false b ≡ false
no_reaction LogFull = refl
no_reaction Drained = refl
no_reaction other = refl

some_reaction : (patch : Patch) (b : Body) → is_reaction true b ≡ is_some (reaction patch b)
some_reaction patch LogFull = refl
some_reaction patch Drained = refl
some_reaction patch other = refl

reaction_is : (p : Option Patch) (b : Body) → is_reaction (has_patch p) b ≡ is_some (reaction_of p b)
reaction_is None b = no_reaction b
reaction_is (Some patch) b = some_reaction patch b

-- the tests of a message to this place
abbrev answers_at : Open → Message → Bool → Bool → Place → Bool
answers_at o m issuer stop p = eqb m.op.0 o.number.0 && issuer && same_place p m.from && not (is_reaction (is_write o.operation) m.body) && not stop

differ_eqb : (a b : ℕ) → (a ≡ b → ⊥) → eqb a b ≡ false
differ_eqb a b differ = by (eqb a b) refl
  where
    by : (x : Bool) → eqb a b ≡ x → x ≡ false
    by true e = absurd (differ (eqb-true a b e))
    by false e = refl

reacts_still : (o : Open) (f : Place → Bool) (t : Track) (m : Message) (x : Open) (r : Option Body) → t.current ≡ Some x → Still o f t → eqb m.op.0 o.number.0 ≡ true → is_reaction (is_write o.operation) m.body ≡ is_some r → Still o (λ p. answers_at o m true false p || f p) (reacts t x m r)
reacts_still o f t m x None e still ours r =
    let s = said o f t x e still in
    record {
      here = answered x m;
      is = refl;
      number = s.number;
      operation = s.operation;
      targets = s.targets;
      answers = λ p. ap (λ (b : Bool). same_place p m.from || b) (s.answers p) ∙ is_ours (eqb m.op.0 o.number.0) (same_place p m.from) (is_reaction (is_write o.operation) m.body) (f p) ours r;
    }
reacts_still o f t m x (Some b) e still ours r =
    same_answers o f _ _ (λ p. reaction_is_none (eqb m.op.0 o.number.0) true (same_place p m.from) (is_reaction (is_write o.operation) m.body) true (f p) r)
    (same_current o f t _ refl still)

-- a message that has another number leaves the answers as they are
other_number : (o : Open) (f : Place → Bool) (t t' : Track) (m : Message) → t'.current ≡ t.current → eqb m.op.0 o.number.0 ≡ false → Still o f t → Still o (λ p. answers_at o m true false p || f p) t'
other_number o f t t' m e other still =
    same_answers o f _ t' (λ p. not_ours (eqb m.op.0 o.number.0) true (same_place p m.from) (not (is_reaction (is_write o.operation) m.body)) true (f p) other)
    (same_current o f t t' e still)

noted_still : (o : Open) (f : Place → Bool) (t : Track) (m : Message) (c : Option Open) → t.current ≡ c → Still o f t → Still o (λ p. answers_at o m true false p || f p) (noted t m c)
noted_still o f t m None e still = absurd (none_open still.here (sym e ∙ still.is))
noted_still o f t m (Some x) e still = by (eqb m.op.0 x.number.0) refl
  where
    s : Said o f x
    s = said o f t x e still

    by : (b : Bool) → eqb m.op.0 x.number.0 ≡ b → Still o (λ p. answers_at o m true false p || f p) (cond b (reacts t x m (reaction_of (patch_of x.operation) m.body)) t)
    by true ours =
        reacts_still o f t m x (reaction_of (patch_of x.operation) m.body) e still (ap (λ (n : OpNo). eqb m.op.0 n.0) (sym s.number) ∙ ours)
        (ap (λ (q : Operation). is_reaction (is_write q) m.body) (sym s.operation) ∙ reaction_is (patch_of x.operation) m.body)
    by false other = other_number o f t t m refl (ap (λ (n : OpNo). eqb m.op.0 n.0) (sym s.number) ∙ other) still

numbers_apart : (t : Track) (x y : Open) → t.current ≡ Some x → healing_move t.healing ≡ Some y → Ordered t → x.number.0 ≡ y.number.0 → ⊥
numbers_apart t x y e f ordered =
    let apart : Apart (Some x.number.0) (Some y.number.0) t.next = subst (λ (p : Option Open × Option Open). Apart (number_of p.0) (number_of p.1) t.next) (λ i. (e i, f i)) ordered in
    apart.2

move_still : (o : Open) (f : Place → Bool) (t : Track) (m : Message) (h : Healing) (c : Option Open) → Ordered t → healing_move t.healing ≡ c → Still o f t → Still o (λ p. answers_at o m true false p || f p) (noted_by_move t m h c)
move_still o f t m h None ordered e still = noted_still o f t m t.current refl still
move_still o f t m h (Some x) ordered e still = by (eqb m.op.0 x.number.0) refl
  where
    differ : eqb m.op.0 x.number.0 ≡ true → m.op.0 ≡ o.number.0 → ⊥
    differ moves ours = numbers_apart t still.here x still.is e ordered (ap (λ (n : OpNo). n.0) still.number ∙ sym ours ∙ eqb-true m.op.0 x.number.0 moves)

    by : (b : Bool) → eqb m.op.0 x.number.0 ≡ b → Still o (λ p. answers_at o m true false p || f p) (cond b (record t { healing = Some (record h { current = Some (answered x m) }) }) (noted t m t.current))
    by true moves = other_number o f t _ m refl (differ_eqb m.op.0 o.number.0 (differ moves)) still
    by false other = noted_still o f t m t.current refl still

with_still : (o : Open) (f : Place → Bool) (t : Track) (m : Message) (h : Option Healing) → Ordered t → t.healing ≡ h → Still o f t → Still o (λ p. answers_at o m true false p || f p) (noted_with t m h)
with_still o f t m None ordered e still = noted_still o f t m t.current refl still
with_still o f t m (Some h) ordered e still = move_still o f t m h h.current ordered (ap healing_move e) still

issuer_still : (o : Open) (f : Place → Bool) (t : Track) (m : Message) → Ordered t → Still o f t → Still o (λ p. answers_at o m true (stops m.body) p || f p) (issuer_gets t m)
issuer_still o f t m ordered still = by (stops m.body)
  where
    by : (b : Bool) → Still o (λ p. answers_at o m true b p || f p) (cond b (record t { stopped = true }) (noted_with t m t.healing))
    by true =
        same_answers o f _ _ (λ p. stop_is_none (eqb m.op.0 o.number.0) true (same_place p m.from) (not (is_reaction (is_write o.operation) m.body)) (f p))
        (same_current o f t _ refl still)
    by false = with_still o f t m t.healing ordered refl still

not_to_issuer : (o : Open) (f : Place → Bool) (t t' : Track) (m : Message) → t'.current ≡ t.current → Still o f t → Still o (λ p. answers_at o m false (stops m.body) p || f p) t'
not_to_issuer o f t t' m e still =
    same_answers o f _ t' (λ p. no_issuer (eqb m.op.0 o.number.0) (same_place p m.from) (not (is_reaction (is_write o.operation) m.body)) (not (stops m.body)) (f p))
    (same_current o f t t' e still)

handles_current : (t : Track) (i : ℕ) (m : Message) (s : Option Mem) → (memory_handles t i m s).current ≡ t.current
handles_current t i m None = refl
handles_current t i m (Some s) = refl

comes_still : (o : Open) (f : Place → Bool) (t : Track) (m : Message) (to : Place) → Ordered t → Still o f t → Still o (λ p. answers_at o m (is_issuer to) (stops m.body) p || f p) (comes t m to)
comes_still o f t m (Processor cpu) ordered still = issuer_still o f t m ordered still
comes_still o f t m (Memory number) ordered still = not_to_issuer o f t _ m (handles_current t number.0 m (slice_get t.mems number.0)) still
comes_still o f t m Storage ordered still = not_to_issuer o f t _ m refl still
comes_still o f t m Manager ordered still = issuer_still o f t m ordered still

-- CRASHES

-- an answer of the place that is asked for: it is lost just where that place is
forget_here : (x y rest kept : Bool) → y ≡ x → kept ≡ (not y && rest) → cond x kept true ≡ (not y && true)
forget_here true true rest kept same e = e
forget_here true false rest kept same e = cc same
forget_here false true rest kept same e = cc same
forget_here false false rest kept same e = refl

-- an answer of another place
forget_there : (x y rest kept : Bool) → kept ≡ (not y && rest) → cond x kept kept ≡ (not y && rest)
forget_there true y rest kept e = e
forget_there false y rest kept e = e

forget_one : (p c : Place) (a : Answer) (rest kept : Bool) → kept ≡ (not (same_place p c) && rest) → cond (same_place a.place c) kept (same_place p a.place || kept) ≡ (not (same_place p c) && (same_place p a.place || rest))
forget_one p c a rest kept e = by (same_place p a.place) refl
  where
    by : (b : Bool) → same_place p a.place ≡ b → cond (same_place a.place c) kept (b || kept) ≡ (not (same_place p c) && (b || rest))
    by true here = forget_here (same_place a.place c) (same_place p c) rest kept (ap (λ (q : Place). same_place q c) (same_is p a.place here)) e
    by false other = forget_there (same_place a.place c) (same_place p c) rest kept e

answered_or : (p : Place) (a : Answer) (xs ys : List Answer) (b : Bool) → has_answered p (cond b xs (a ∷ ys)) ≡ cond b (has_answered p xs) (same_place p a.place || has_answered p ys)
answered_or p a xs ys true = refl
answered_or p a xs ys false = refl

none_left : (b : Bool) → false ≡ (not b && false)
none_left true = refl
none_left false = refl

forget_is : (p c : Place) (answers : List Answer) → has_answered p (forget c answers) ≡ (not (same_place p c) && has_answered p answers)
forget_is p c [] = none_left (same_place p c)
forget_is p c (a ∷ answers) =
    answered_or p a (forget c answers) (forget c answers) (same_place a.place c)
    ∙ forget_one p c a (has_answered p answers) (has_answered p (forget c answers)) (forget_is p c answers)

crashed_still : (o : Open) (f : Place → Bool) (t : Track) (c : ℕ) → Still o f t → Still o (λ p. not (same_place p (memory c)) && f p) (crashed t c)
crashed_still o f t c still = record {
  here = record still.here { answers = forget (memory c) still.here.answers };
  is = ap (forgotten (memory c)) still.is;
  number = still.number;
  operation = still.operation;
  targets = still.targets;
  answers = λ p. forget_is p (memory c) still.here.answers ∙ ap (λ (b : Bool). not (same_place p (memory c)) && b) (still.answers p);
}

-- COMPLETIONS of another operation

again_still : (o : Open) (f : Place → Bool) (t t' : Track) → t'.current ≡ sent_again t t.current → Still o f t → Still o f t'
again_still o f t t' e still = record {
  here = record still.here { unsent = _ };
  is = e ∙ ap (sent_again t) still.is;
  number = still.number;
  operation = still.operation;
  targets = still.targets;
  answers = still.answers;
}

move_finished_still : (o : Open) (f : Place → Bool) (t : Track) (h : Healing) (x : Open) (moves : List Move) → Still o f t → Still o f (move_finished t h x moves)
move_finished_still o f t h x [] still = again_still o f t _ refl still
move_finished_still o f t h x (move ∷ moves) still = same_current o f t _ refl still

is_other_number : (a b : ℕ) → not (eqb a b) ≡ true → a ≡ b → ⊥
is_other_number a b e same = let no : not true ≡ true = ap not (sym (eq-eqb a b same)) ∙ e in cc no

none_some : {X : Type 0} (x : X) → None ≡ Some x → ⊥
none_some x e = cc e

beside_still : (o : Open) (f : Place → Bool) (t : Track) (n : ℕ) (h : Healing) (c : Option Open) (x : Open) → c ≡ Some x → x.number.0 ≡ n → Still o f t → Still o f (completed_beside t n h c)
beside_still o f t n h None x e same still = absurd (none_some x e)
beside_still o f t n h (Some y) x e same still =
    let number : eqb y.number.0 n ≡ true = eq-eqb y.number.0 n (ap (λ (o : Open). o.number.0) (same_some y x e) ∙ same) in
    subst (λ (b : Bool). Still o f (cond b (move_finished t h y h.moves) (finished t t.current))) (sym number) (move_finished_still o f t h y h.moves still)

completed_still : (o : Open) (f : Place → Bool) (t : Track) (n : ℕ) (h : Option Healing) (x : Open) → healing_move h ≡ Some x → x.number.0 ≡ n → Still o f t → Still o f (completed t n h)
completed_still o f t n None x e same still = absurd (none_some x e)
completed_still o f t n (Some h) x e same still = beside_still o f t n h h.current x e same still

other_completes : (o : Open) (f : Place → Bool) (t : Track) (n : OpNo) → first_done t ≡ Some n → (n.0 ≡ o.number.0 → ⊥) → Still o f t → Still o f (completed t n.0 t.healing)
other_completes o f t n done differ still =
    let due = due_from t n done in
    elim due.1 [
      | inl move ↦ completed_still o f t n.0 t.healing due.0 move (ap (λ (n : OpNo). n.0) due.2) still
      | inr current ↦ absurd (differ (ap (λ (n : OpNo). n.0) (sym due.2 ∙ (said o f t due.0 current still).number)))
    ]

-- ALONG A LIST

abbrev then_answered : Open → (Place → Bool) → Event → Place → Bool
then_answered o f e p = answered_after o.number.0 (is_write o.operation) p (f p) e

after_still : (o : Open) (f : Place → Bool) (t : Track) (e : Event) (es : List Event) → Legal t (e ∷ es) → Ordered t → is_other o.number.0 e ≡ true → Still o f t → Still o (then_answered o f e) (after t e)
after_still o f t (Turn number pid) es legal ordered other still = same_current o f t _ refl still
after_still o f t (Access cpu pid address kind bytes) es legal ordered other still = same_current o f t _ refl still
after_still o f t (Fill pid address bytes) es legal ordered other still = same_current o f t _ refl still
after_still o f t (Drop cpu pid line) es legal ordered other still = same_current o f t _ refl still
after_still o f t (Send m) es legal ordered other still = sent_still o f t m t.owed t.healing t.current refl still
after_still o f t (Deliver m) es legal ordered other still = comes_still o f (taken t) m m.to ordered (same_current o f t _ refl still)
after_still o f t (Crash c inc) es legal ordered other still = crashed_still o f t c.0 still
after_still o f t (Complete op) es legal ordered other still = other_completes o f t op legal.0.complete (is_other_number op.0 o.number.0 other) still
after_still o f t (Out stream bytes) es legal ordered other still = same_current o f t _ refl still

first_is : (a b : Bool) → (a && b) ≡ true → a ≡ true
first_is true b e = refl
first_is false b e = cc e

second_is : (a b : Bool) → (a && b) ≡ true → b ≡ true
second_is true b e = e
second_is false b e = cc e

abbrev along : Open → (Place → Bool) → List Event → Place → Bool
along o f es p = answered_along o.number.0 (is_write o.operation) p (f p) es

still_along : (o : Open) (f : Place → Bool) (t : Track) (es : List Event) → Legal t es → Ordered t → is_uncompleted o.number.0 es ≡ true → Still o f t → Still o (along o f es) (run t es)
still_along o f t [] legal ordered other still = still
still_along o f t (e ∷ es) legal ordered other still =
    still_along o (then_answered o f e) (after t e) es legal.1
    (after_ordered t e es legal ordered)
    (second_is (is_other o.number.0 e) (is_uncompleted o.number.0 es) other)
    (after_still o f t e es legal ordered (first_is (is_other o.number.0 e) (is_uncompleted o.number.0 es) other) still)

-- THE COMPLETION by the list

targets_along : (o : Open) (es : List Event) (targets : List Place) (answers : List Answer) → ((p : Place) → has_answered p answers ≡ along o (λ p. false) es p) → all_answered targets answers ≡ all_answered_in o.number.0 (is_write o.operation) targets es
targets_along o es [] answers e = refl
targets_along o es (p ∷ targets) answers e = λ i. e p i && targets_along o es targets answers e i

complete_along : (o : Open) (es : List Event) (x : Open) (net net' : List Message) → Said o (along o (λ p. false) es) x → net ≡ net' → is_complete net x ≡ is_complete_in o.number.0 (is_write o.operation) o.targets es net'
complete_along o es x net net' s e =
    let targets : all_answered x.targets x.answers ≡ all_answered_in o.number.0 (is_write o.operation) o.targets es =
    targets_along o es x.targets x.answers s.answers ∙ ap (λ (ps : List Place). all_answered_in o.number.0 (is_write o.operation) ps es) s.targets in
    λ i. targets i && not (is_pending (s.number i).0 (e i))

pub completions-are-by-the-list : CompletionsAreByTheList
completions-are-by-the-list shape due before es fs o op legal here none number other =
    let t0 : Track = start shape due in
    let t : Track = run t0 before in
    let front : Legal t0 before = Legal-front t0 before (es ++ Complete op ∷ fs) legal in
    let back : Legal t (es ++ Complete op ∷ fs) = Legal-back t0 before (es ++ Complete op ∷ fs) legal in
    let middle : Legal t es = Legal-front t es (Complete op ∷ fs) back in
    let last : Legal (run t es) (Complete op ∷ fs) = Legal-back t es (Complete op ∷ fs) back in
    let ordered : Ordered t = ordered_along t0 before front tt in
    let still : Still o (λ p. false) t = record { here = o; is = here; number = refl; operation = refl; targets = refl; answers = λ p. ap (has_answered p) none } in
    let at_end : Still o (along o (λ p. false) es) (run t es) = still_along o (λ p. false) t es middle ordered other still in
    let due_there = due_from (run t es) op last.0.complete in
    let whole : Legal t0 (before ++ es) = Legal-append t0 before es front middle in
    let net : (run t es).net ≡ pending_of shape.deliveries (before ++ es) = ap (λ (t : Track). t.net) (sym (run-append t0 before es)) ∙ net_along t0 (before ++ es) whole in
    elim due_there.1 [
      | inl move ↦ absurd (numbers_apart (run t es) at_end.here due_there.0 at_end.is move (ordered_along t es middle ordered) (ap (λ (n : OpNo). n.0) (at_end.number ∙ sym number ∙ sym due_there.2)))
      | inr current ↦ sym (complete_along o es due_there.0 _ _ (said o (along o (λ p. false) es) (run t es) due_there.0 current at_end) net) ∙ due_there.3
    ]
