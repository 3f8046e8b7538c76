-- Sends keep the relation.
use Rattle.std.proofs.Common.{◌≡◌, ◌<◌, ◌==◌, ◌&&◌, ◌||◌, [], ◌∷◌, ◌++◌, ◌∙◌, ℕ, Bool, List, None, Option, Some, ap, append-nil, append_assoc, arith, cond, false, inl, inr, length, not, refl, slice_get, subst, suc, sym, true}
use Rattle.std.proofs.lemmas.Bool.{eqb-true}
use Rattle.std.proofs.lemmas.List.Elements.{filter-append}
use Rattle.std.proofs.lemmas.List.Folds.{list_any-append}
use Rattle.std.specs.List.{AllByRecursion, list_any}
use Rattle.lego_base.specs.declared.ids.OpNo.{OpNo}
use Rattle.lego_msg.specs.Operations.{asks_of, is_write, messages_of, patch_of}
use Rattle.lego_msg.specs.Places.{memory, same_place}
use Rattle.lego_msg.specs.State.{Mem}
use Rattle.lego_msg.specs.Track.{Track, all_answered, has_answered, healing_move, is_complete, is_done, is_pending, memory_count}
use Rattle.lego_msg.specs.declared.healing.Healing.{Healing}
use Rattle.lego_msg.specs.declared.message.Message.{Message}
use Rattle.lego_msg.specs.declared.operation.Open.{Open}
use Rattle.lego_msg.specs.declared.place.Place.{Place}
use Rattle.lego_rest.specs.Answers.{all_pending, answers_to, asks_storage_by, gave_answer, heals_target, images_due, is_answer_from, is_storage_asked, is_storage_true, is_writing}
use Rattle.lego_rest.specs.Fits.{IsRequest, OpenFits, WaiterFits, background, changes_block, is_background}
use Rattle.lego_rest.specs.Heals.{Between, HealFits, scene_of}
use Rattle.lego_rest.specs.Parts.{plain_with}
use Rattle.lego_rest.specs.Pending.{Among, First, IsPlace, MayPend, OfOperation}
use Rattle.lego_rest.specs.Rest.{CurrentFits, IsReady, Middle}
use Rattle.rest_laws.proofs.Opened.{all_among, all_both, among_middle, answers_as_before, every, first_from, issuer_apart, issuer_there, numbered_is_no_batch, pends_as_before, waits_as_before}
use Rattle.rest_laws.proofs.Stepping.{shift-keeps}
use Rattle.rest_laws.proofs.Truth.{and_true, back_false, both_true, not_true, or_false, or_nothing, third_false}
use Rattle.rest_laws.specs.Sending.{FirstIsSent, OwedIsSent}
use Rattle.rest_laws.specs.Steps.{Moment, Shift}
use Rattle.lego_msg.specs.declared.place.Place.TheVariants as place

-- MORE MESSAGES IN THE NET: what is complete with them was complete, and what storage isn't asked it wasn't

-- a test that holds of no message of a longer list holds of none of a shorter one
pub none_of_front : (test : Message → Bool) (net out : List Message) → list_any test (net ++ out) ≡ false → list_any test net ≡ false
none_of_front test net out none = or_false (list_any test net) (list_any test out) (sym (list_any-append test net out) ∙ none)

pub complete_before : (net out : List Message) (o : Open) → is_complete (net ++ out) o ≡ true → is_complete net o ≡ true
complete_before net out o is =
    let both = both_true (all_answered o.targets o.answers) (not (is_pending o.number.0 (net ++ out))) is in
    let none : is_pending o.number.0 net ≡ false = none_of_front _ net out (not_true (is_pending o.number.0 (net ++ out)) both.1) in
    and_true (all_answered o.targets o.answers) (not (is_pending o.number.0 net)) both.0 (ap not none)

pub done_before : (net out : List Message) (o : Option Open) → is_done (net ++ out) o ≡ true → is_done net o ≡ true
done_before net out None is = cc is
done_before net out (Some o) is = complete_before net out o is

pub storage_before : (net out : List Message) (h : Option Healing) (o : Option Open) → is_storage_true (net ++ out) h o ≡ true → is_storage_true net h o ≡ true
storage_before net out h None is = is
storage_before net out h (Some o) is =
    let both = both_true (not (heals_target h (Some o))) (not (is_storage_asked (net ++ out) (Some o))) is in
    let unasked : is_storage_asked (net ++ out) (Some o) ≡ false = not_true (is_storage_asked (net ++ out) (Some o)) both.1 in
    and_true (not (heals_target h (Some o))) (not (is_storage_asked net (Some o))) both.0 (ap not (asked net out o unasked))
  where
    asked : (net out : List Message) (o : Open) → is_storage_asked (net ++ out) (Some o) ≡ false → is_storage_asked net (Some o) ≡ false
    asked net out o none = by (list_any (λ (m : Message). asks_storage_by o.number.0 m) o.unsent) none
      where
        by : (a : Bool) → (a || list_any (λ (m : Message). asks_storage_by o.number.0 m) (net ++ out)) ≡ false → (a || list_any (λ (m : Message). asks_storage_by o.number.0 m) net) ≡ false
        by true e = e
        by false e = none_of_front (λ (m : Message). asks_storage_by o.number.0 m) net out e

-- WHAT IS OWED IS SENT

module _ (lost : Option ℕ) (t : Track) (m : Message) (more : List Message) (is : t.owed ≡ m ∷ more) where
  abbrev then_moment : Moment
  then_moment = record {
    net = t.net ++ m ∷ [];
    owed = more;
    delivered = t.delivered;
    next = t.next;
    current = t.current;
    healing = t.healing;
    clock = t.clock;
    stopped = t.stopped;
    caches = t.caches;
    due = t.due;
  }

  same_pending : (t.net ++ m ∷ []) ++ more ≡ all_pending t
  same_pending = append_assoc t.net (m ∷ []) more ∙ ap (λ (ms : List Message). t.net ++ ms) (sym is)

  ready : (o : Open) → IsReady t o → IsReady (record t { net = t.net ++ m ∷ []; owed = more }) o
  ready o (inl all) = inl all
  ready o (inr e) = inr (back_false (is_complete t.net o) (is_complete (t.net ++ m ∷ []) o) (complete_before t.net (m ∷ []) o) e.0, e.1, e.2)

  current_goes : (o : Option Open) → CurrentFits t o → CurrentFits (record t { net = t.net ++ m ∷ []; owed = more }) o
  current_goes None fits = tt
  current_goes (Some o) fits = (fits.0, fits.1, ready o fits.2)

  heal_goes : (h : Option Healing) → HealFits lost t h → HealFits lost (record t { net = t.net ++ m ∷ []; owed = more }) h
  heal_goes None fits = fits
  heal_goes (Some h) fits = (
    fits.0,
    λ goes_on. let holds = fits.1 goes_on in record {
      stands = holds.stands;
      between = subst (λ (ms : List Message). Between (scene_of t) h.memory.0 ms t.next holds.stands.x holds.stands.done h.current h.got holds.stands.ahead) (sym same_pending) holds.between;
      background = ap (background h.memory.0) same_pending ∙ holds.background;
      pages = holds.pages;
      clear = holds.clear;
      forgotten = ap (λ (ms : List Message). gave_answer (memory h.memory.0) ms t.current) same_pending ∙ holds.forgotten;
      one_done = λ done. back_false (is_done t.net t.current) (is_done (t.net ++ m ∷ []) t.current) (done_before t.net (m ∷ []) t.current) (holds.one_done (done_before t.net (m ∷ []) h.current done));
      no_second = holds.no_second;
      apart = holds.apart;
    },
  )

  images_before : (k : ℕ) → images_due (record t { net = t.net ++ m ∷ []; owed = more }) k ≡ true → images_due t k ≡ true
  images_before k due = by (is_writing t.current) due
    where
      gave : (p : Place) → gave_answer p ((t.net ++ m ∷ []) ++ more) t.current ≡ true → gave_answer p (all_pending t) t.current ≡ true
      gave p e = subst (λ (ms : List Message). gave_answer p ms t.current ≡ true) same_pending e

      by : (b : Bool) → cond b (gave_answer (memory k) ((t.net ++ m ∷ []) ++ more) t.current) (is_storage_true (t.net ++ m ∷ []) t.healing t.current && gave_answer place.Storage ((t.net ++ m ∷ []) ++ more) t.current) ≡ true → cond b (gave_answer (memory k) (all_pending t) t.current) (is_storage_true t.net t.healing t.current && gave_answer place.Storage (all_pending t) t.current) ≡ true
      by true e = gave (memory k) e
      by false e =
          let both = both_true (is_storage_true (t.net ++ m ∷ []) t.healing t.current) (gave_answer place.Storage ((t.net ++ m ∷ []) ++ more) t.current) e in
          and_true (is_storage_true t.net t.healing t.current) (gave_answer place.Storage (all_pending t) t.current) (storage_before t.net (m ∷ []) t.healing t.current both.0) (gave place.Storage both.1)

  sent_keeps : Middle lost t → Middle lost (record t { net = t.net ++ m ∷ []; owed = more })
  sent_keeps middle = shift-keeps lost t then_moment shift middle
    where
      shift : Shift lost t then_moment
      shift = record {
        goes = record {
          plain = refl;
          next = middle.next;
          current = current_goes t.current middle.current;
          pending = subst (λ (ms : List Message). AllByRecursion (MayPend lost (memory_count t.shape) t.plain t.current (healing_move t.healing) t.next) ms) (sym same_pending) middle.pending;
          waiting = middle.waiting;
          healing = heal_goes t.healing middle.healing;
          idle = λ none quiet. no_owed (middle.idle none quiet);
        };
        answered = λ p e. subst (λ (ms : List Message). gave_answer p ms t.current ≡ true) same_pending e;
        images = images_before;
        batches = λ k. ap (background k) same_pending;
        changes = λ b none. ap (list_any (λ (m : Message). changes_block b m.body)) same_pending ∙ none;
      }
        where
          no_owed : t.owed ≡ [] → more ≡ []
          no_owed none = let both : m ∷ more ≡ [] = sym is ∙ none in cc both

pub owed-is-sent : OwedIsSent
owed-is-sent lost t m more is middle = sent_keeps lost t m more is middle

-- A FIRST MESSAGE IS SENT

module _ (t : Track) (o : Open) (m : Message) (more : List Message) (is : t.current ≡ Some o) (healed : t.healing ≡ None) (settled : t.owed ≡ []) (next_ : o.unsent ≡ m ∷ more) (middle : Middle None t) where
  abbrev with_more : Open
  with_more = record o { unsent = more }

  abbrev first_moment : Moment
  first_moment = record {
    net = t.net ++ m ∷ [];
    owed = t.owed;
    delivered = t.delivered;
    next = t.next;
    current = Some with_more;
    healing = t.healing;
    clock = t.clock;
    stopped = t.stopped;
    caches = t.caches;
    due = t.due;
  }

  abbrev first_track : Track
  first_track = record t { net = t.net ++ m ∷ []; current = Some (record o { unsent = more }) }

  fits : CurrentFits t (Some o)
  fits = subst (CurrentFits t) is middle.current

  -- all that is pending
  before : all_pending t ≡ t.net
  before = ap (λ (ms : List Message). t.net ++ ms) settled ∙ append-nil t.net

  later : (t.net ++ m ∷ []) ++ t.owed ≡ t.net ++ m ∷ []
  later = ap (λ (ms : List Message). (t.net ++ m ∷ []) ++ ms) settled ∙ append-nil (t.net ++ m ∷ [])

  whole : messages_of o.by o.number (asks_of (memory_count t.shape) o.operation) ≡ fits.0.sent.0 ++ m ∷ more
  whole = sym fits.0.sent.1 ∙ ap (λ (ms : List Message). fits.0.sent.0 ++ ms) next_

  is_first : Among m (messages_of o.by o.number (asks_of (memory_count t.shape) o.operation))
  is_first = subst (Among m) (sym whole) (among_middle m fits.0.sent.0 more)

  from_issuer : (m.from ≡ o.by) × (m.op ≡ o.number)
  from_issuer = first_from o.by o.number (asks_of (memory_count t.shape) o.operation) m is_first

  request : IsRequest (memory_count t.shape) m
  request = all_among (IsRequest (memory_count t.shape)) (messages_of o.by o.number (asks_of (memory_count t.shape) o.operation)) m is_first fits.0.requests

  open_fits : OpenFits (memory_count t.shape) t.owners t.plain t.next with_more
  open_fits = record {
    some = fits.0.some;
    below = fits.0.below;
    by = fits.0.by;
    targets = fits.0.targets;
    sent = (fits.0.sent.0 ++ m ∷ [], append_assoc fits.0.sent.0 (m ∷ []) more ∙ sym whole);
    requests = fits.0.requests;
    fits = fits.0.fits;
    answers = every (answers_as_before o more o.answers (memory_count t.shape) t.plain) o.answers fits.0.answers;
  }

  is_ready : IsReady first_track with_more
  is_ready = by fits.2
    where
      by : IsReady t o → IsReady first_track with_more
      by (inl all) =
          let none : length o.unsent ≡ 0 = eqb-true (length o.unsent) 0 all in
          let some : length o.unsent ≡ suc (length more) = ap length next_ in
          absurd (omega (arith, none, some))
      by (inr e) = inr (back_false (is_complete t.net o) (is_complete (t.net ++ m ∷ []) o) (complete_before t.net (m ∷ []) o) e.0, e.1, healed)

  message_pends : MayPend None (memory_count t.shape) t.plain (Some with_more) (healing_move t.healing) t.next m
  message_pends = record {
    from = subst (IsPlace (memory_count t.shape)) (sym from_issuer.0) (issuer_there (memory_count t.shape) o.by fits.0.by);
    to = request.there;
    kind = OfOperation (ap (λ (n : OpNo). n.0) from_issuer.1, tt, First is_first);
  }

  all_pend : AllByRecursion (MayPend None (memory_count t.shape) t.plain (Some with_more) (healing_move t.healing) t.next) ((t.net ++ m ∷ []) ++ t.owed)
  all_pend =
      let all : AllByRecursion (MayPend None (memory_count t.shape) t.plain (Some o) (healing_move t.healing) t.next) t.net =
      subst (λ (p : List Message × Option Open). AllByRecursion (MayPend None (memory_count t.shape) t.plain p.1 (healing_move t.healing) t.next) p.0) (λ i. (before i, is i)) middle.pending in
      subst (λ (ms : List Message). AllByRecursion (MayPend None (memory_count t.shape) t.plain (Some with_more) (healing_move t.healing) t.next) ms) (sym later)
      (all_both (MayPend None (memory_count t.shape) t.plain (Some with_more) (healing_move t.healing) t.next) t.net (m ∷ []) (every (pends_as_before o more o.answers None (memory_count t.shape) t.plain (healing_move t.healing) t.next) t.net all) (message_pends, tt))

  all_wait : (k : ℕ) (s : Mem) → slice_get t.mems k ≡ Some s → AllByRecursion (WaiterFits (memory_count t.shape) k t.next (Some with_more) (healing_move t.healing)) s.drains
  all_wait k s at = every (waits_as_before o more o.answers (memory_count t.shape) k t.next (healing_move t.healing)) s.drains
      (subst (λ (c : Option Open). AllByRecursion (WaiterFits (memory_count t.shape) k t.next c (healing_move t.healing)) s.drains) is (middle.waiting k s at))

  -- a test that the message fails holds of some pending one where it held before
  any_before : (test : Message → Bool) → test m ≡ false → list_any test ((t.net ++ m ∷ []) ++ t.owed) ≡ list_any test (all_pending t)
  any_before test none =
      ap (list_any test) later ∙ list_any-append test t.net (m ∷ []) ∙ ap (λ (b : Bool). list_any test t.net || (b || false)) none
      ∙ or_nothing (list_any test t.net) ∙ ap (list_any test) (sym before)

  no_answer : (p : Place) → is_answer_from o p m ≡ false
  no_answer p = third_false (m.op.0 == o.number.0) (same_place m.from p) (same_place m.to o.by) (answers_to (patch_of o.operation) m.body) (issuer_apart m.to o.by request.component fits.0.by)

  answered_open : (p : Place) → gave_answer p ((t.net ++ m ∷ []) ++ t.owed) (Some with_more) ≡ true → gave_answer p (all_pending t) (Some o) ≡ true
  answered_open p e = ap (λ (b : Bool). has_answered p o.answers || b) (sym (any_before (is_answer_from o p) (no_answer p))) ∙ e

  storage_asked : is_storage_asked (t.net ++ m ∷ []) (Some with_more) ≡ false → is_storage_asked t.net (Some o) ≡ false
  storage_asked none =
      let split = ap (λ (b : Bool). list_any (asks_storage_by o.number.0) more || b) (list_any-append (asks_storage_by o.number.0) t.net (m ∷ [])) in
      ap (λ (ms : List Message). list_any (asks_storage_by o.number.0) ms || list_any (asks_storage_by o.number.0) t.net) next_
      ∙ turned (asks_storage_by o.number.0 m) (list_any (asks_storage_by o.number.0) more) (list_any (asks_storage_by o.number.0) t.net) (sym split ∙ none)
    where
      turned : (x a b : Bool) → (a || (b || (x || false))) ≡ false → ((x || a) || b) ≡ false
      turned true true b e = cc e
      turned true false true e = cc e
      turned true false false e = cc e
      turned false true b e = cc e
      turned false false true e = cc e
      turned false false false e = refl

  storage_as_before : is_storage_true (t.net ++ m ∷ []) t.healing (Some with_more) ≡ true → is_storage_true t.net t.healing (Some o) ≡ true
  storage_as_before e =
      let both = both_true (not (heals_target t.healing (Some with_more))) (not (is_storage_asked (t.net ++ m ∷ []) (Some with_more))) e in
      and_true (not (heals_target t.healing (Some o))) (not (is_storage_asked t.net (Some o)))
      (ap (λ (h : Option Healing). not (heals_target h (Some o))) healed)
      (ap not (storage_asked (not_true (is_storage_asked (t.net ++ m ∷ []) (Some with_more)) both.1)))

  images_as_before : (k : ℕ) → images_due first_track k ≡ true → images_due t k ≡ true
  images_as_before k e =
      subst (λ (c : Option Open). cond (is_writing c) (gave_answer (memory k) (all_pending t) c) (is_storage_true t.net t.healing c && gave_answer place.Storage (all_pending t) c) ≡ true) (sym is)
      (by (is_write o.operation) e)
    where
      by : (b : Bool) → cond b (gave_answer (memory k) ((t.net ++ m ∷ []) ++ t.owed) (Some with_more)) (is_storage_true (t.net ++ m ∷ []) t.healing (Some with_more) && gave_answer place.Storage ((t.net ++ m ∷ []) ++ t.owed) (Some with_more)) ≡ true → cond b (gave_answer (memory k) (all_pending t) (Some o)) (is_storage_true t.net t.healing (Some o) && gave_answer place.Storage (all_pending t) (Some o)) ≡ true
      by true e = answered_open (memory k) e
      by false e =
          let both = both_true (is_storage_true (t.net ++ m ∷ []) t.healing (Some with_more)) (gave_answer place.Storage ((t.net ++ m ∷ []) ++ t.owed) (Some with_more)) e in
          and_true (is_storage_true t.net t.healing (Some o)) (gave_answer place.Storage (all_pending t) (Some o)) (storage_as_before both.0) (answered_open place.Storage both.1)

  no_batch : (k : ℕ) → is_background k m ≡ false
  no_batch = numbered_is_no_batch m (subst (λ (n : OpNo). 0 < n.0) (sym from_issuer.1) fits.0.some)

  batches_as_before : (k : ℕ) → background k ((t.net ++ m ∷ []) ++ t.owed) ≡ background k (all_pending t)
  batches_as_before k =
      ap (background k) later ∙ filter-append (is_background k) t.net (m ∷ [])
      ∙ ap (λ (b : Bool). background k t.net ++ cond b (m ∷ []) []) (no_batch k)
      ∙ append-nil (background k t.net) ∙ ap (background k) (sym before)

  first_keeps : Middle None first_track
  first_keeps = shift-keeps None t first_moment shift middle
    where
      shift : Shift None t first_moment
      shift = record {
        goes = record {
          plain = ap (λ (c : Option Open). plain_with c t.plain) (sym is);
          next = middle.next;
          current = (open_fits, fits.1, is_ready);
          pending = all_pend;
          waiting = all_wait;
          healing = subst (HealFits None first_track) (sym healed) refl;
          idle = λ none quiet. absurd (no_open none);
        };
        answered = λ p e. subst (λ (c : Option Open). gave_answer p (all_pending t) c ≡ true) (sym is) (answered_open p e);
        images = images_as_before;
        batches = batches_as_before;
        changes = λ b none. any_before (λ (m : Message). changes_block b m.body) (request.changes b) ∙ none;
      }
        where
          no_open : Some with_more ≡ None → ⊥
          no_open e = cc e

pub first-is-sent : FirstIsSent
first-is-sent t o m more is healed settled next_ middle = first_keeps t o m more is healed settled next_ middle
