-- An issuer gets an answer to its open operation.
use Rattle.std.proofs.Common.{◌≡◌, ◌+◌, ◌<◌, ◌==◌, ◌&&◌, ◌||◌, [], ◌∷◌, ◌∙◌, ℕ, Bool, List, None, Option, Some, ap, cond, false, inl, inr, not, refl, subst, sym, true}
use Rattle.std.proofs.lemmas.Bool.{eq-eqb, eqb-false, ne_eqb}
use Rattle.std.proofs.lemmas.Bool.Decides.{eqb_tells}
use Rattle.std.specs.List.{AllByRecursion, list_any}
use Rattle.lego_msg.specs.Deliveries.{MayDeliver, answered, reaction_of, stops, taken}
use Rattle.lego_msg.specs.Operations.{asks_of, has_patch, is_write, messages_of, patch_of}
use Rattle.lego_msg.specs.Places.{is_among, is_issuer, memory, same_place}
use Rattle.lego_msg.specs.Plain.{Plain}
use Rattle.lego_msg.specs.Track.{Track, has_answered, healing_move, is_calm, is_crash_due, is_done, memory_count, taken_out}
use Rattle.lego_msg.specs.declared.body.Body.{Body}
use Rattle.lego_msg.specs.declared.healing.Healing.{Healing}
use Rattle.lego_msg.specs.declared.message.Message.{Message}
use Rattle.lego_msg.specs.declared.operation.Answer.{Answer}
use Rattle.lego_msg.specs.declared.operation.Open.{Open}
use Rattle.lego_msg.specs.declared.operation.Operation.{Operation}
use Rattle.lego_msg.specs.declared.operation.Operation.TheVariants.{AsksAreas, AsksSize, Copies, CutsFile, CutsName, Drains, Drops, Finds, FreesFile, GetsName, Heals, ListsNames, MakesName, Reads, ReadsFile, SetsAreas, SetsHome, Unmaps, Writes, WritesFile}
use Rattle.lego_base.specs.declared.records.Patch.{Patch}
use Rattle.lego_msg.specs.declared.place.Place.{Place}
use Rattle.lego_msg.specs.declared.place.Place.TheVariants.{Manager, Memory, Processor, Storage}
use Rattle.lego_rest.specs.Answers.{all_pending, answers_to, gave_answer, heals_target, images_due, is_answer_from, is_storage_asked, is_storage_true}
use Rattle.lego_rest.specs.Fits.{IsRequest, OpenFits}
use Rattle.lego_rest.specs.Heals.{HealFits, scene_of}
use Rattle.lego_rest.specs.Pending.{Among, AnAnswer, First, HandedOn, HandsOn, IsNot, Left, MayPend, OfBackground, OfMove, OfOpen, OfOperation, Pends, Reaction, Reacts, Says}
use Rattle.lego_rest.specs.Rest.{CurrentFits, Middle}
use Rattle.rest_laws.proofs.Net.{any-taken}
use Rattle.rest_laws.proofs.Opened.{all_among, answers_as_before, every, pends_as_before, waits_as_before}
use Rattle.rest_laws.proofs.Truth.{and_true, back_false, both_true}
use Rattle.rest_laws.proofs.Stepping.{shift-keeps}
use Rattle.rest_laws.proofs.Taken.{all_sent, all_taken, batches_same, between_goes, changes_less, done_same, no_batch_to_issuer, not_of_move, split, storage_same, whole}
use Rattle.rest_laws.specs.Delivering.{AnswerIsNoted}
use Rattle.rest_laws.specs.Steps.{Moment, Shift}
use Rattle.lego_msg.specs.declared.body.Body.TheVariants as body
use Rattle.lego_msg.specs.declared.place.Place.TheVariants as place
use Rattle.lego_msg.specs.declared.place.Why.TheVariants as why

-- WHAT AN ISSUER GETS OF AN OPERATION is an answer of a target: all other messages of it go to components

to_component : (to to' : Place) → is_issuer to' ≡ false → to ≡ to' → is_issuer to ≡ true → ⊥
to_component to to' component same issuer = let e : false ≡ true = sym component ∙ ap is_issuer (sym same) ∙ issuer in cc e

no_reaction : (n : ℕ) (o : Operation) (to : Place) (what : Body) → is_issuer to ≡ true → Reacts n o to what → ⊥
no_reaction n (Finds pid region) to what issuer how = how
no_reaction n (Reads pid line owner) to what issuer how = how
no_reaction n (Writes origin patch owner) to what issuer how = to_component to _ refl how.0 issuer
no_reaction n (SetsHome pid region owner) to what issuer how = how
no_reaction n (SetsAreas pid region areas owner) to what issuer how = how
no_reaction n (AsksAreas pid region owner) to what issuer how = how
no_reaction n (Drains memory_) to what issuer how = how
no_reaction n (Unmaps pid region first pages areas owner) to what issuer how = how
no_reaction n (Copies parent child regions owner) to what issuer how = how
no_reaction n (Drops pid) to what issuer how = how
no_reaction n (ReadsFile file block off len) to what issuer how = how
no_reaction n (WritesFile file block off bytes) to what issuer how = how
no_reaction n (CutsFile file size) to what issuer how = how
no_reaction n (AsksSize file) to what issuer how = how
no_reaction n (GetsName name) to what issuer how = how
no_reaction n (MakesName name) to what issuer how = how
no_reaction n (CutsName name) to what issuer how = how
no_reaction n ListsNames to what issuer how = how
no_reaction n (FreesFile file) to what issuer how = how
no_reaction n (Heals to_ what_) to what issuer how = how

none_handed_on : (n : ℕ) (f : Plain) (by : Place) (o : Operation) (m : Message) → is_issuer m.to ≡ true → HandsOn n f by o m → ⊥
none_handed_on n f by (Finds pid region) m issuer how = how
none_handed_on n f by (Reads pid line owner) m issuer how = how
none_handed_on n f by (Writes origin patch owner) m issuer how = how
none_handed_on n f by (SetsHome pid region owner) m issuer how = how
none_handed_on n f by (SetsAreas pid region areas owner) m issuer how = how
none_handed_on n f by (AsksAreas pid region owner) m issuer how = how
none_handed_on n f by (Drains memory_) m issuer how = how
none_handed_on n f by (Unmaps pid region first pages areas owner) m issuer how = how
none_handed_on n f by (Copies parent child regions owner) m issuer how = how
none_handed_on n f by (Drops pid) m issuer how = how
none_handed_on n f by (ReadsFile file block off len) m issuer (inl how) = to_component m.to place.Storage refl how.1 issuer
none_handed_on n f by (ReadsFile file block off len) m issuer (inr how) = to_component m.to _ refl how.1 issuer
none_handed_on n f by (WritesFile file block off bytes) m issuer how = to_component m.to place.Storage refl how.1 issuer
none_handed_on n f by (CutsFile file size) m issuer how = to_component m.to place.Storage refl how.1 issuer
none_handed_on n f by (AsksSize file) m issuer how = how
none_handed_on n f by (GetsName name) m issuer how = how
none_handed_on n f by (MakesName name) m issuer how = how
none_handed_on n f by (CutsName name) m issuer how = how
none_handed_on n f by ListsNames m issuer how = how
none_handed_on n f by (FreesFile file) m issuer how = how
none_handed_on n f by (Heals to_ what_) m issuer how = how

pub record OfTarget (n : ℕ) (f : Plain) (m : Message) (o : Open) : Type 0 where
  pub to : m.to ≡ o.by
  pub target : is_among m.from o.targets ≡ true
  pub says : Says n f o.operation m.from m.body

pub is_of_target : (n : ℕ) (f : Plain) (m : Message) (o : Open) → is_issuer m.to ≡ true → AllByRecursion (IsRequest n) (messages_of o.by o.number (asks_of n o.operation)) → OfOpen n f m o → OfTarget n f m o
is_of_target n f m o issuer requests (First among) = let request = all_among (IsRequest n) (messages_of o.by o.number (asks_of n o.operation)) m among requests in absurd (to_component m.to m.to request.component refl issuer)
is_of_target n f m o issuer requests (Reaction from how) = absurd (no_reaction n o.operation m.to m.body issuer how)
is_of_target n f m o issuer requests (HandedOn how) = absurd (none_handed_on n f o.by o.operation m issuer how)
is_of_target n f m o issuer requests (AnAnswer to target says) = record { to = to; target = target; says = says }

pub of_current : (lost : Option ℕ) (n : ℕ) (f : Plain) (o : Open) (move : Option Open) (next : ℕ) (m : Message) → is_issuer m.to ≡ true → m.op.0 ≡ o.number.0 → IsNot move m.op.0 → 0 < o.number.0 → Pends lost n f (Some o) move next m → OfOpen n f m o
of_current lost n f o move next m issuer number not_move some (OfOperation of) = of.2
of_current lost n f o move next m issuer number not_move some (OfMove of) = absurd (not_of_move m move of not_move)
of_current lost n f o move next m issuer number not_move some (OfBackground of) = absurd (no_batch_to_issuer m of.of issuer of.batch)
of_current lost n f o move next m issuer number not_move some (Left old) = absurd (eqb-false m.op.0 o.number.0 old.not_current number)

reacts_not : (patch : Patch) (told full what : Body) → told ≡ full → reaction_of (Some patch) full ≡ Some what → reaction_of (Some patch) told ≡ None → ⊥
reacts_not patch told full what same reacts none = let e : Some what ≡ None = sym reacts ∙ ap (reaction_of (Some patch)) (sym same) ∙ none in cc e

wrote_by_second : (patch : Patch) (told : Body) → Among told (body.Wrote ∷ body.LogFull ∷ body.Drained ∷ []) → reaction_of (Some patch) told ≡ None → told ≡ body.Wrote
wrote_by_second patch told (inl e) none = e
wrote_by_second patch told (inr (inl e)) none = absurd (reacts_not patch told body.LogFull body.Drain e refl none)
wrote_by_second patch told (inr (inr (inl e))) none = absurd (reacts_not patch told body.Drained (body.LogWrite patch) e refl none)
wrote_by_second patch told (inr (inr (inr nobody))) none = absurd nobody

wrote_by_owner : (told : Body) → Among told (body.Wrote ∷ body.Refused why.Full ∷ []) → stops told ≡ false → told ≡ body.Wrote
wrote_by_owner told (inl e) goes = e
wrote_by_owner told (inr (inl e)) goes = let both : true ≡ false = ap stops (sym e) ∙ goes in cc both
wrote_by_owner told (inr (inr nobody)) goes = absurd nobody

-- a write's answer is that it was written, where it isn't a full log or a drained one
wrote_if : (n : ℕ) (f : Plain) (o : Operation) (from : Place) (told : Body) → Says n f o from told → reaction_of (patch_of o) told ≡ None → stops told ≡ false → is_write o ≡ true → told ≡ body.Wrote
wrote_if n f (Finds pid region) from told says none goes write = cc write
wrote_if n f (Reads pid line owner) from told says none goes write = cc write
wrote_if n f (Writes origin patch owner) from told (inl says) none goes write = wrote_by_second patch told says.1 none
wrote_if n f (Writes origin patch owner) from told (inr says) none goes write = wrote_by_owner told says.1 goes
wrote_if n f (SetsHome pid region owner) from told says none goes write = cc write
wrote_if n f (SetsAreas pid region areas owner) from told says none goes write = cc write
wrote_if n f (AsksAreas pid region owner) from told says none goes write = cc write
wrote_if n f (Drains memory_) from told says none goes write = cc write
wrote_if n f (Unmaps pid region first pages areas owner) from told says none goes write = cc write
wrote_if n f (Copies parent child regions owner) from told says none goes write = cc write
wrote_if n f (Drops pid) from told says none goes write = cc write
wrote_if n f (ReadsFile file block off len) from told says none goes write = cc write
wrote_if n f (WritesFile file block off bytes) from told says none goes write = cc write
wrote_if n f (CutsFile file size) from told says none goes write = cc write
wrote_if n f (AsksSize file) from told says none goes write = cc write
wrote_if n f (GetsName name) from told says none goes write = cc write
wrote_if n f (MakesName name) from told says none goes write = cc write
wrote_if n f (CutsName name) from told says none goes write = cc write
wrote_if n f ListsNames from told says none goes write = cc write
wrote_if n f (FreesFile file) from told says none goes write = cc write
wrote_if n f (Heals to_ what_) from told says none goes write = cc write

answers_so : (patch : Option Patch) (told : Body) → (has_patch patch ≡ true → told ≡ body.Wrote) → stops told ≡ false → answers_to patch told ≡ true
answers_so None told wrote goes = ap not goes
answers_so (Some patch) told wrote goes = ap (answers_to (Some patch)) (wrote refl)

-- PLACES

pub eqb_sym : (a b : ℕ) → (a == b) ≡ (b == a)
eqb_sym a b = elim (eqb_tells a b) [
  | inl e ↦ e.0 ∙ sym (eq-eqb b a (sym e.1))
  | inr e ↦ e.0 ∙ sym (ne_eqb b a (λ same. e.1 (sym same)))
]

pub place_sym : (a b : Place) → same_place a b ≡ same_place b a
place_sym (Processor a) (Processor b) = eqb_sym a.0 b.0
place_sym (Processor a) (Memory b) = refl
place_sym (Processor a) Storage = refl
place_sym (Processor a) Manager = refl
place_sym (Memory a) (Processor b) = refl
place_sym (Memory a) (Memory b) = eqb_sym a.0 b.0
place_sym (Memory a) Storage = refl
place_sym (Memory a) Manager = refl
place_sym Storage (Processor b) = refl
place_sym Storage (Memory b) = refl
place_sym Storage Storage = refl
place_sym Storage Manager = refl
place_sym Manager (Processor b) = refl
place_sym Manager (Memory b) = refl
place_sym Manager Storage = refl
place_sym Manager Manager = refl

pub place_same : (a : Place) → same_place a a ≡ true
place_same (Processor a) = eq-eqb a.0 a.0 refl
place_same (Memory a) = eq-eqb a.0 a.0 refl
place_same Storage = refl
place_same Manager = refl

heals_same : (h : Option Healing) (o : Open) (answers : List Answer) → heals_target h (Some (record o { answers = answers })) ≡ heals_target h (Some o)
heals_same None o answers = refl
heals_same (Some h) o answers = refl

-- nothing is done where the next event is a delivery
pub calm_moves : (t : Track) → is_calm t ≡ true → is_done t.net (healing_move t.healing) ≡ false
calm_moves t calm = by t.stopped (is_done t.net (healing_move t.healing)) (is_done t.net t.current) (is_crash_due t) calm
  where
    by : (s a b c : Bool) → (not s && not (a || b) && not c) ≡ true → a ≡ false
    by true a b c e = cc e
    by false true b c e = cc e
    by false false b c e = refl

-- THE ANSWER IS NOTED: the open operation is o, and becomes o with the answer
module _ (lost : Option ℕ) (t : Track) (o : Open) (m : Message) (may : MayDeliver (record t { current = Some o }) m) (issuer : is_issuer m.to ≡ true) (number : m.op.0 ≡ o.number.0) (not_move : IsNot (healing_move t.healing) m.op.0) (goes_on : stops m.body ≡ false) (none : reaction_of (patch_of o.operation) m.body ≡ None) (middle : Middle lost (record t { current = Some o })) where
  abbrev open_track : Track
  open_track = record t { current = Some o }

  abbrev with_answer : Open
  with_answer = answered o m

  abbrev noted_track : Track
  noted_track = record (taken (record t { current = Some o })) { current = Some (answered o m) }

  abbrev noted_moment : Moment
  noted_moment = record {
    net = taken_out t.shape.deliveries t.delivered t.net;
    owed = t.owed;
    delivered = t.delivered + 1;
    next = t.next;
    current = Some (answered o m);
    healing = t.healing;
    clock = record t.clock { since = t.clock.since + 1 };
    stopped = t.stopped;
    caches = t.caches;
    due = t.due;
  }

  fits : CurrentFits open_track (Some o)
  fits = middle.current

  pend : MayPend lost (memory_count t.shape) t.plain (Some o) (healing_move t.healing) t.next m × AllByRecursion (MayPend lost (memory_count t.shape) t.plain (Some o) (healing_move t.healing) t.next) (all_pending (taken open_track))
  pend = all_taken (MayPend lost (memory_count t.shape) t.plain (Some o) (healing_move t.healing) t.next) (all_pending open_track) (all_pending (taken open_track)) m (whole open_track m may) middle.pending

  of_target : OfTarget (memory_count t.shape) t.plain m o
  of_target = is_of_target (memory_count t.shape) t.plain m o issuer fits.0.requests (of_current lost (memory_count t.shape) t.plain o (healing_move t.healing) t.next m issuer number not_move fits.0.some pend.0.kind)

  wrote : is_write o.operation ≡ true → m.body ≡ body.Wrote
  wrote = wrote_if (memory_count t.shape) t.plain o.operation m.from m.body of_target.says none goes_on

  open_fits : OpenFits (memory_count t.shape) t.owners t.plain t.next with_answer
  open_fits = record {
    some = fits.0.some;
    below = fits.0.below;
    by = fits.0.by;
    targets = fits.0.targets;
    sent = fits.0.sent;
    requests = fits.0.requests;
    fits = fits.0.fits;
    answers = (record { target = of_target.target; says = of_target.says; goes_on = goes_on; wrote = wrote }, every (answers_as_before o o.unsent with_answer.answers (memory_count t.shape) t.plain) o.answers fits.0.answers);
  }

  -- its sender was taken to have answered while the answer was pending
  is_its_answer : (p : Place) → is_answer_from o p m ≡ same_place p m.from
  is_its_answer p =
      let number_is : (m.op.0 == o.number.0) ≡ true = eq-eqb m.op.0 o.number.0 number in
      let to_issuer : same_place m.to o.by ≡ true = ap (λ (to : Place). same_place to o.by) of_target.to ∙ place_same o.by in
      let answers_it : answers_to (patch_of o.operation) m.body ≡ true = answers_so (patch_of o.operation) m.body wrote goes_on in
      by (m.op.0 == o.number.0) (same_place m.from p) (same_place m.to o.by) (answers_to (patch_of o.operation) m.body) number_is to_issuer answers_it ∙ place_sym m.from p
    where
      by : (a b c d : Bool) → a ≡ true → c ≡ true → d ≡ true → (a && b && c && d) ≡ b
      by true true true true e f g = refl
      by true false c d e f g = refl
      by true true true false e f g = cc g
      by true true false d e f g = cc f
      by false b c d e f g = cc e

  gave_before : (p : Place) → gave_answer p (all_pending (taken open_track)) (Some with_answer) ≡ true → gave_answer p (all_pending open_track) (Some o) ≡ true
  gave_before p e =
      let split_one = any-taken (is_answer_from o p) (all_pending open_track) (all_pending (taken open_track)) m (whole open_track m may) in
      ap (λ (b : Bool). has_answered p o.answers || b) split_one
      ∙ turned (same_place p m.from) (is_answer_from o p m) (has_answered p o.answers) (list_any (is_answer_from o p) (all_pending (taken open_track))) (is_its_answer p) e
    where
      turned : (a x h r : Bool) → x ≡ a → ((a || h) || r) ≡ true → (h || (x || r)) ≡ true
      turned true true true r e f = refl
      turned true true false r e f = refl
      turned true false h r e f = cc e
      turned false true h r e f = cc e
      turned false false h r e f = f

  storage_before : is_storage_true (taken_out t.shape.deliveries t.delivered t.net) t.healing (Some with_answer) ≡ true → is_storage_true t.net t.healing (Some o) ≡ true
  storage_before e =
      let both = both_true (not (heals_target t.healing (Some with_answer))) (not (is_storage_asked (taken_out t.shape.deliveries t.delivered t.net) (Some with_answer))) e in
      storage_same t.net (taken_out t.shape.deliveries t.delivered t.net) m (split open_track m may) issuer t.healing (Some o)
      ∙ and_true (not (heals_target t.healing (Some o))) (not (is_storage_asked (taken_out t.shape.deliveries t.delivered t.net) (Some o))) (ap not (sym (heals_same t.healing o with_answer.answers)) ∙ both.0) both.1

  images_before : (k : ℕ) → images_due noted_track k ≡ true → images_due open_track k ≡ true
  images_before k e = by (is_write o.operation) e
    where
      by : (b : Bool) → cond b (gave_answer (memory k) (all_pending (taken open_track)) (Some with_answer)) (is_storage_true (taken_out t.shape.deliveries t.delivered t.net) t.healing (Some with_answer) && gave_answer place.Storage (all_pending (taken open_track)) (Some with_answer)) ≡ true → cond b (gave_answer (memory k) (all_pending open_track) (Some o)) (is_storage_true t.net t.healing (Some o) && gave_answer place.Storage (all_pending open_track) (Some o)) ≡ true
      by true e = gave_before (memory k) e
      by false e =
          let both = both_true (is_storage_true (taken_out t.shape.deliveries t.delivered t.net) t.healing (Some with_answer)) (gave_answer place.Storage (all_pending (taken open_track)) (Some with_answer)) e in
          and_true (is_storage_true t.net t.healing (Some o)) (gave_answer place.Storage (all_pending open_track) (Some o)) (storage_before both.0) (gave_before place.Storage both.1)

  some : 0 < m.op.0
  some = subst (λ (n : ℕ). 0 < n) (sym number) fits.0.some

  heal_goes : (h : Option Healing) → IsNot (healing_move h) m.op.0 → is_done t.net (healing_move h) ≡ false → HealFits lost open_track h → HealFits lost noted_track h
  heal_goes None not_it undone fits = fits
  heal_goes (Some h) not_it undone fits = (
    fits.0,
    λ goes_on. let holds = fits.1 goes_on in record {
      stands = holds.stands;
      between = between_goes open_track m may (scene_of open_track) holds.stands.x h.memory.0 t.next holds.stands.done h.current h.got holds.stands.ahead not_it holds.between;
      background = batches_same open_track m may some h.memory.0 ∙ holds.background;
      pages = holds.pages;
      clear = holds.clear;
      forgotten = back_false (gave_answer (memory h.memory.0) (all_pending open_track) (Some o)) (gave_answer (memory h.memory.0) (all_pending (taken open_track)) (Some with_answer)) (gave_before (memory h.memory.0)) holds.forgotten;
      one_done = λ done. let both : true ≡ false = sym done ∙ sym (done_same t.net (taken_out t.shape.deliveries t.delivered t.net) m (split open_track m may) h.current not_it) ∙ undone in cc both;
      no_second = holds.no_second;
      apart = holds.apart;
    },
  )

  noted_keeps : Middle lost noted_track
  noted_keeps = shift-keeps lost open_track noted_moment shift middle
    where
      shift : Shift lost open_track noted_moment
      shift = record {
        goes = record {
          plain = refl;
          next = middle.next;
          current = (open_fits, fits.1, inl (all_sent open_track m may o may.waiting fits.2));
          pending = every (pends_as_before o o.unsent with_answer.answers lost (memory_count t.shape) t.plain (healing_move t.healing) t.next) (all_pending (taken open_track)) pend.1;
          waiting = λ k s at. every (waits_as_before o o.unsent with_answer.answers (memory_count t.shape) k t.next (healing_move t.healing)) s.drains (middle.waiting k s at);
          healing = heal_goes t.healing not_move (calm_moves open_track may.calm) middle.healing;
          idle = λ closed quiet. absurd (no_open closed);
        };
        answered = gave_before;
        images = images_before;
        batches = batches_same open_track m may some;
        changes = changes_less open_track m may;
      }
        where
          no_open : Some with_answer ≡ None → ⊥
          no_open e = cc e

pub answer-is-noted : AnswerIsNoted
answer-is-noted lost t o m is may issuer number not_move goes_on none middle =
    subst (λ (c : Option Open). Middle lost (record (taken (record t { current = c })) { current = Some (answered o m) })) (sym is)
    (noted_keeps lost t o m (subst (λ (c : Option Open). MayDeliver (record t { current = c }) m) is may) issuer number not_move goes_on none (subst (λ (c : Option Open). Middle lost (record t { current = c })) is middle))
