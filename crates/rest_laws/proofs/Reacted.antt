-- An issuer reacts to a full log or a drained one.
use Rattle.std.proofs.Common.{◌≡◌, ◌+◌, ◌<◌, ◌==◌, ◌&&◌, ◌||◌, [], ◌∷◌, ◌++◌, ◌∙◌, ℕ, Bool, List, None, Option, Some, ap, append-nil, cond, false, inl, inr, refl, subst, sym, true}
use Rattle.std.proofs.lemmas.Bool.{eqb-false}
use Rattle.std.specs.List.{AllByRecursion, list_any}
use Rattle.lego_base.specs.declared.records.Patch.{Patch}
use Rattle.lego_msg.specs.Deliveries.{MayDeliver, reaction_of, taken}
use Rattle.lego_msg.specs.Operations.{is_write, patch_of}
use Rattle.lego_msg.specs.Places.{is_issuer, memory, same_place}
use Rattle.lego_msg.specs.Plain.{Plain}
use Rattle.lego_msg.specs.State.{Block}
use Rattle.lego_msg.specs.Track.{Track, has_answered, healing_move, is_done, memory_count, taken_out}
use Rattle.lego_msg.specs.declared.body.Body.{Body}
use Rattle.lego_msg.specs.declared.healing.Healing.{Healing}
use Rattle.lego_msg.specs.declared.message.Message.{Message}
use Rattle.lego_msg.specs.declared.operation.Open.{Open}
use Rattle.lego_msg.specs.declared.operation.Operation.{Operation}
use Rattle.lego_msg.specs.declared.operation.Operation.TheVariants.{AsksAreas, AsksSize, Copies, CutsFile, CutsName, Drains, Drops, Finds, FreesFile, GetsName, Heals, ListsNames, MakesName, Reads, ReadsFile, SetsAreas, SetsHome, Unmaps, Writes, WritesFile}
use Rattle.lego_msg.specs.declared.place.Place.{Place}
use Rattle.lego_rest.specs.Answers.{all_pending, answers_to, gave_answer, images_due, is_answer_from, is_storage_true}
use Rattle.lego_rest.specs.Fits.{background, changes_block}
use Rattle.lego_rest.specs.Heals.{Between, HealFits, scene_of}
use Rattle.lego_rest.specs.Pending.{Among, IsAway, IsNot, Left, MayPend, OfBackground, OfMove, OfOperation, Pends, Reaction, Reacts, Says}
use Rattle.lego_rest.specs.Rest.{CurrentFits, Middle}
use Rattle.rest_laws.proofs.Noted.{OfTarget, calm_moves, is_of_target, of_current}
use Rattle.rest_laws.proofs.Opened.{all_both, issuer_apart}
use Rattle.rest_laws.proofs.Truth.{and_true, back_false, both_true, third_false}
use Rattle.rest_laws.proofs.Stepping.{shift-keeps}
use Rattle.rest_laws.proofs.Taken.{all_sent, all_taken, any_less, any_more, background_more, batches_same, between_goes, between_more, changes_less, done_same, no_batch_to_issuer, not_of_move, split, storage_same, whole}
use Rattle.rest_laws.specs.Delivering.{ReactionIsOwed}
use Rattle.rest_laws.specs.Steps.{Moment, Shift}
use Rattle.lego_msg.specs.declared.body.Body.TheVariants as body
use Rattle.lego_msg.specs.declared.place.Place.TheVariants as place
use Rattle.lego_msg.specs.declared.place.Why.TheVariants as why

-- WHAT IS REACTED TO comes from the secondary of a write, and so goes back there
pub record Reacted (n : ℕ) (o : Operation) (from : Place) (what : Body) : Type 0 where
  pub reacts : Reacts n o from what
  pub component : is_issuer from ≡ false
  pub changes : (b : Block) → changes_block b what ≡ false

same_body : (a b : Body) → Some a ≡ Some b → a ≡ b
same_body a b e = cc e

not_none : (b : Body) → None ≡ Some b → ⊥
not_none b e = cc e

reaction_to : (patch : Patch) (told full what what' : Body) → told ≡ full → reaction_of (Some patch) full ≡ Some what' → reaction_of (Some patch) told ≡ Some what → what ≡ what'
reaction_to patch told full what what' same is reacts = same_body what what' (sym reacts ∙ ap (reaction_of (Some patch)) same ∙ is)

to_drain : (n : ℕ) (patch : Patch) (from secondary : Place) (told what : Body) → from ≡ secondary → is_issuer secondary ≡ false → Among told (body.Wrote ∷ body.LogFull ∷ body.Drained ∷ []) → reaction_of (Some patch) told ≡ Some what → Among what (body.Drain ∷ body.LogWrite patch ∷ []) × ((b : Block) → changes_block b what ≡ false)
to_drain n patch from secondary told what same component (inl e) reacts = absurd (not_none what (ap (reaction_of (Some patch)) (sym e) ∙ reacts))
to_drain n patch from secondary told what same component (inr (inl e)) reacts =
    let is : what ≡ body.Drain = reaction_to patch told body.LogFull what body.Drain e refl reacts in
    (inl is, λ b. ap (changes_block b) is)
to_drain n patch from secondary told what same component (inr (inr (inl e))) reacts =
    let is : what ≡ body.LogWrite patch = reaction_to patch told body.Drained what (body.LogWrite patch) e refl reacts in
    (inr (inl is), λ b. ap (changes_block b) is)
to_drain n patch from secondary told what same component (inr (inr (inr nobody))) reacts = absurd nobody

by_owner : (patch : Patch) (told what : Body) → Among told (body.Wrote ∷ body.Refused why.Full ∷ []) → reaction_of (Some patch) told ≡ Some what → ⊥
by_owner patch told what (inl e) reacts = not_none what (ap (reaction_of (Some patch)) (sym e) ∙ reacts)
by_owner patch told what (inr (inl e)) reacts = not_none what (ap (reaction_of (Some patch)) (sym e) ∙ reacts)
by_owner patch told what (inr (inr nobody)) reacts = nobody

reacted : (n : ℕ) (f : Plain) (o : Operation) (from : Place) (told what : Body) → Says n f o from told → reaction_of (patch_of o) told ≡ Some what → Reacted n o from what
reacted n f (Finds pid region) from told what says reacts = absurd (not_none what reacts)
reacted n f (Reads pid line owner) from told what says reacts = absurd (not_none what reacts)
reacted n f (Writes origin patch owner) from told what (inl says) reacts =
    let drains = to_drain n patch from _ told what says.0 refl says.1 reacts in
    record { reacts = (says.0, drains.0); component = ap is_issuer says.0; changes = drains.1 }
reacted n f (Writes origin patch owner) from told what (inr says) reacts = absurd (by_owner patch told what says.1 reacts)
reacted n f (SetsHome pid region owner) from told what says reacts = absurd (not_none what reacts)
reacted n f (SetsAreas pid region areas owner) from told what says reacts = absurd (not_none what reacts)
reacted n f (AsksAreas pid region owner) from told what says reacts = absurd (not_none what reacts)
reacted n f (Drains memory_) from told what says reacts = absurd (not_none what reacts)
reacted n f (Unmaps pid region first pages areas owner) from told what says reacts = absurd (not_none what reacts)
reacted n f (Copies parent child regions owner) from told what says reacts = absurd (not_none what reacts)
reacted n f (Drops pid) from told what says reacts = absurd (not_none what reacts)
reacted n f (ReadsFile file block off len) from told what says reacts = absurd (not_none what reacts)
reacted n f (WritesFile file block off bytes) from told what says reacts = absurd (not_none what reacts)
reacted n f (CutsFile file size) from told what says reacts = absurd (not_none what reacts)
reacted n f (AsksSize file) from told what says reacts = absurd (not_none what reacts)
reacted n f (GetsName name) from told what says reacts = absurd (not_none what reacts)
reacted n f (MakesName name) from told what says reacts = absurd (not_none what reacts)
reacted n f (CutsName name) from told what says reacts = absurd (not_none what reacts)
reacted n f ListsNames from told what says reacts = absurd (not_none what reacts)
reacted n f (FreesFile file) from told what says reacts = absurd (not_none what reacts)
reacted n f (Heals to_ what_) from told what says reacts = absurd (not_none what reacts)

away_of : (lost : Option ℕ) (n : ℕ) (f : Plain) (o : Open) (move : Option Open) (next : ℕ) (m : Message) → is_issuer m.to ≡ true → m.op.0 ≡ o.number.0 → IsNot move m.op.0 → Pends lost n f (Some o) move next m → IsAway lost m
away_of lost n f o move next m issuer number not_move (OfOperation of) = of.1
away_of lost n f o move next m issuer number not_move (OfMove of) = absurd (not_of_move m move of not_move)
away_of lost n f o move next m issuer number not_move (OfBackground of) = absurd (no_batch_to_issuer m of.of issuer of.batch)
away_of lost n f o move next m issuer number not_move (Left old) = absurd (eqb-false m.op.0 o.number.0 old.not_current number)

away_back : (lost : Option ℕ) (m r : Message) → r.from ≡ m.to → r.to ≡ m.from → IsAway lost m → IsAway lost r
away_back None m r from to away = tt
away_back (Some c) m r from to away = (ap (λ (p : Place). same_place p (memory c)) from ∙ away.1, ap (λ (p : Place). same_place p (memory c)) to ∙ away.0)

module _ (lost : Option ℕ) (t : Track) (o : Open) (m : Message) (what : Body) (may : MayDeliver (record t { current = Some o }) m) (issuer : is_issuer m.to ≡ true) (number : m.op.0 ≡ o.number.0) (not_move : IsNot (healing_move t.healing) m.op.0) (reacts : reaction_of (patch_of o.operation) m.body ≡ Some what) (middle : Middle lost (record t { current = Some o })) where
  abbrev open_track : Track
  open_track = record t { current = Some o }

  -- what the issuer owes
  abbrev owing : Message
  owing = record { from = m.to; to = m.from; op = m.op; body = what }

  abbrev rest_of : List Message
  rest_of = taken_out t.shape.deliveries t.delivered t.net

  abbrev owed_track : Track
  owed_track = record (taken (record t { current = Some o })) { owed = record { from = m.to; to = m.from; op = m.op; body = what } ∷ [] }

  abbrev owed_moment : Moment
  owed_moment = record {
    net = taken_out t.shape.deliveries t.delivered t.net;
    owed = record { from = m.to; to = m.from; op = m.op; body = what } ∷ [];
    delivered = t.delivered + 1;
    next = t.next;
    current = Some o;
    healing = t.healing;
    clock = record t.clock { since = t.clock.since + 1 };
    stopped = t.stopped;
    caches = t.caches;
    due = t.due;
  }

  fits : CurrentFits open_track (Some o)
  fits = middle.current

  -- what is pending then: what was left of it, and what is owed
  more : all_pending owed_track ≡ all_pending (taken open_track) ++ owing ∷ []
  more = ap (λ (ms : List Message). ms ++ owing ∷ []) (sym (ap (λ (ms : List Message). rest_of ++ ms) may.owed ∙ append-nil rest_of))

  pend : MayPend lost (memory_count t.shape) t.plain (Some o) (healing_move t.healing) t.next m × AllByRecursion (MayPend lost (memory_count t.shape) t.plain (Some o) (healing_move t.healing) t.next) (all_pending (taken open_track))
  pend = all_taken (MayPend lost (memory_count t.shape) t.plain (Some o) (healing_move t.healing) t.next) (all_pending open_track) (all_pending (taken open_track)) m (whole open_track m may) middle.pending

  of_target : OfTarget (memory_count t.shape) t.plain m o
  of_target = is_of_target (memory_count t.shape) t.plain m o issuer fits.0.requests (of_current lost (memory_count t.shape) t.plain o (healing_move t.healing) t.next m issuer number not_move fits.0.some pend.0.kind)

  is_reacted : Reacted (memory_count t.shape) o.operation m.from what
  is_reacted = reacted (memory_count t.shape) t.plain o.operation m.from m.body what of_target.says reacts

  owing_pends : MayPend lost (memory_count t.shape) t.plain (Some o) (healing_move t.healing) t.next owing
  owing_pends = record {
    from = pend.0.to;
    to = pend.0.from;
    kind = OfOperation (number, away_back lost m owing refl refl (away_of lost (memory_count t.shape) t.plain o (healing_move t.healing) t.next m issuer number not_move pend.0.kind), Reaction of_target.to is_reacted.reacts);
  }

  some : 0 < m.op.0
  some = subst (λ (n : ℕ). 0 < n) (sym number) fits.0.some

  no_answer : (p : Place) → is_answer_from o p owing ≡ false
  no_answer p = third_false (owing.op.0 == o.number.0) (same_place owing.from p) (same_place owing.to o.by) (answers_to (patch_of o.operation) what) (issuer_apart m.from o.by is_reacted.component fits.0.by)

  gave_before : (p : Place) → gave_answer p (all_pending owed_track) (Some o) ≡ true → gave_answer p (all_pending open_track) (Some o) ≡ true
  gave_before p e = by (has_answered p o.answers) e
    where
      by : (a : Bool) → (a || list_any (is_answer_from o p) (all_pending owed_track)) ≡ true → (a || list_any (is_answer_from o p) (all_pending open_track)) ≡ true
      by true e = refl
      by false e = any_less (is_answer_from o p) (all_pending open_track) (all_pending (taken open_track)) m (whole open_track m may) (sym (ap (list_any (is_answer_from o p)) more ∙ any_more (all_pending (taken open_track)) owing (is_answer_from o p) (no_answer p)) ∙ e)

  images_before : (k : ℕ) → images_due owed_track k ≡ true → images_due open_track k ≡ true
  images_before k e = by (is_write o.operation) e
    where
      by : (b : Bool) → cond b (gave_answer (memory k) (all_pending owed_track) (Some o)) (is_storage_true rest_of t.healing (Some o) && gave_answer place.Storage (all_pending owed_track) (Some o)) ≡ true → cond b (gave_answer (memory k) (all_pending open_track) (Some o)) (is_storage_true t.net t.healing (Some o) && gave_answer place.Storage (all_pending open_track) (Some o)) ≡ true
      by true e = gave_before (memory k) e
      by false e =
          let both = both_true (is_storage_true rest_of t.healing (Some o)) (gave_answer place.Storage (all_pending owed_track) (Some o)) e in
          and_true (is_storage_true t.net t.healing (Some o)) (gave_answer place.Storage (all_pending open_track) (Some o)) (storage_same t.net rest_of m (split open_track m may) issuer t.healing (Some o) ∙ both.0) (gave_before place.Storage both.1)

  batches : (k : ℕ) → background k (all_pending owed_track) ≡ background k (all_pending open_track)
  batches k = ap (background k) more ∙ background_more (all_pending (taken open_track)) owing some k ∙ batches_same open_track m may some k

  heal_goes : (h : Option Healing) → IsNot (healing_move h) m.op.0 → is_done t.net (healing_move h) ≡ false → HealFits lost open_track h → HealFits lost owed_track h
  heal_goes None not_it undone fits = fits
  heal_goes (Some h) not_it undone fits = (
    fits.0,
    λ goes_on.
        let holds = fits.1 goes_on in
        let without = between_goes open_track m may (scene_of open_track) holds.stands.x h.memory.0 t.next holds.stands.done h.current h.got holds.stands.ahead not_it holds.between in
        let with_it = between_more (all_pending (taken open_track)) owing (scene_of open_track) holds.stands.x h.memory.0 t.next holds.stands.done h.current h.got holds.stands.ahead not_it without in
        record {
          stands = holds.stands;
          between = subst (λ (ms : List Message). Between (scene_of open_track) h.memory.0 ms t.next holds.stands.x holds.stands.done h.current h.got holds.stands.ahead) (sym more) with_it;
          background = batches h.memory.0 ∙ holds.background;
          pages = holds.pages;
          clear = holds.clear;
          forgotten = back_false (gave_answer (memory h.memory.0) (all_pending open_track) (Some o)) (gave_answer (memory h.memory.0) (all_pending owed_track) (Some o)) (gave_before (memory h.memory.0)) holds.forgotten;
          one_done = λ done. let both : true ≡ false = sym done ∙ sym (done_same t.net rest_of m (split open_track m may) h.current not_it) ∙ undone in cc both;
          no_second = holds.no_second;
          apart = holds.apart;
        },
  )

  owed_keeps : Middle lost owed_track
  owed_keeps = shift-keeps lost open_track owed_moment shift middle
    where
      shift : Shift lost open_track owed_moment
      shift = record {
        goes = record {
          plain = refl;
          next = middle.next;
          current = (fits.0, fits.1, inl (all_sent open_track m may o may.waiting fits.2));
          pending = subst (λ (ms : List Message). AllByRecursion (MayPend lost (memory_count t.shape) t.plain (Some o) (healing_move t.healing) t.next) ms) (sym more) (all_both _ (all_pending (taken open_track)) (owing ∷ []) pend.1 (owing_pends, tt));
          waiting = middle.waiting;
          healing = heal_goes t.healing not_move (calm_moves open_track may.calm) middle.healing;
          idle = λ closed quiet. absurd (no_open closed);
        };
        answered = gave_before;
        images = images_before;
        batches = batches;
        changes = λ b none. ap (list_any (λ (m : Message). changes_block b m.body)) more ∙ any_more (all_pending (taken open_track)) owing (λ (m : Message). changes_block b m.body) (is_reacted.changes b) ∙ changes_less open_track m may b none;
      }
        where
          no_open : Some o ≡ None → ⊥
          no_open e = cc e

pub reaction-is-owed : ReactionIsOwed
reaction-is-owed lost t o m what is may issuer number not_move reacts middle =
    subst (λ (c : Option Open). Middle lost (record (taken (record t { current = c })) { owed = record { from = m.to; to = m.from; op = m.op; body = what } ∷ [] })) (sym is)
    (owed_keeps lost t o m what (subst (λ (c : Option Open). MayDeliver (record t { current = c }) m) is may) issuer number not_move reacts (subst (λ (c : Option Open). Middle lost (record t { current = c })) is middle))
