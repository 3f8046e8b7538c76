-- The manager gets the answer to the move that is on its way.
use Rattle.std.proofs.Common.{◌≡◌, ◌+◌, ◌<◌, ◌==◌, ◌&&◌, ◌||◌, [], ◌∷◌, ◌++◌, ◌∙◌, ℕ, Bool, List, None, Option, Some, ap, arith, cond, false, inl, inr, length, not, refl, subst, suc, sym, true}
use Rattle.std.proofs.lemmas.Bool.{eq-eqb}
use Rattle.std.specs.List.{AllByRecursion}
use Rattle.std.specs.Prelude.{nat_lt}
use Rattle.lego_base.specs.declared.records.HomeEntry.{HomeEntry}
use Rattle.lego_msg.specs.Deliveries.{MayDeliver, answered, is_waiting, issuer_gets, noted, noted_by_move, noted_with, stops, taken}
use Rattle.lego_msg.specs.Healing.{ask_of}
use Rattle.lego_msg.specs.Operations.{asks_of, messages_of}
use Rattle.lego_msg.specs.Places.{is_issuer, memory, same_place}
use Rattle.lego_msg.specs.Plain.{Plain}
use Rattle.lego_msg.specs.State.{Waiter}
use Rattle.lego_msg.specs.Track.{Track, healing_move, is_calm, is_crash_due, is_done, memory_count}
use Rattle.lego_msg.specs.declared.healing.Healing.{Healing}
use Rattle.lego_msg.specs.declared.healing.Move.{Move}
use Rattle.lego_msg.specs.declared.healing.Move.TheVariants.{Asks, HandsImages, HandsMeta, HandsPages}
use Rattle.lego_msg.specs.declared.message.Message.{Message}
use Rattle.lego_msg.specs.declared.operation.Open.{Open}
use Rattle.lego_msg.specs.declared.operation.Operation.{Operation}
use Rattle.lego_msg.specs.declared.place.Place.{Place}
use Rattle.lego_rest.specs.Answers.{all_pending, gave_answer, images_due, is_storage_true, is_writing}
use Rattle.lego_rest.specs.Fits.{WaiterFits}
use Rattle.lego_rest.specs.Heals.{HealFits, MoveFits, MoveGot, NumbersDiffer, count_drains, count_number, is_undone, is_unheard, scene_of}
use Rattle.lego_rest.specs.Pending.{Among, IsNot, Left, MayPend, OfBackground, OfMove, OfOperation, Pends}
use Rattle.lego_rest.specs.Rest.{CurrentFits, Middle}
use Rattle.rest_laws.proofs.Delivered.{left_of}
use Rattle.rest_laws.proofs.Opened.{every}
use Rattle.rest_laws.proofs.Stepping.{shift-keeps}
use Rattle.rest_laws.proofs.Taken.{all_sent, all_taken, any_same, batches_same, changes_less, done_same, gave_less, split, storage_same, whole}
use Rattle.rest_laws.proofs.Truth.{and_true, back_false, both_true}
use Rattle.rest_laws.specs.Steps.{Moment, Shift}
use Rattle.healing_laws.proofs.BesideIssuer.{stop_keeps}
use Rattle.healing_laws.proofs.MovesAre.{AskIs, MoveIs, OfImages, OfLog, OfMain, OfPages, OfSpare}
use Rattle.healing_laws.proofs.MoveSteps.{heal_holds, it_is_of_move, move_alone, not_current, the_move, the_way}
use Rattle.lego_msg.specs.declared.place.Place.TheVariants as place

-- a move goes to a component
pub to_component : (n c : ℕ) (owners : List HomeEntry) (move : Move) → MoveIs n c owners move → is_issuer (ask_of move None).to ≡ false
to_component n c owners (Asks to what) is = by is
  where
    by : AskIs n c owners to what → is_issuer to ≡ false
    by (OfLog e at) = ap is_issuer at
    by (OfSpare who e at) = ap is_issuer at
    by (OfMain who e at) = ap is_issuer at
    by (OfImages pid region e at mine) = ap is_issuer at
    by (OfPages pid region e at mine) = ap is_issuer at
to_component n c owners (HandsMeta to role) is = ap is_issuer is
to_component n c owners (HandsImages to pid region) is = ap is_issuer is.0
to_component n c owners (HandsPages pid region) is = refl

pub calm_current : (t : Track) → is_calm t ≡ true → is_done t.net t.current ≡ false
calm_current t calm = by t.stopped (is_done t.net (healing_move t.healing)) (is_done t.net t.current) (is_crash_due t) calm
  where
    by : (s a b c : Bool) → (not s && not (a || b) && not c) ≡ true → b ≡ false
    by true a b c e = cc e
    by false true b c e = cc e
    by false false true c e = cc e
    by false false false c e = refl

-- with an answer noted, what is pending and what waits fits the move as before
module _ (o : Open) (m : Message) where
  pub pends_noted : (lost : Option ℕ) (n : ℕ) (f : Plain) (current : Option Open) (next : ℕ) (x : Message) → MayPend lost n f current (Some o) next x → MayPend lost n f current (Some (answered o m)) next x
  pends_noted lost n f current next x may = record { from = may.from; to = may.to; kind = by may.kind }
    where
      by : Pends lost n f current (Some o) next x → Pends lost n f current (Some (answered o m)) next x
      by (OfOperation of) = OfOperation of
      by (OfMove of) = OfMove of
      by (OfBackground of) = OfBackground of
      by (Left old) = Left (record { some = old.some; below = old.below; not_current = old.not_current; not_move = old.not_move; drained = old.drained; to = old.to; from_up = old.from_up })

  pub waits_noted : (n k next : ℕ) (current : Option Open) (w : Waiter) → WaiterFits n k next current (Some o) w → WaiterFits n k next current (Some (answered o m)) w
  waits_noted n k next current w fits = record { some = fits.some; below = fits.below; by = fits.by; of_open = fits.of_open; of_move = fits.of_move }

  pub apart_noted : (current : Option Open) → NumbersDiffer current (Some o) → NumbersDiffer current (Some (answered o m))
  apart_noted None differ = tt
  apart_noted (Some p) differ = differ

module _ (lost : Option ℕ) (t : Track) (m : Message) (may : MayDeliver t m) (middle : Middle lost t) (h : Healing) (heals : t.healing ≡ Some h) (o : Open) (now : h.current ≡ Some o) (number : m.op.0 ≡ o.number.0) (issuer : is_issuer m.to ≡ true) where
  abbrev with_answer : Healing
  with_answer = record h { current = Some (answered o m) }

  abbrev noted_track : Track
  noted_track = record (taken t) { healing = Some (record h { current = Some (answered o m) }) }

  abbrev noted_moment : Moment
  noted_moment = record {
    net = left_of t;
    owed = t.owed;
    delivered = t.delivered + 1;
    next = t.next;
    current = t.current;
    healing = Some (record h { current = Some (answered o m) });
    clock = record t.clock { since = t.clock.since + 1 };
    stopped = t.stopped;
    caches = t.caches;
    due = t.due;
  }

  -- it is the receiver's answer
  to_manager : m.to ≡ place.Manager
  to_manager = elim (it_is_of_move lost t m may middle h heals o now number).1 [
    | inl first ↦ absurd (first_is (subst (λ (p : Operation). Among m (messages_of o.by o.number (asks_of 0 p))) (the_way lost t m may middle h heals o now number).fits.is first))
    | inr answer ↦ answer.0
  ]
    where
      first_is : Among m (record { from = o.by; to = (the_way lost t m may middle h heals o now number).fits.to; op = o.number; body = (the_way lost t m may middle h heals o now number).fits.told } ∷ []) → ⊥
      first_is (inl e) = let both : true ≡ false = sym issuer ∙ ap (λ (x : Message). is_issuer x.to) e ∙ ap is_issuer (the_way lost t m may middle h heals o now number).fits.receiver ∙ to_component (memory_count t.shape) h.memory.0 t.owners (the_way lost t m may middle h heals o now number).move (the_way lost t m may middle h heals o now number).of in cc both
      first_is (inr none) = none

  heard : (m.from ≡ (the_way lost t m may middle h heals o now number).fits.to) × MoveGot (scene_of t) h.memory.0 (the_way lost t m may middle h heals o now number).move m.body
  heard = (all_taken _ (all_pending t) (all_pending (taken t)) m (whole t m may) (the_way lost t m may middle h heals o now number).fits.answering).0 number to_manager

  none_of_current : IsNot t.current m.op.0
  none_of_current = not_current lost t m may middle h heals o now number m.op.0 number

  some : 0 < m.op.0
  some = subst (λ (n : ℕ). 0 < n) (sym number) (the_way lost t m may middle h heals o now number).fits.some

  current_goes : (c : Option Open) → is_waiting t.healing c ≡ true → CurrentFits t c → CurrentFits noted_track c
  current_goes None waits fits = tt
  current_goes (Some p) waits fits = (fits.0, fits.1, inl (all_sent t m may p waits fits.2))

  module _ (goes_on : stops m.body ≡ false) where
    fits_noted : MoveFits (scene_of t) h.memory.0 (all_pending (taken t)) t.next (answered o m) (the_way lost t m may middle h heals o now number).move
    fits_noted =
        let fits = (the_way lost t m may middle h heals o now number).fits in
        record {
          to = fits.to;
          told = fits.told;
          is = fits.is;
          receiver = fits.receiver;
          hands = fits.hands;
          by = fits.by;
          targets = fits.targets;
          sent = fits.sent;
          some = fits.some;
          below = fits.below;
          once = once;
          answers = ((heard.0, heard.1), fits.answers);
          answering = (all_taken _ (all_pending t) (all_pending (taken t)) m (whole t m may) fits.answering).1;
        }
      where
        once : count_number o.number.0 (all_pending (taken t)) + length (answered o m).answers + count_drains o.number.0 t.mems ≡ 1
        once =
            let alone = move_alone lost t m may middle h heals o now number in
            let zero_ = alone.0 in
            let none_ = alone.1 in
            let dry = alone.2 in
            let longer : length (answered o m).answers ≡ suc (length o.answers) = refl in
            omega (arith, zero_, none_, dry, longer)

    undone_noted : is_undone o.number.0 (all_pending t) t.mems ≡ is_undone o.number.0 (all_pending (taken t)) t.mems
    undone_noted = ap (λ (b : Bool). b || nat_lt 0 (count_drains o.number.0 t.mems)) (any_same (is_unheard o.number.0) (all_pending t) (all_pending (taken t)) m (whole t m may) (off (m.op.0 == o.number.0) (same_place m.to place.Manager) (stops m.body) (ap (λ (p : Place). same_place p place.Manager) to_manager) goes_on))
      where
        off : (a b s : Bool) → b ≡ true → s ≡ false → (a && (not b || s)) ≡ false
        off true true false e f = refl
        off true true true e f = cc f
        off true false s e f = cc e
        off false b s e f = refl

    heal_goes : HealFits lost noted_track (Some (record h { current = Some (answered o m) }))
    heal_goes = (
      (subst (HealFits lost t) heals middle.healing).0,
      λ goes. record {
        stands = record {
          x = (heal_holds lost t m may middle h heals o now number).stands.x;
          at = (heal_holds lost t m may middle h heals o now number).stands.at;
          done = (heal_holds lost t m may middle h heals o now number).stands.done;
          ahead = (the_way lost t m may middle h heals o now number).move ∷ (the_way lost t m may middle h heals o now number).ahead;
          all = ap (λ (moves : List Move). (heal_holds lost t m may middle h heals o now number).stands.done ++ moves) (sym (the_way lost t m may middle h heals o now number).first) ∙ (heal_holds lost t m may middle h heals o now number).stands.all;
          rest = (the_way lost t m may middle h heals o now number).rest;
          log = (heal_holds lost t m may middle h heals o now number).stands.log;
          out = (heal_holds lost t m may middle h heals o now number).stands.out;
          drains = (heal_holds lost t m may middle h heals o now number).stands.drains;
          blocks = (heal_holds lost t m may middle h heals o now number).stands.blocks;
        };
        between = ((the_way lost t m may middle h heals o now number).did, fits_noted, λ e. (the_way lost t m may middle h heals o now number).now (undone_noted ∙ e));
        background = batches_same t m may some h.memory.0 ∙ (heal_holds lost t m may middle h heals o now number).background;
        pages = (heal_holds lost t m may middle h heals o now number).pages;
        clear = (heal_holds lost t m may middle h heals o now number).clear;
        forgotten = back_false (gave_answer (memory h.memory.0) (all_pending t) t.current) (gave_answer (memory h.memory.0) (all_pending (taken t)) t.current) (gave_less (memory h.memory.0) (all_pending t) (all_pending (taken t)) m (whole t m may) t.current) (heal_holds lost t m may middle h heals o now number).forgotten;
        one_done = λ done. sym (done_same t.net (left_of t) m (split t m may) t.current none_of_current) ∙ calm_current t may.calm;
        no_second = (heal_holds lost t m may middle h heals o now number).no_second;
        apart = apart_noted o m t.current (subst (NumbersDiffer t.current) now (heal_holds lost t m may middle h heals o now number).apart);
      },
    )

    images : (k : ℕ) → images_due noted_track k ≡ true → images_due t k ≡ true
    images k e = by (is_writing t.current) e
      where
        healing_same : is_storage_true (left_of t) (Some (record h { current = Some (answered o m) })) t.current ≡ is_storage_true t.net t.healing t.current
        healing_same = sym (ap (λ (g : Option Healing). is_storage_true (left_of t) g t.current) heals) ∙ sym (storage_same t.net (left_of t) m (split t m may) issuer t.healing t.current)

        by : (b : Bool) → cond b (gave_answer (memory k) (left_of t ++ t.owed) t.current) (is_storage_true (left_of t) (Some (record h { current = Some (answered o m) })) t.current && gave_answer place.Storage (left_of t ++ t.owed) t.current) ≡ true → cond b (gave_answer (memory k) (all_pending t) t.current) (is_storage_true t.net t.healing t.current && gave_answer place.Storage (all_pending t) t.current) ≡ true
        by true e = gave_less (memory k) (all_pending t) (left_of t ++ t.owed) m (whole t m may) t.current e
        by false e =
            let both = both_true (is_storage_true (left_of t) (Some (record h { current = Some (answered o m) })) t.current) (gave_answer place.Storage (left_of t ++ t.owed) t.current) e in
            and_true (is_storage_true t.net t.healing t.current) (gave_answer place.Storage (all_pending t) t.current) (sym healing_same ∙ both.0) (gave_less place.Storage (all_pending t) (left_of t ++ t.owed) m (whole t m may) t.current both.1)

    pub noted_keeps : Middle lost noted_track
    noted_keeps = shift-keeps lost t noted_moment shift middle
      where
        pend : AllByRecursion (MayPend lost (memory_count t.shape) t.plain t.current (Some o) t.next) (left_of t ++ t.owed)
        pend = subst (λ (q : Option Open). AllByRecursion (MayPend lost (memory_count t.shape) t.plain t.current q t.next) (left_of t ++ t.owed)) (the_move lost t m may middle h heals o now number) (all_taken (MayPend lost (memory_count t.shape) t.plain t.current (healing_move t.healing) t.next) (all_pending t) (left_of t ++ t.owed) m (whole t m may) middle.pending).1

        shift : Shift lost t noted_moment
        shift = record {
          goes = record {
            plain = refl;
            next = middle.next;
            current = current_goes t.current may.waiting middle.current;
            pending = every (pends_noted o m lost (memory_count t.shape) t.plain t.current t.next) (left_of t ++ t.owed) pend;
            waiting = λ k s at. every (waits_noted o m (memory_count t.shape) k t.next t.current) s.drains (subst (λ (q : Option Open). AllByRecursion (WaiterFits (memory_count t.shape) k t.next t.current q) s.drains) (the_move lost t m may middle h heals o now number) (middle.waiting k s at));
            healing = heal_goes;
            idle = λ closed quiet. absurd (no_healing quiet);
          };
          answered = λ p. gave_less p (all_pending t) (left_of t ++ t.owed) m (whole t m may) t.current;
          images = images;
          batches = batches_same t m may some;
          changes = changes_less t m may;
        }
          where
            no_healing : Some (record h { current = Some (answered o m) }) ≡ None → ⊥
            no_healing e = cc e

  -- the answer is noted, or stops the run
  pub manager_comes : Middle lost (issuer_gets (taken t) m)
  manager_comes = by (stops m.body) refl
    where
      beside : stops m.body ≡ false → Middle lost (noted_with (taken t) m t.healing)
      beside goes = subst (λ (g : Option Healing). Middle lost (noted_with (taken t) m g)) (sym heals) (subst (λ (q : Option Open). Middle lost (noted_by_move (taken t) m h q)) (sym now)
          (subst (λ (b : Bool). Middle lost (cond b (record (taken t) { healing = Some (record h { current = Some (answered o m) }) }) (noted (taken t) m t.current))) (sym (eq-eqb m.op.0 o.number.0 number)) (noted_keeps goes)))

      by : (b : Bool) → stops m.body ≡ b → Middle lost (cond b (record (taken t) { stopped = true }) (noted_with (taken t) m t.healing))
      by true e = stop_keeps lost t m may middle issuer
      by false e = beside e
