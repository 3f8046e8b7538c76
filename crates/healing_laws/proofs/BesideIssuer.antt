-- While a memory is healed: an issuer gets what isn't the move's; and all such deliveries.
use Rattle.std.proofs.Common.{◌≡◌, ◌+◌, ◌<◌, ◌==◌, ◌&&◌, ◌∷◌, ◌++◌, ◌∙◌, ℕ, Bool, None, Option, Some, ap, cond, false, inl, refl, subst, sym, true}
use Rattle.std.proofs.lemmas.Bool.{eqb-true}
use Rattle.lego_msg.specs.Deliveries.{MayDeliver, comes, is_waiting, issuer_gets, noted, noted_by_move, noted_with, reaction_of, reacts, stops, taken}
use Rattle.lego_msg.specs.Operations.{patch_of}
use Rattle.lego_msg.specs.Places.{is_issuer, memory}
use Rattle.lego_msg.specs.Track.{Track, healing_move, memory_count}
use Rattle.lego_msg.specs.declared.body.Body.{Body}
use Rattle.lego_msg.specs.declared.healing.Healing.{Healing}
use Rattle.lego_msg.specs.declared.message.Message.{Message}
use Rattle.lego_msg.specs.declared.operation.Open.{Open}
use Rattle.lego_msg.specs.declared.place.Place.{Place}
use Rattle.lego_msg.specs.declared.place.Place.TheVariants.{Manager, Memory, Processor, Storage}
use Rattle.lego_rest.specs.Answers.{all_pending, gave_answer, images_due, is_storage_true, is_writing}
use Rattle.lego_rest.specs.Heals.{HealFits}
use Rattle.lego_rest.specs.Pending.{IsNot, IsOf, Left, MayPend, OfBackground, OfMove, OfOperation, Pends}
use Rattle.lego_rest.specs.Rest.{CurrentFits, Middle}
use Rattle.rest_laws.proofs.Bare.{calm_on}
use Rattle.rest_laws.proofs.Delivered.{left_of, some_waits}
use Rattle.rest_laws.proofs.Dropped.{old-is-dropped}
use Rattle.rest_laws.proofs.Noted.{answer-is-noted}
use Rattle.rest_laws.proofs.Reacted.{reaction-is-owed}
use Rattle.rest_laws.proofs.Stepping.{shift-keeps}
use Rattle.rest_laws.proofs.Taken.{all_sent, all_taken, batches_same, changes_less, gave_less, no_batch_to_issuer, split, storage_same, whole}
use Rattle.rest_laws.proofs.Truth.{and_true, both_true}
use Rattle.rest_laws.specs.Steps.{Moment, Shift}
use Rattle.healing_laws.proofs.Beside.{memory_comes}
use Rattle.healing_laws.proofs.BesideStorage.{storage_comes}
use Rattle.healing_laws.proofs.OnItsWay.{move_some}
use Rattle.healing_laws.specs.Beside.{DeliveriesBeside}
use Rattle.lego_msg.specs.declared.place.Place.TheVariants as place

-- AN ISSUER IS REFUSED: the run stops
module _ (lost : Option ℕ) (t : Track) (m : Message) (may : MayDeliver t m) (middle : Middle lost t) (issuer : is_issuer m.to ≡ true) where
  abbrev stopped_moment : Moment
  stopped_moment = record {
    net = left_of t;
    owed = t.owed;
    delivered = t.delivered + 1;
    next = t.next;
    current = t.current;
    healing = t.healing;
    clock = record t.clock { since = t.clock.since + 1 };
    stopped = true;
    caches = t.caches;
    due = t.due;
  }

  pends : MayPend lost (memory_count t.shape) t.plain t.current (healing_move t.healing) t.next m
  pends = (all_taken (MayPend lost (memory_count t.shape) t.plain t.current (healing_move t.healing) t.next) (all_pending t) (all_pending (taken t)) m (whole t m may) middle.pending).0

  numbered : 0 < m.op.0
  numbered = by pends.kind
    where
      of_current : (c : Option Open) → CurrentFits t c → IsOf lost (memory_count t.shape) t.plain m c → 0 < m.op.0
      of_current None fits of = absurd of
      of_current (Some o) fits of = subst (λ (n : ℕ). 0 < n) (sym of.0) fits.0.some

      by : Pends lost (memory_count t.shape) t.plain t.current (healing_move t.healing) t.next m → 0 < m.op.0
      by (OfOperation of) = of_current t.current middle.current of
      by (OfMove of) = move_some lost t m (calm_on t may.calm) middle of
      by (OfBackground of) = absurd (no_batch_to_issuer m of.of issuer of.batch)
      by (Left old) = old.some

  current_goes : (c : Option Open) → is_waiting t.healing c ≡ true → CurrentFits t c → CurrentFits (record (taken t) { stopped = true }) c
  current_goes None waits fits = tt
  current_goes (Some o) waits fits = (fits.0, fits.1, inl (all_sent t m may o waits fits.2))

  heal_goes : (h : Option Healing) → HealFits lost t h → HealFits lost (record (taken t) { stopped = true }) h
  heal_goes None fits = fits
  heal_goes (Some h) fits = (fits.0, λ goes_on. absurd (never goes_on))
    where
      never : true ≡ false → ⊥
      never e = cc e

  images : (k : ℕ) → images_due (record (taken t) { stopped = true }) k ≡ true → images_due t k ≡ true
  images k e = by (is_writing t.current) e
    where
      by : (b : Bool) → cond b (gave_answer (memory k) (left_of t ++ t.owed) t.current) (is_storage_true (left_of t) t.healing t.current && gave_answer place.Storage (left_of t ++ t.owed) t.current) ≡ true → cond b (gave_answer (memory k) (all_pending t) t.current) (is_storage_true t.net t.healing t.current && gave_answer place.Storage (all_pending t) t.current) ≡ true
      by true e = gave_less (memory k) (all_pending t) (left_of t ++ t.owed) m (whole t m may) t.current e
      by false e =
          let both = both_true (is_storage_true (left_of t) t.healing t.current) (gave_answer place.Storage (left_of t ++ t.owed) t.current) e in
          and_true (is_storage_true t.net t.healing t.current) (gave_answer place.Storage (all_pending t) t.current) (storage_same t.net (left_of t) m (split t m may) issuer t.healing t.current ∙ both.0) (gave_less place.Storage (all_pending t) (left_of t ++ t.owed) m (whole t m may) t.current both.1)

  pub stop_keeps : Middle lost (record (taken t) { stopped = true })
  stop_keeps = shift-keeps lost t stopped_moment shift middle
    where
      shift : Shift lost t stopped_moment
      shift = record {
        goes = record {
          plain = refl;
          next = middle.next;
          current = current_goes t.current may.waiting middle.current;
          pending = (all_taken (MayPend lost (memory_count t.shape) t.plain t.current (healing_move t.healing) t.next) (all_pending t) (left_of t ++ t.owed) m (whole t m may) middle.pending).1;
          waiting = middle.waiting;
          healing = heal_goes t.healing middle.healing;
          idle = λ closed quiet. absurd (some_waits t m may closed quiet);
        };
        answered = λ p. gave_less p (all_pending t) (left_of t ++ t.owed) m (whole t m may) t.current;
        images = images;
        batches = batches_same t m may numbered;
        changes = changes_less t m may;
      }

module _ (lost : Option ℕ) (t : Track) (m : Message) (may : MayDeliver t m) (not_move : IsNot (healing_move t.healing) m.op.0) (middle : Middle lost t) where
  -- the open operation gets it, or nobody
  noted_keeps : is_issuer m.to ≡ true → stops m.body ≡ false → (c : Option Open) → t.current ≡ c → Middle lost (noted (taken t) m c)
  noted_keeps issuer goes None is = old-is-dropped lost t m may issuer (subst (λ (c : Option Open). IsNot c m.op.0) (sym is) tt) not_move middle
  noted_keeps issuer goes (Some o) is = by (m.op.0 == o.number.0) refl
    where
      answer : (r : Option Body) → reaction_of (patch_of o.operation) m.body ≡ r → m.op.0 ≡ o.number.0 → Middle lost (reacts (taken t) o m r)
      answer None none number = answer-is-noted lost t o m is may issuer number not_move goes none middle
      answer (Some what) reacts_ number = reaction-is-owed lost t o m what is may issuer number not_move reacts_ middle

      by : (b : Bool) → (m.op.0 == o.number.0) ≡ b → Middle lost (cond b (reacts (taken t) o m (reaction_of (patch_of o.operation) m.body)) (taken t))
      by true number = answer (reaction_of (patch_of o.operation) m.body) refl (eqb-true m.op.0 o.number.0 number)
      by false number = old-is-dropped lost t m may issuer (subst (λ (c : Option Open). IsNot c m.op.0) (sym is) number) not_move middle

  issuer_comes : is_issuer m.to ≡ true → Middle lost (issuer_gets (taken t) m)
  issuer_comes issuer = by (stops m.body) refl
    where
      beside : stops m.body ≡ false → (h : Option Healing) → t.healing ≡ h → Middle lost (noted_with (taken t) m h)
      beside goes None is = noted_keeps issuer goes t.current refl
      beside goes (Some h) is = under h.current (subst (λ (q : Option Healing). IsNot (healing_move q) m.op.0) is not_move)
        where
          under : (move : Option Open) → IsNot move m.op.0 → Middle lost (noted_by_move (taken t) m h move)
          under None none = noted_keeps issuer goes t.current refl
          under (Some o) none = subst (λ (b : Bool). Middle lost (cond b (record (taken t) { healing = Some (record h { current = Some (record o { answers = record { place = m.from; body = m.body } ∷ o.answers }) }) }) (noted (taken t) m t.current))) (sym none) (noted_keeps issuer goes t.current refl)

      by : (b : Bool) → stops m.body ≡ b → Middle lost (cond b (record (taken t) { stopped = true }) (noted_with (taken t) m t.healing))
      by true e = stop_keeps lost t m may middle issuer
      by false e = beside e t.healing refl

  delivery_keeps : Middle lost (comes (taken t) m m.to)
  delivery_keeps = by m.to refl
    where
      by : (to : Place) → m.to ≡ to → Middle lost (comes (taken t) m to)
      by (Processor cpu) is = issuer_comes (ap is_issuer is)
      by (Memory number) is = memory_comes lost t m may not_move middle number.0 is
      by Storage is = storage_comes lost t m may not_move middle is
      by Manager is = issuer_comes (ap is_issuer is)

pub deliveries-beside : DeliveriesBeside
deliveries-beside lost t m may not_move middle = delivery_keeps lost t m may not_move middle
