-- An issuer gets what is of no open operation any more.
use Rattle.std.proofs.Common.{◌≡◌, ◌+◌, ◌&&◌, ◌++◌, ◌∙◌, ℕ, Bool, List, None, Option, Some, cond, false, inl, refl, sym, true}
use Rattle.std.specs.List.{AllByRecursion}
use Rattle.lego_msg.specs.Deliveries.{MayDeliver, is_waiting, taken}
use Rattle.lego_msg.specs.Places.{is_issuer, memory}
use Rattle.lego_msg.specs.Track.{Track, healing_move, memory_count, taken_out}
use Rattle.lego_msg.specs.declared.healing.Healing.{Healing}
use Rattle.lego_msg.specs.declared.message.Message.{Message}
use Rattle.lego_msg.specs.declared.operation.Open.{Open}
use Rattle.lego_rest.specs.Answers.{all_pending, gave_answer, images_due, is_storage_true, is_writing}
use Rattle.lego_rest.specs.Heals.{HealFits, scene_of}
use Rattle.lego_rest.specs.Pending.{IsNot, IsOld, MayPend}
use Rattle.lego_rest.specs.Rest.{CurrentFits, Middle}
use Rattle.rest_laws.proofs.Truth.{and_true, back_false, both_true}
use Rattle.rest_laws.proofs.Stepping.{shift-keeps}
use Rattle.rest_laws.proofs.Taken.{all_sent, all_taken, batches_same, between_goes, changes_less, done_same, gave_less, is_old, split, storage_same, whole}
use Rattle.rest_laws.specs.Delivering.{OldIsDropped}
use Rattle.rest_laws.specs.Steps.{Moment, Shift}
use Rattle.lego_msg.specs.declared.place.Place.TheVariants as place

module _ (lost : Option ℕ) (t : Track) (m : Message) (may : MayDeliver t m) (issuer : is_issuer m.to ≡ true) (not_current : IsNot t.current m.op.0) (not_move : IsNot (healing_move t.healing) m.op.0) (middle : Middle lost t) where
  abbrev rest_of : List Message
  rest_of = taken_out t.shape.deliveries t.delivered t.net

  abbrev taken_moment : Moment
  taken_moment = record {
    net = rest_of;
    owed = t.owed;
    delivered = t.delivered + 1;
    next = t.next;
    current = t.current;
    healing = t.healing;
    clock = record t.clock { since = t.clock.since + 1 };
    stopped = t.stopped;
    caches = t.caches;
    due = t.due;
  }

  pends : MayPend lost (memory_count t.shape) t.plain t.current (healing_move t.healing) t.next m × AllByRecursion (MayPend lost (memory_count t.shape) t.plain t.current (healing_move t.healing) t.next) (rest_of ++ t.owed)
  pends = all_taken (MayPend lost (memory_count t.shape) t.plain t.current (healing_move t.healing) t.next) (all_pending t) (rest_of ++ t.owed) m (whole t m may) middle.pending

  old : IsOld lost t.current (healing_move t.healing) t.next m
  old = is_old lost (memory_count t.shape) t.plain t.current (healing_move t.healing) t.next m issuer not_current not_move pends.0.kind

  current_goes : (c : Option Open) → is_waiting t.healing c ≡ true → CurrentFits t c → CurrentFits (taken t) c
  current_goes None waits fits = tt
  current_goes (Some o) waits fits = (fits.0, fits.1, inl (all_sent t m may o waits fits.2))

  heal_goes : (h : Option Healing) → IsNot (healing_move h) m.op.0 → HealFits lost t h → HealFits lost (taken t) h
  heal_goes None none fits = fits
  heal_goes (Some h) none fits = (
    fits.0,
    λ goes_on. let holds = fits.1 goes_on in record {
      stands = holds.stands;
      between = between_goes t m may (scene_of t) holds.stands.x h.memory.0 t.next holds.stands.done h.current h.got holds.stands.ahead none holds.between;
      background = batches_same t m may old.some h.memory.0 ∙ holds.background;
      pages = holds.pages;
      clear = holds.clear;
      forgotten = back_false (gave_answer (memory h.memory.0) (all_pending t) t.current) (gave_answer (memory h.memory.0) (rest_of ++ t.owed) t.current) (gave_less (memory h.memory.0) (all_pending t) (rest_of ++ t.owed) m (whole t m may) t.current) holds.forgotten;
      one_done = λ done. sym (done_same t.net rest_of m (split t m may) t.current not_current) ∙ holds.one_done (done_same t.net rest_of m (split t m may) h.current none ∙ done);
      no_second = holds.no_second;
      apart = holds.apart;
    },
  )

  images_same : (k : ℕ) → images_due (taken t) k ≡ true → images_due t k ≡ true
  images_same k e = by (is_writing t.current) e
    where
      by : (b : Bool) → cond b (gave_answer (memory k) (rest_of ++ t.owed) t.current) (is_storage_true rest_of t.healing t.current && gave_answer place.Storage (rest_of ++ t.owed) t.current) ≡ true → cond b (gave_answer (memory k) (all_pending t) t.current) (is_storage_true t.net t.healing t.current && gave_answer place.Storage (all_pending t) t.current) ≡ true
      by true e = gave_less (memory k) (all_pending t) (rest_of ++ t.owed) m (whole t m may) t.current e
      by false e =
          let both = both_true (is_storage_true rest_of t.healing t.current) (gave_answer place.Storage (rest_of ++ t.owed) t.current) e in
          and_true (is_storage_true t.net t.healing t.current) (gave_answer place.Storage (all_pending t) t.current)
          (storage_same t.net rest_of m (split t m may) issuer t.healing t.current ∙ both.0)
          (gave_less place.Storage (all_pending t) (rest_of ++ t.owed) m (whole t m may) t.current both.1)

  drop_keeps : Middle lost (taken t)
  drop_keeps = shift-keeps lost t taken_moment shift middle
    where
      shift : Shift lost t taken_moment
      shift = record {
        goes = record {
          plain = refl;
          next = middle.next;
          current = current_goes t.current may.waiting middle.current;
          pending = pends.1;
          waiting = middle.waiting;
          healing = heal_goes t.healing not_move middle.healing;
          idle = middle.idle;
        };
        answered = λ p. gave_less p (all_pending t) (rest_of ++ t.owed) m (whole t m may) t.current;
        images = images_same;
        batches = batches_same t m may old.some;
        changes = changes_less t m may;
      }

pub old-is-dropped : OldIsDropped
old-is-dropped lost t m may issuer not_current not_move middle = drop_keeps lost t m may issuer not_current not_move middle
