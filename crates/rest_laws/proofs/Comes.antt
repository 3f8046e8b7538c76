-- A delivery with nothing lost, whichever operation is open and whoever gets the message.
use Rattle.std.proofs.Common.{◌≡◌, ◌+◌, ◌<◌, ◌==◌, ◌&&◌, [], ◌∷◌, ◌++◌, ◌∙◌, ℕ, Bool, List, None, Option, Some, ap, arith, cond, false, inl, refl, slice_get, subst, sym, true}
use Rattle.std.proofs.lemmas.Bool.{eqb-true}
use Rattle.std.specs.List.{AllByRecursion}
use Rattle.lego_msg.specs.Deliveries.{MayDeliver, comes, issuer_gets, memory_handles, noted, reaction_of, reacts, stops, taken}
use Rattle.lego_msg.specs.Operations.{is_write, patch_of}
use Rattle.lego_msg.specs.Places.{is_issuer, memory}
use Rattle.lego_msg.specs.State.{Block, Mem}
use Rattle.lego_msg.specs.Table.{handled, handled_body, stored, stored_body}
use Rattle.lego_msg.specs.Track.{Track, memory_count}
use Rattle.lego_msg.specs.declared.body.Body.{Body}
use Rattle.lego_msg.specs.declared.message.Message.{Message}
use Rattle.lego_msg.specs.declared.operation.Open.{Open}
use Rattle.lego_msg.specs.declared.place.Place.{Place}
use Rattle.lego_msg.specs.declared.place.Place.TheVariants.{Manager, Memory, Processor, Storage}
use Rattle.lego_rest.specs.Answers.{all_pending, gave_answer, images_due, is_storage_true}
use Rattle.lego_rest.specs.Fits.{changes_block}
use Rattle.lego_rest.specs.Pending.{Goes, IsBatch, IsOfMove, IsPlace, Left, MayPend, OfBackground, OfMove, OfOperation, Pends, Returns}
use Rattle.lego_rest.specs.Rest.{Middle}
use Rattle.rest_laws.proofs.Backing.{backup_gives}
use Rattle.rest_laws.proofs.Delivered.{RowGives, given_keeps, left_of}
use Rattle.rest_laws.proofs.Dropped.{old-is-dropped}
use Rattle.rest_laws.proofs.Ended.{get_within}
use Rattle.rest_laws.proofs.Filed.{FileGives, filed_keeps}
use Rattle.rest_laws.proofs.Noted.{answer-is-noted}
use Rattle.rest_laws.proofs.Reacted.{reaction-is-owed}
use Rattle.rest_laws.proofs.Receipt.{receipt_gives}
use Rattle.rest_laws.proofs.Stepping.{shift-keeps}
use Rattle.rest_laws.proofs.Taken.{all_sent, all_taken, batches_same, changes_less, gave_less, no_batch_to_issuer, storage_same, split, whole}
use Rattle.rest_laws.proofs.Truth.{and_true, both_true}
use Rattle.rest_laws.proofs.kinds.EveryKind.{every_kind_rows}
use Rattle.rest_laws.proofs.kinds.Kind.{KindRows}
use Rattle.rest_laws.specs.Steps.{Moment, Shift}
use Rattle.lego_msg.specs.declared.place.Place.TheVariants as place

-- nothing is of a move where nothing heals
no_moves : (b : Block) (xs : List Message) → AllByRecursion (λ (x : Message). IsOfMove x None → changes_block b x.body ≡ false) xs
no_moves b [] = tt
no_moves b (x ∷ xs) = (λ of. absurd of, no_moves b xs)

storage_no_memory : (k : ℕ) → memory k ≡ place.Storage → ⊥
storage_no_memory k e = cc e

module _ (t : Track) (o : Open) (m : Message) (may : MayDeliver (record t { healing = None; current = Some o }) m) (middle : Middle None (record t { healing = None; current = Some o })) where
  abbrev calm : Track
  calm = record t { healing = None }

  abbrev busy : Track
  busy = record t { healing = None; current = Some o }

  pends : MayPend None (memory_count t.shape) t.plain (Some o) None t.next m
  pends = (all_taken (MayPend None (memory_count t.shape) t.plain (Some o) None t.next) (all_pending t) (all_pending (taken busy)) m (whole busy m may) middle.pending).0

  rows : KindRows None calm o
  rows = every_kind_rows None calm o middle

  -- A MEMORY
  pub row_comes : (k : ℕ) (s : Mem) → m.to ≡ memory k → slice_get t.mems k ≡ Some s → RowGives None calm o k s (handled s m).0 (handled s m).1
  row_comes k s to at = by pends.kind
    where
      by : Pends None (memory_count t.shape) t.plain (Some o) None t.next m → RowGives None calm o k s (handled s m).0 (handled s m).1
      by (OfOperation of) = rows.at_memory k s m of.2 (record { may = may; to = to; at = at; middle = middle; number = of.0; away = tt; not_move = tt; moves = λ b. no_moves b (all_pending t) })
      by (OfMove of) = absurd of
      by (OfBackground of) = receipt of.batch
        where
          receipt : IsBatch m of.of → RowGives None calm o k s (handled s m).0 (handled s m).1
          receipt (Goes from to' patches what) = absurd (storage_no_memory k (sym to ∙ to'))
          receipt (Returns from to' what) = subst (λ (told : Body). RowGives None calm o k s (handled_body s m told).0 (handled_body s m told).1) (sym what) (receipt_gives None busy m k s may middle of.number tt from to what at (λ w fits rest. rest tt))
      by (Left old) = let both : false ≡ true = ap is_issuer (sym to) ∙ old.to in cc both

  memory_comes : (k : ℕ) → m.to ≡ memory k → Middle None (memory_handles (taken busy) k m (slice_get t.mems k))
  memory_comes k to =
      let there = here in
      subst (λ (x : Option Mem). Middle None (memory_handles (taken busy) k m x)) (sym there.1) (given_keeps None busy k there.0 (handled there.0 m).0 m (handled there.0 m).1 may to there.1 middle (row_comes k there.0 to there.1) refl)
    where
      here : (s : Mem) × (slice_get t.mems k ≡ Some s)
      here =
          let below : k < memory_count t.shape = subst (IsPlace (memory_count t.shape)) to pends.to in
          let count = middle.count in
          get_within t.mems k (omega (arith, below, count))

  -- STORAGE
  pub file_comes : m.to ≡ place.Storage → FileGives None calm o (stored t.disk m).0 (stored t.disk m).1
  file_comes to = by pends.kind
    where
      by : Pends None (memory_count t.shape) t.plain (Some o) None t.next m → FileGives None calm o (stored t.disk m).0 (stored t.disk m).1
      by (OfOperation of) = rows.at_storage m of.2 (record { may = may; to = to; middle = middle; number = of.0; away = tt; not_move = tt })
      by (OfMove of) = absurd of
      by (OfBackground of) = batch of.batch
        where
          batch : IsBatch m of.of → FileGives None calm o (stored t.disk m).0 (stored t.disk m).1
          batch (Goes from to' patches what) = subst (λ (told : Body). FileGives None calm o (stored_body t.disk m told).0 (stored_body t.disk m told).1) (sym what) (backup_gives None busy m of.of patches may middle of.number tt from to what)
          batch (Returns from to' what) = absurd (storage_no_memory of.of (sym to' ∙ to))
      by (Left old) = let both : false ≡ true = ap is_issuer (sym to) ∙ old.to in cc both

  storage_comes : m.to ≡ place.Storage → Middle None (record (taken busy) { disk = (stored t.disk m).0; owed = (stored t.disk m).1 })
  storage_comes to = filed_keeps None busy (stored t.disk m).0 m (stored t.disk m).1 may middle (file_comes to) refl

  -- AN ISSUER that is refused: the run stops
  abbrev stopped_moment : Moment
  stopped_moment = record {
    net = left_of calm;
    owed = t.owed;
    delivered = t.delivered + 1;
    next = t.next;
    current = Some o;
    healing = None;
    clock = record t.clock { since = t.clock.since + 1 };
    stopped = true;
    caches = t.caches;
    due = t.due;
  }

  numbered : is_issuer m.to ≡ true → 0 < m.op.0
  numbered issuer = by pends.kind
    where
      by : Pends None (memory_count t.shape) t.plain (Some o) None t.next m → 0 < m.op.0
      by (OfOperation of) = subst (λ (n : ℕ). 0 < n) (sym of.0) middle.current.0.some
      by (OfMove of) = absurd of
      by (OfBackground of) = absurd (no_batch_to_issuer m of.of issuer of.batch)
      by (Left old) = old.some

  stop_comes : is_issuer m.to ≡ true → Middle None (record (taken busy) { stopped = true })
  stop_comes issuer = shift-keeps None busy stopped_moment shift middle
    where
      images : (k : ℕ) → images_due (record (taken busy) { stopped = true }) k ≡ true → images_due busy k ≡ true
      images k e = by (is_write o.operation) e
        where
          by : (b : Bool) → cond b (gave_answer (memory k) (left_of calm ++ t.owed) (Some o)) (is_storage_true (left_of calm) None (Some o) && gave_answer place.Storage (left_of calm ++ t.owed) (Some o)) ≡ true → cond b (gave_answer (memory k) (all_pending busy) (Some o)) (is_storage_true t.net None (Some o) && gave_answer place.Storage (all_pending busy) (Some o)) ≡ true
          by true e = gave_less (memory k) (all_pending busy) (left_of calm ++ t.owed) m (whole busy m may) (Some o) e
          by false e =
              let both = both_true (is_storage_true (left_of calm) None (Some o)) (gave_answer place.Storage (left_of calm ++ t.owed) (Some o)) e in
              and_true (is_storage_true t.net None (Some o)) (gave_answer place.Storage (all_pending busy) (Some o)) (storage_same t.net (left_of calm) m (split busy m may) issuer None (Some o) ∙ both.0) (gave_less place.Storage (all_pending busy) (left_of calm ++ t.owed) m (whole busy m may) (Some o) both.1)

      no_open : Some o ≡ None → ⊥
      no_open e = cc e

      shift : Shift None busy stopped_moment
      shift = record {
        goes = record {
          plain = refl;
          next = middle.next;
          current = (middle.current.0, middle.current.1, inl (all_sent busy m may o may.waiting middle.current.2));
          pending = (all_taken (MayPend None (memory_count t.shape) t.plain (Some o) None t.next) (all_pending busy) (left_of calm ++ t.owed) m (whole busy m may) middle.pending).1;
          waiting = middle.waiting;
          healing = refl;
          idle = λ closed quiet. absurd (no_open closed);
        };
        answered = λ p. gave_less p (all_pending busy) (left_of calm ++ t.owed) m (whole busy m may) (Some o);
        images = images;
        batches = batches_same busy m may (numbered issuer);
        changes = changes_less busy m may;
      }

  issuer_comes : is_issuer m.to ≡ true → Middle None (issuer_gets (taken busy) m)
  issuer_comes issuer = by (stops m.body) refl
    where
      answer : (r : Option Body) → reaction_of (patch_of o.operation) m.body ≡ r → stops m.body ≡ false → m.op.0 ≡ o.number.0 → Middle None (reacts (taken busy) o m r)
      answer None none goes_on number = answer-is-noted None busy o m refl may issuer number tt goes_on none middle
      answer (Some what) reacts_ goes_on number = reaction-is-owed None busy o m what refl may issuer number tt reacts_ middle

      of_number : (b : Bool) → (m.op.0 == o.number.0) ≡ b → stops m.body ≡ false → Middle None (cond b (reacts (taken busy) o m (reaction_of (patch_of o.operation) m.body)) (taken busy))
      of_number true number goes_on = answer (reaction_of (patch_of o.operation) m.body) refl goes_on (eqb-true m.op.0 o.number.0 number)
      of_number false number goes_on = old-is-dropped None busy m may issuer number tt middle

      by : (b : Bool) → stops m.body ≡ b → Middle None (cond b (record (taken busy) { stopped = true }) (noted (taken busy) m (Some o)))
      by true e = stop_comes issuer
      by false e = of_number (m.op.0 == o.number.0) refl e

  pub delivery_keeps : Middle None (comes (taken busy) m m.to)
  delivery_keeps = by m.to refl
    where
      by : (to : Place) → m.to ≡ to → Middle None (comes (taken busy) m to)
      by (Processor cpu) is = issuer_comes (ap is_issuer is)
      by (Memory number) is = memory_comes number.0 is
      by Storage is = storage_comes is
      by Manager is = issuer_comes (ap is_issuer is)
