-- Rows by which storage sends one message and no image changes.
use Rattle.std.proofs.Common.{◌≡◌, ◌⊎◌, ◌<◌, ◌≤◌, ◌==◌, ◌&&◌, ◌||◌, [], ◌∷◌, ◌++◌, ◌∙◌, ℕ, Bool, List, None, Option, Some, ap, append-nil, arith, cond, false, inl, inr, refl, subst, sym, true}
use Rattle.std.proofs.lemmas.List.Elements.{filter-append}
use Rattle.std.specs.List.{list_any}
use Rattle.lego_base.specs.Files.{file_bytes, is_file}
use Rattle.lego_msg.specs.Deliveries.{taken}
use Rattle.lego_msg.specs.Files.{Files, block_of}
use Rattle.lego_msg.specs.Operations.{patch_of}
use Rattle.lego_msg.specs.Places.{is_among, is_issuer, memory, same_place}
use Rattle.lego_msg.specs.Plain.{effect}
use Rattle.lego_msg.specs.State.{Block}
use Rattle.lego_msg.specs.Track.{Track, healing_move, memory_count}
use Rattle.lego_msg.specs.declared.body.Body.{Body}
use Rattle.lego_msg.specs.declared.message.Message.{Message}
use Rattle.lego_msg.specs.declared.operation.Open.{Open}
use Rattle.lego_msg.specs.declared.place.Place.{Place}
use Rattle.lego_rest.specs.Answers.{all_pending, answers_to}
use Rattle.lego_rest.specs.Fits.{BlockFits, background, changes_block, is_background}
use Rattle.lego_rest.specs.Parts.{Page, share}
use Rattle.lego_rest.specs.Pending.{AnAnswer, IsAway, MayPend, OfOperation, Says}
use Rattle.rest_laws.proofs.Delivered.{left_of, of_first}
use Rattle.rest_laws.proofs.Filed.{FileGives}
use Rattle.rest_laws.proofs.Net.{any-taken}
use Rattle.rest_laws.proofs.Opened.{every, issuer_there, numbered_is_no_batch}
use Rattle.rest_laws.proofs.Stepping.{batch_stays}
use Rattle.rest_laws.proofs.Taken.{all_taken, batches_same, changes_less, whole}
use Rattle.rest_laws.proofs.Truth.{or_false}
use Rattle.rest_laws.proofs.kinds.Cells.{agreed}
use Rattle.rest_laws.proofs.kinds.Kind.{Reaches}
use Rattle.lego_msg.specs.declared.place.Place.TheVariants as place

-- an issuer isn't a memory
pub issuer_up : (lost : Option ℕ) (r : Message) → r.from ≡ place.Storage → is_issuer r.to ≡ true → IsAway lost r
issuer_up None r from issuer = tt
issuer_up (Some c) r from issuer = (ap (λ (p : Place). same_place p (memory c)) from, by r.to issuer)
  where
    by : (to : Place) → is_issuer to ≡ true → same_place to (memory c) ≡ false
    by (place.Processor cpu) e = refl
    by (place.Memory m) e = cc e
    by place.Storage e = cc e
    by place.Manager e = refl

-- what becomes of a block of a file that is there, where the files become others
pub record BlockStays (files after : Files) (b : Block) : Type 0 where
  pub there : is_file files.files b.file ≡ true
  pub same : block_of (file_bytes after.files b.file) b.block ≡ block_of (file_bytes files.files b.file) b.block

module _ (lost : Option ℕ) (t : Track) (o : Open) (m : Message) (reaches : Reaches lost t o m) where
  pub reached_pends : MayPend lost (memory_count t.shape) t.plain (Some o) (healing_move t.healing) t.next m
  reached_pends = (all_taken (MayPend lost (memory_count t.shape) t.plain (Some o) (healing_move t.healing) t.next) (all_pending t) (all_pending (taken (record t { current = Some o }))) m (whole (record t { current = Some o }) m reaches.may) reaches.middle.pending).0

  pub reached_some : 0 < m.op.0
  reached_some = subst (λ (n : ℕ). 0 < n) (sym reaches.number) reaches.middle.current.0.some

  left : left_of t ≡ all_pending (taken (record t { current = Some o }))
  left = sym (ap (λ (ms : List Message). left_of t ++ ms) reaches.may.owed ∙ append-nil (left_of t))

  pub reached_background : (r : Message) → 0 < r.op.0 → (j : ℕ) → background j (left_of t ++ r ∷ []) ≡ background j (all_pending t)
  reached_background r some j =
      filter-append (is_background j) (left_of t) (r ∷ []) ∙ ap (λ (b : Bool). background j (left_of t) ++ cond b (r ∷ []) []) (numbered_is_no_batch r some j)
      ∙ append-nil (background j (left_of t)) ∙ ap (background j) left ∙ batches_same (record t { current = Some o }) m reaches.may reached_some j

  -- where no message on its way changed a block, this one doesn't
  pub changes_none : (b : Block) → list_any (λ (x : Message). changes_block b x.body) (all_pending t) ≡ false → changes_block b m.body ≡ false
  changes_none b none = or_false (changes_block b m.body) (list_any (λ (x : Message). changes_block b x.body) (all_pending (taken (record t { current = Some o })))) (sym (any-taken (λ (x : Message). changes_block b x.body) (all_pending t) (all_pending (taken (record t { current = Some o }))) m (whole (record t { current = Some o }) m reaches.may)) ∙ none)

  -- an answer to the issuer
  pub issuer_answer : (told : Body) → is_among place.Storage o.targets ≡ true → Says (memory_count t.shape) t.plain o.operation place.Storage told → MayPend lost (memory_count t.shape) t.plain (Some o) (healing_move t.healing) t.next (record { from = place.Storage; to = o.by; op = m.op; body = told })
  issuer_answer told target says = record {
    from = tt;
    to = issuer_there (memory_count t.shape) o.by reaches.middle.current.0.by;
    kind = OfOperation (reaches.number, issuer_up lost (record { from = place.Storage; to = o.by; op = m.op; body = told }) refl reaches.middle.current.0.by, AnAnswer refl target says);
  }

  pub filed_one : (files : Files) (r : Message) → ((j pid vpn : ℕ) → share (memory_count t.shape) t.owners t.plain j (Page pid vpn) ≡ share (memory_count t.shape) t.owners (effect o.operation t.plain) j (Page pid vpn)) →
      MayPend lost (memory_count t.shape) t.plain (Some o) (healing_move t.healing) t.next r → r.from ≡ place.Storage → r.op ≡ m.op → ((b : Block) → changes_block b r.body ≡ false) →
      (files ≡ t.disk.files) ⊎ (files ≡ (effect o.operation t.plain).files) → (answers_to (patch_of o.operation) r.body ≡ true → files ≡ (effect o.operation t.plain).files) →
      t.disk.files.next ≤ files.next → ((b : Block) → b.file < t.disk.files.next → changes_block b m.body ≡ false → is_file files.files b.file ≡ true → BlockStays t.disk.files files b) →
      FileGives lost t o (record { images = t.disk.images; files = files }) (r ∷ [])
  filed_one files r same_pages pends from number still either told next stays = record {
    sends = (pends, tt);
    from = (from, tt);
    pages = λ j x below up at pid vpn. inl refl;
    pages_told = λ unwritten due. inr (λ j x below up at pid vpn. agreed _ _ _ (same_pages j pid vpn) ((reaches.middle.seconds j x below up at).part.either (Page pid vpn)));
    bare = λ j less is pid vpn mine either. either;
    background = λ j is. reached_background r (subst (λ (k : _). 0 < k.0) (sym number) reached_some) j;
    batches = λ j s up at. batch_stays (all_pending t) (left_of t ++ r ∷ []) t.disk.images s (reached_background r (subst (λ (k : _). 0 < k.0) (sym number) reached_some) s.id) (reaches.middle.memories j s up at).batch;
    blocks = λ j s up at. every (block_after j) s.blocks (reaches.middle.memories j s up at).blocks;
    files = either;
    told = λ now. told (answers (r.op.0 == o.number.0) (same_place r.from place.Storage) (same_place r.to o.by) (answers_to (patch_of o.operation) r.body) now);
    images = reaches.middle.disk.images;
    form = reaches.middle.disk.form;
  }
    where
      answers : (a b c d : Bool) → ((a && b && c && d) || false) ≡ true → d ≡ true
      answers a b c true e = refl
      answers true true true false e = cc e
      answers true true false false e = cc e
      answers true false c false e = cc e
      answers false b c false e = cc e

      block_after : (j : ℕ) (b : Block) → BlockFits (memory_count t.shape) j t.disk.files (all_pending t) b → BlockFits (memory_count t.shape) j files (left_of t ++ r ∷ []) b
      block_after j b fit = record {
        place = fit.place;
        below = let less = fit.below in omega (arith, less, next);
        same = λ is. let stay = stays b fit.below (changes_none b fit.still) is in fit.same stay.there ∙ sym stay.same;
        still = of_first (λ (x : Message). changes_block b x.body) (left_of t) (r ∷ []) (ap (λ (x : Bool). x || false) (still b))
            ∙ ap (list_any (λ (x : Message). changes_block b x.body)) left
            ∙ changes_less (record t { current = Some o }) m reaches.may b fit.still;
      }

  -- where the files stay
  pub filed_none : (r : Message) → ((j pid vpn : ℕ) → share (memory_count t.shape) t.owners t.plain j (Page pid vpn) ≡ share (memory_count t.shape) t.owners (effect o.operation t.plain) j (Page pid vpn)) →
      MayPend lost (memory_count t.shape) t.plain (Some o) (healing_move t.healing) t.next r → r.from ≡ place.Storage → r.op ≡ m.op → ((b : Block) → changes_block b r.body ≡ false) →
      (answers_to (patch_of o.operation) r.body ≡ true → t.disk.files ≡ (effect o.operation t.plain).files) →
      FileGives lost t o t.disk (r ∷ [])
  filed_none r same_pages pends from number still told = filed_one t.disk.files r same_pages pends from number still (inl refl) told (omega arith) (λ b below unchanged is. record { there = is; same = refl })

  -- the files of the plain map before, where the operation changes none
  pub old_files : (effect o.operation t.plain).files ≡ t.plain.files → t.disk.files ≡ t.plain.files
  old_files same = by reaches.middle.disk.files
    where
      by : (t.disk.files ≡ t.plain.files) ⊎ (t.disk.files ≡ (effect o.operation t.plain).files) → t.disk.files ≡ t.plain.files
      by (inl e) = e
      by (inr e) = e ∙ same
