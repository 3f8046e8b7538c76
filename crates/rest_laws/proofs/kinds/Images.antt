-- Rows by which storage changes images and answers that it is done, where no log has a patch of a page that changes.
use Rattle.std.proofs.Common.{◌≡◌, ◌⊎◌, ◌/◌, ◌<◌, ◌==◌, ◌&&◌, [], ◌∷◌, ◌++◌, ◌∙◌, ℕ, Bool, List, None, Option, Some, ap, append-nil, cond, false, inl, inr, refl, slice_get, suc, sym, take, true, zero}
use Rattle.std.proofs.lemmas.Bool.{eqb-true}
use Rattle.std.specs.List.{AllByRecursion, list_any}
use Rattle.lego_base.specs.Keys.{Key, key_at, without}
use Rattle.lego_base.specs.declared.records.PageImage.{PageImage}
use Rattle.lego_base.specs.declared.records.Patch.{Patch}
use Rattle.lego_msg.specs.Maps.{overlaid, owner_of, page_in, page_key}
use Rattle.lego_msg.specs.Places.{is_among, secondary_of}
use Rattle.lego_msg.specs.Plain.{effect}
use Rattle.lego_msg.specs.State.{Mem}
use Rattle.lego_msg.specs.Track.{Track, memory_count}
use Rattle.lego_msg.specs.declared.message.Message.{Message}
use Rattle.lego_msg.specs.declared.operation.Open.{Open}
use Rattle.lego_rest.specs.Answers.{all_pending}
use Rattle.lego_rest.specs.Fits.{BatchFits, HasBatch, PagesFit, background, batch_message, changes_block, over, receipt}
use Rattle.lego_rest.specs.Parts.{Page, new_share, owns, second_part, sides_of}
use Rattle.lego_rest.specs.Pending.{IsUp, Says}
use Rattle.rest_laws.proofs.Delivered.{left_of, of_first}
use Rattle.rest_laws.proofs.Filed.{FileGives, stays_either}
use Rattle.rest_laws.proofs.Lookup.{page-overlaid}
use Rattle.rest_laws.proofs.Opened.{every}
use Rattle.rest_laws.proofs.Pages.{untouched}
use Rattle.rest_laws.proofs.Taken.{changes_less}
use Rattle.rest_laws.proofs.Truth.{both_true}
use Rattle.rest_laws.proofs.kinds.Cells.{gone_cell, page_without, pages_left_fit}
use Rattle.rest_laws.proofs.kinds.Filing.{issuer_answer, reached_background, reached_some}
use Rattle.rest_laws.proofs.kinds.Kind.{Reaches}
use Rattle.lego_msg.specs.declared.body.Body.TheVariants as body
use Rattle.lego_msg.specs.declared.place.Place.TheVariants as place

-- a log that is clear of pages has no patch of one of them
pub clear_of : (test : ℕ → ℕ → Bool) (pid vpn : ℕ) → test pid vpn ≡ true → (log : List Patch) → AllByRecursion (λ (p : Patch). test p.pid.0 p.vpn.0 ≡ false) log → AllByRecursion (λ (p : Patch). (p.pid.0 == pid && p.vpn.0 == vpn) ≡ false) log
clear_of test pid vpn this log clear = every each log clear
  where
    each : (p : Patch) → test p.pid.0 p.vpn.0 ≡ false → (p.pid.0 == pid && p.vpn.0 == vpn) ≡ false
    each p none = by (p.pid.0 == pid && p.vpn.0 == vpn) refl
      where
        by : (b : Bool) → (p.pid.0 == pid && p.vpn.0 == vpn) ≡ b → b ≡ false
        by true e =
            let same = both_true (p.pid.0 == pid) (p.vpn.0 == vpn) e in
            sym this ∙ sym (λ i. test (eqb-true p.pid.0 pid same.0 i) (eqb-true p.vpn.0 vpn same.1 i)) ∙ none
        by false e = refl

pub all_front : {X : Type 0} (P : X → Type 0) (n : ℕ) (xs : List X) → AllByRecursion P xs → AllByRecursion P (take n xs)
all_front P n [] all = take_none n
  where
    take_none : (n : ℕ) → AllByRecursion P (take n [])
    take_none zero = tt
    take_none (suc n) = tt
all_front P zero (x ∷ xs) all = tt
all_front P (suc n) (x ∷ xs) all = (all.0, all_front P n xs all.1)

-- a batch that the images have, they have still where the pages that changed are none of its
pub has_still : (test : ℕ → ℕ → Bool) (before after : List PageImage) (batch : List Patch) → AllByRecursion (λ (p : Patch). test p.pid.0 p.vpn.0 ≡ false) batch → ((pid vpn : ℕ) → test pid vpn ≡ false → page_in after pid vpn ≡ page_in before pid vpn) → HasBatch before batch → HasBatch after batch
has_still test before after batch clear same has pid vpn = by (test pid vpn) refl
  where
    by : (b : Bool) → test pid vpn ≡ b → over batch pid vpn (page_in after pid vpn) ≡ page_in after pid vpn
    by true this = untouched batch pid vpn (page_in after pid vpn) (clear_of test pid vpn this batch clear)
    by false other = ap (over batch pid vpn) (same pid vpn other) ∙ has pid vpn ∙ sym (same pid vpn other)

module _ (lost : Option ℕ) (t : Track) (o : Open) (m : Message) (reaches : Reaches lost t o m) where
  abbrev done : Message
  done = record { from = place.Storage; to = o.by; op = m.op; body = body.Done }

  -- images of pages that a test picks become others
  pub imaged : (test : ℕ → ℕ → Bool) (after : List PageImage) → is_among place.Storage o.targets ≡ true → Says (memory_count t.shape) t.plain o.operation place.Storage body.Done → (effect o.operation t.plain).files ≡ t.plain.files →
      ((k : ℕ) (s : Mem) → slice_get t.mems k ≡ Some s → AllByRecursion (λ (p : Patch). test p.pid.0 p.vpn.0 ≡ false) s.log) →
      ((pid vpn : ℕ) → test pid vpn ≡ false → page_in after pid vpn ≡ page_in t.disk.images pid vpn) →
      ((j : ℕ) (x : Mem) → j < memory_count t.shape → IsUp lost (secondary_of (memory_count t.shape) j) → slice_get t.mems (secondary_of (memory_count t.shape) j) ≡ Some x → (pid vpn : ℕ) → second_part t.owners after j x (Page pid vpn) ≡ new_share (sides_of (record t { current = Some o })) j (Page pid vpn)) →
      ((j : ℕ) → j < memory_count t.shape → lost ≡ Some (secondary_of (memory_count t.shape) j) → (pid vpn : ℕ) → owns t.owners j pid (vpn / 512) ≡ true → (page_in after pid vpn ≡ page_in t.disk.images pid vpn) ⊎ (page_in after pid vpn ≡ (effect o.operation t.plain).page pid vpn)) →
      ((pid vpn : ℕ) → owner_of t.owners pid (vpn / 512) ≡ None → page_in after pid vpn ≡ None) → PagesFit after →
      FileGives lost t o (record { images = after; files = t.disk.files }) (done ∷ [])
  imaged test after target says same_files clear same new bare absent form = record {
    sends = (issuer_answer lost t o m reaches body.Done target says, tt);
    from = (refl, tt);
    pages = λ j x below up at pid vpn. inr (new j x below up at pid vpn);
    pages_told = λ unwritten due. inr new;
    bare = λ j less is pid vpn mine. stays_either (sides_of (record t { current = Some o })) j pid vpn (page_in t.disk.images pid vpn) (page_in after pid vpn) mine (bare j less is pid vpn mine);
    background = λ j is. reached_background lost t o m reaches done some j;
    batches = λ j s up at. batch_after j s at (reaches.middle.memories j s up at).batch;
    blocks = λ j s up at. every (λ b fit. record {
      place = fit.place;
      below = fit.below;
      same = fit.same;
      still = of_first (λ (x : Message). changes_block b x.body) (left_of t) (done ∷ []) refl
          ∙ ap (list_any (λ (x : Message). changes_block b x.body)) (sym (ap (λ (ms : List Message). left_of t ++ ms) reaches.may.owed ∙ append-nil (left_of t)))
          ∙ changes_less (record t { current = Some o }) m reaches.may b fit.still;
    }) s.blocks (reaches.middle.memories j s up at).blocks;
    files = inl refl;
    told = λ now. files reaches.middle.disk.files;
    images = absent;
    form = form;
  }
    where
      files : (t.disk.files ≡ t.plain.files) ⊎ (t.disk.files ≡ (effect o.operation t.plain).files) → t.disk.files ≡ (effect o.operation t.plain).files
      files (inl e) = e ∙ sym same_files
      files (inr e) = e

      some : 0 < m.op.0
      some = reached_some lost t o m reaches

      batch_after : (j : ℕ) (s : Mem) → slice_get t.mems j ≡ Some s → BatchFits (all_pending t) t.disk.images s → BatchFits (left_of t ++ done ∷ []) after s
      batch_after j s at fits = record {
        none = λ out. reached_background lost t o m reaches done some s.id ∙ fits.none out;
        once = λ out. by (fits.once out);
        within = fits.within;
        waits = fits.waits;
      }
        where
          by : (background s.id (all_pending t) ≡ batch_message s ∷ []) ⊎ ((background s.id (all_pending t) ≡ receipt s ∷ []) × HasBatch t.disk.images (take s.out s.log)) → (background s.id (left_of t ++ done ∷ []) ≡ batch_message s ∷ []) ⊎ ((background s.id (left_of t ++ done ∷ []) ≡ receipt s ∷ []) × HasBatch after (take s.out s.log))
          by (inl e) = inl (reached_background lost t o m reaches done some s.id ∙ e)
          by (inr e) = inr (reached_background lost t o m reaches done some s.id ∙ e.0, has_still test t.disk.images after (take s.out s.log) (all_front (λ (p : Patch). test p.pid.0 p.vpn.0 ≡ false) s.out s.log (clear j s at)) same e.1)

  -- images of pages that a test picks go
  pub images_gone : (test : Key → Bool) → is_among place.Storage o.targets ≡ true → Says (memory_count t.shape) t.plain o.operation place.Storage body.Done → (effect o.operation t.plain).files ≡ t.plain.files →
      ((k : ℕ) (s : Mem) → slice_get t.mems k ≡ Some s → AllByRecursion (λ (p : Patch). test (key_at p.pid.0 p.vpn.0) ≡ false) s.log) →
      ((pid vpn : ℕ) → (effect o.operation t.plain).page pid vpn ≡ cond (test (key_at pid vpn)) None (t.plain.page pid vpn)) →
      FileGives lost t o (record { images = without page_key test t.disk.images; files = t.disk.files }) (done ∷ [])
  images_gone test target says same_files clear page = imaged (λ pid vpn. test (key_at pid vpn)) (without page_key test t.disk.images) target says same_files clear
      (λ pid vpn other. page_without test t.disk.images pid vpn ∙ ap (λ (b : Bool). cond b None (page_in t.disk.images pid vpn)) other)
      new (λ j less is pid vpn mine. bared pid vpn)
      (λ pid vpn none. page_without test t.disk.images pid vpn ∙ still_none (test (key_at pid vpn)) (page_in t.disk.images pid vpn) (reaches.middle.disk.images pid vpn none))
      (pages_left_fit test t.disk.images reaches.middle.disk.form)
    where
      bared : (pid vpn : ℕ) → (page_in (without page_key test t.disk.images) pid vpn ≡ page_in t.disk.images pid vpn) ⊎ (page_in (without page_key test t.disk.images) pid vpn ≡ (effect o.operation t.plain).page pid vpn)
      bared pid vpn = by (test (key_at pid vpn)) refl
        where
          by : (b : Bool) → test (key_at pid vpn) ≡ b → (page_in (without page_key test t.disk.images) pid vpn ≡ page_in t.disk.images pid vpn) ⊎ (page_in (without page_key test t.disk.images) pid vpn ≡ (effect o.operation t.plain).page pid vpn)
          by true e = inr (page_without test t.disk.images pid vpn ∙ ap (λ (b : Bool). cond b None (page_in t.disk.images pid vpn)) e ∙ sym (page pid vpn ∙ ap (λ (b : Bool). cond b None (t.plain.page pid vpn)) e))
          by false e = inl (page_without test t.disk.images pid vpn ∙ ap (λ (b : Bool). cond b None (page_in t.disk.images pid vpn)) e)

      still_none : (b : Bool) (page : Option (List ℕ)) → page ≡ None → cond b None page ≡ None
      still_none true page e = refl
      still_none false page e = e

      new : (j : ℕ) (x : Mem) → j < memory_count t.shape → IsUp lost (secondary_of (memory_count t.shape) j) → slice_get t.mems (secondary_of (memory_count t.shape) j) ≡ Some x → (pid vpn : ℕ) → second_part t.owners (without page_key test t.disk.images) j x (Page pid vpn) ≡ new_share (sides_of (record t { current = Some o })) j (Page pid vpn)
      new j x below up at pid vpn =
          ap (λ (page : Option (List ℕ)). cond (owns t.owners j pid (vpn / 512)) page None) (page-overlaid x.log (without page_key test t.disk.images) pid vpn ∙ ap (over x.log pid vpn) (page_without test t.disk.images pid vpn) ∙ under (test (key_at pid vpn)) refl ∙ ap (λ (page : Option (List ℕ)). cond (test (key_at pid vpn)) None page) (sym (page-overlaid x.log t.disk.images pid vpn)))
          ∙ pushed (owns t.owners j pid (vpn / 512)) (test (key_at pid vpn)) (page_in (overlaid x.log t.disk.images) pid vpn)
          ∙ gone_cell (test (key_at pid vpn)) (owns t.owners j pid (vpn / 512)) (cond (owns t.owners j pid (vpn / 512)) (page_in (overlaid x.log t.disk.images) pid vpn) None) (t.plain.page pid vpn) None
          (either ((reaches.middle.seconds j x below up at).part.either (Page pid vpn)))
          ∙ ap (λ (page : Option (List ℕ)). cond (owns t.owners j pid (vpn / 512)) page None) (sym (page pid vpn))
        where
          under : (b : Bool) → test (key_at pid vpn) ≡ b → over x.log pid vpn (cond b None (page_in t.disk.images pid vpn)) ≡ cond b None (over x.log pid vpn (page_in t.disk.images pid vpn))
          under true this = untouched x.log pid vpn None (clear_of (λ pid vpn. test (key_at pid vpn)) pid vpn this x.log (clear (secondary_of (memory_count t.shape) j) x at))
          under false other = refl

          pushed : (keep gone : Bool) (page : Option (List ℕ)) → cond keep (cond gone None page) None ≡ cond gone None (cond keep page None)
          pushed true gone page = refl
          pushed false true page = refl
          pushed false false page = refl

          either : (second_part t.owners t.disk.images j x (Page pid vpn) ≡ cond (owns t.owners j pid (vpn / 512)) (t.plain.page pid vpn) None) ⊎ (second_part t.owners t.disk.images j x (Page pid vpn) ≡ cond (owns t.owners j pid (vpn / 512)) ((effect o.operation t.plain).page pid vpn) None) → (second_part t.owners t.disk.images j x (Page pid vpn) ≡ cond (owns t.owners j pid (vpn / 512)) (t.plain.page pid vpn) None) ⊎ (second_part t.owners t.disk.images j x (Page pid vpn) ≡ cond (owns t.owners j pid (vpn / 512)) (cond (test (key_at pid vpn)) None (t.plain.page pid vpn)) None)
          either (inl e) = inl e
          either (inr e) = inr (e ∙ ap (λ (page : Option (List ℕ)). cond (owns t.owners j pid (vpn / 512)) page None) (page pid vpn))
