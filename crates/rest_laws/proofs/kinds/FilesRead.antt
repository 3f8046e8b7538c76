-- The read of a file's block: a cached block answers, else storage is asked for it and gives it to the cache.
use Rattle.std.proofs.Common.{◌≡◌, ◌⊎◌, ◌<◌, ◌||◌, [], ◌∷◌, ◌++◌, ◌∙◌, ℕ, Bool, List, None, Option, Some, ap, false, inl, inr, refl, subst, sym, take, true}
use Rattle.std.specs.List.{AllByRecursion, list_any}
use Rattle.lego_base.specs.Files.{file_bytes, is_file}
use Rattle.lego_base.specs.Pieces.{piece}
use Rattle.lego_base.specs.declared.ids.FileNo.{FileNo}
use Rattle.lego_msg.specs.Files.{Files, block_of}
use Rattle.lego_msg.specs.Places.{cache_of, is_among, is_issuer, memory, same_place}
use Rattle.lego_msg.specs.State.{Block, Mem}
use Rattle.lego_msg.specs.Table.{block_in, read_block, reply, without_block}
use Rattle.lego_msg.specs.Track.{Track, healing_move, memory_count}
use Rattle.lego_msg.specs.declared.message.Message.{Message}
use Rattle.lego_msg.specs.declared.operation.Open.{Open}
use Rattle.lego_msg.specs.declared.operation.Operation.TheVariants.{ReadsFile}
use Rattle.lego_msg.specs.declared.place.Place.{Place}
use Rattle.lego_rest.specs.Answers.{all_pending}
use Rattle.lego_rest.specs.Fits.{BlockFits, OpenFits, changes_block}
use Rattle.lego_rest.specs.Pending.{AnAnswer, First, Goes, HandedOn, IsAway, IsBatch, IsOfMove, IsPlace, Left, MayPend, OfBackground, OfMove, OfOpen, OfOperation, Pends, Reaction, Returns}
use Rattle.rest_laws.proofs.Delivered.{RowGives, left_of}
use Rattle.rest_laws.proofs.Meeting.{Met, met_below, met_holds, met_id, met_main, met_open, met_second}
use Rattle.rest_laws.proofs.Opened.{every, issuer_there}
use Rattle.rest_laws.proofs.Replied.{Change, all_new, answer_pends}
use Rattle.rest_laws.proofs.kinds.Asking.{alone}
use Rattle.rest_laws.proofs.kinds.Caching.{all_first, all_without, block_goes, cached, found_block}
use Rattle.rest_laws.proofs.kinds.Cells.{agreed}
use Rattle.rest_laws.proofs.kinds.Filing.{filed_none, old_files, reached_pends}
use Rattle.rest_laws.proofs.kinds.Kind.{KindRows, MemoryGives, StorageGives, here, no_answer_here, no_answer_there, storage_apart}
use Rattle.lego_msg.specs.declared.body.Body.TheVariants as body
use Rattle.lego_msg.specs.declared.place.Place.TheVariants as place

-- a message by its parts
pub same_message : (m r : Message) → m.from ≡ r.from → m.to ≡ r.to → m.op.0 ≡ r.op.0 → m.body ≡ r.body → m ≡ r
same_message m r from to op what = λ i. record { from = from i; to = to i; op = record { 0 = op i }; body = what i }

-- what is sent to storage, and to an issuer, by a memory that is up
pub storage_away : (lost : Option ℕ) (m r : Message) → r.from ≡ m.to → r.to ≡ place.Storage → IsAway lost m → IsAway lost r
storage_away None m r from to away = tt
storage_away (Some c) m r from to away = (ap (λ (p : Place). same_place p (memory c)) from ∙ away.1, ap (λ (p : Place). same_place p (memory c)) to)

pub issuer_away : (lost : Option ℕ) (m r : Message) → r.from ≡ m.to → is_issuer r.to ≡ true → IsAway lost m → IsAway lost r
issuer_away None m r from issuer away = tt
issuer_away (Some c) m r from issuer away = (ap (λ (p : Place). same_place p (memory c)) from ∙ away.1, by r.to issuer)
  where
    by : (to : Place) → is_issuer to ≡ true → same_place to (memory c) ≡ false
    by (place.Processor cpu) e = refl
    by (place.Memory m) e = cc e
    by place.Storage e = cc e
    by place.Manager e = refl

module _ (lost : Option ℕ) (t : Track) (o : Open) (file : FileNo) (block off len : ℕ) where
  abbrev reading : Open
  reading = record o { operation = ReadsFile file block off len }

  abbrev cache : ℕ
  cache = cache_of (memory_count t.shape) file.0

  abbrev true_bytes : List ℕ
  true_bytes = block_of (file_bytes t.plain.files.files file.0) block

  abbrev read_message : Message
  read_message = record { from = o.by; to = memory cache; op = o.number; body = body.FileRead file block off len }

  abbrev get_message : Message
  get_message = record { from = memory cache; to = place.Storage; op = o.number; body = body.BlockGet file block off len o.by }

  abbrev block_message : Message
  block_message = record { from = place.Storage; to = memory cache; op = o.number; body = body.BlockIs file block off len o.by true_bytes }

  -- the files are those of the plain map
  files_are : (t.disk.files ≡ t.plain.files) ⊎ (t.disk.files ≡ t.plain.files) → t.disk.files ≡ t.plain.files
  files_are (inl e) = e
  files_are (inr e) = e

  all_same : (s : Mem) (m : Message) (answers : Bool) → Met lost t reading cache s m → Change t reading answers cache s s
  all_same s m answers met = all_new t reading answers cache s s.main s.spare s.pages (λ c. agreed _ _ _ refl (met_main lost t reading cache s m met c)) (λ j below is c speaks. agreed _ _ _ refl (met_second lost t reading cache s m met j below is c))

  -- nothing on its way changes a block
  no_change : (b : Block) (x : Message) → MayPend lost (memory_count t.shape) t.plain (Some reading) (healing_move t.healing) t.next x → (IsOfMove x (healing_move t.healing) → changes_block b x.body ≡ false) → changes_block b x.body ≡ false
  no_change b x may moves = by may.kind
    where
      of_open : OfOpen (memory_count t.shape) t.plain x reading → changes_block b x.body ≡ false
      of_open (First (inl e)) = ap (λ (y : Message). changes_block b y.body) e
      of_open (First (inr nobody)) = absurd nobody
      of_open (Reaction from how) = absurd how
      of_open (HandedOn (inl how)) = ap (changes_block b) how.2
      of_open (HandedOn (inr how)) = ap (changes_block b) how.2
      of_open (AnAnswer to of says) = ap (changes_block b) says

      by : Pends lost (memory_count t.shape) t.plain (Some reading) (healing_move t.healing) t.next x → changes_block b x.body ≡ false
      by (OfOperation of) = of_open of.2
      by (OfMove of) = moves of
      by (OfBackground of) = batch of.batch
        where
          batch : IsBatch x of.of → changes_block b x.body ≡ false
          batch (Goes from to patches is) = ap (changes_block b) is
          batch (Returns from to is) = ap (changes_block b) is
      by (Left old) = ap (changes_block b) old.drained

  module _ (s : Mem) (m : Message) (met : Met lost t reading cache s m) where
    fits : OpenFits (memory_count t.shape) t.owners t.plain t.next reading
    fits = met_open lost t reading cache s m met

    files_same : t.disk.files ≡ t.plain.files
    files_same = files_are met.middle.disk.files

    there_ : is_file t.disk.files.files file.0 ≡ true
    there_ = ap (λ (f : Files). is_file f.files file.0) files_same ∙ fits.fits.0

    target : is_among (memory cache) o.targets ≡ true
    target = ap (is_among (memory cache)) fits.targets ∙ alone cache

    id : memory s.id ≡ memory cache
    id = met_id lost t reading cache s m met

    -- the blocks with one of them first
    first_fit : (bytes : List ℕ) (r : Message) → ((b : Block) → changes_block b r.body ≡ false) → BlockFits (memory_count t.shape) cache t.disk.files (all_pending t) (record { file = file.0; block = block; bytes = bytes }) → AllByRecursion (BlockFits (memory_count t.shape) cache t.disk.files (left_of t ++ r ∷ [])) (take s.cache_room (record { file = file.0; block = block; bytes = bytes } ∷ without_block file.0 block s.blocks))
    first_fit bytes r quiet fit = all_first (BlockFits (memory_count t.shape) cache t.disk.files (left_of t ++ r ∷ [])) s.cache_room (record { file = file.0; block = block; bytes = bytes } ∷ without_block file.0 block s.blocks) (
      block_goes lost t reading cache s m met r (record { file = file.0; block = block; bytes = bytes }) (quiet (record { file = file.0; block = block; bytes = bytes })) fit,
      every (λ b known. block_goes lost t reading cache s m met r b (quiet b) known.0) (without_block file.0 block s.blocks) (all_without (BlockFits (memory_count t.shape) cache t.disk.files (all_pending t)) file.0 block s.blocks (met_holds lost t reading cache s m met).blocks),
    )

  -- AT THE CACHE
  read : (s : Mem) → MemoryGives lost t reading cache s read_message
  read s met = by (block_in file.0 block s.blocks) refl
    where
      by : (c : Option (List ℕ)) → block_in file.0 block s.blocks ≡ c → RowGives lost t reading cache s (read_block c s read_message file block off len).0 (read_block c s read_message file block off len).1
      by (Some bytes) is = cached lost t reading cache s read_message met (take s.cache_room (record { file = file.0; block = block; bytes = bytes } ∷ without_block file.0 block s.blocks)) (reply (memory s.id) read_message (body.FileBytes (piece bytes off len)))
          (answer_pends lost t reading cache s read_message met (body.FileBytes (piece bytes off len)) refl (target s read_message met) (ap (λ (b : List ℕ). body.FileBytes (piece b off len)) (known.same (there_ s read_message met) ∙ ap (λ (f : Files). block_of (file_bytes f.files file.0) block) (files_same s read_message met))))
          (id s read_message met) refl (λ b other. refl) (first_fit s read_message met bytes (reply (memory s.id) read_message (body.FileBytes (piece bytes off len))) (λ b. refl) known) (all_same s read_message _ met)
        where
          known : BlockFits (memory_count t.shape) cache t.disk.files (all_pending t) (record { file = file.0; block = block; bytes = bytes })
          known = found_block (BlockFits (memory_count t.shape) cache t.disk.files (all_pending t)) file.0 block s.blocks bytes is (met_holds lost t reading cache s read_message met).blocks
      by None is = cached lost t reading cache s read_message met s.blocks asks
          (record {
            from = subst (IsPlace (memory_count t.shape)) (sym (id s read_message met)) (met_below lost t reading cache s read_message met);
            to = tt;
            kind = OfOperation (met.number, storage_away lost read_message asks (id s read_message met) refl met.away, HandedOn (inl (id s read_message met, refl, refl)));
          })
          (id s read_message met) refl (λ b other. refl) (every (λ b fit. block_goes lost t reading cache s read_message met asks b refl fit) s.blocks (met_holds lost t reading cache s read_message met).blocks) (all_same s read_message _ met)
        where
          asks : Message
          asks = record { from = memory s.id; to = place.Storage; op = o.number; body = body.BlockGet file block off len o.by }

  arrived : (s : Mem) → MemoryGives lost t reading cache s block_message
  arrived s met = cached lost t reading cache s block_message met (take s.cache_room (record { file = file.0; block = block; bytes = true_bytes } ∷ without_block file.0 block s.blocks)) answer
      (record {
        from = subst (IsPlace (memory_count t.shape)) (sym (id s block_message met)) (met_below lost t reading cache s block_message met);
        to = issuer_there (memory_count t.shape) o.by (fits s block_message met).by;
        kind = OfOperation (met.number, issuer_away lost block_message answer (id s block_message met) (fits s block_message met).by met.away, AnAnswer refl (ap (λ (p : Place). is_among p o.targets) (id s block_message met) ∙ target s block_message met) refl);
      })
      (id s block_message met) refl (λ b other. refl) (first_fit s block_message met true_bytes answer (λ b. refl) new) (all_same s block_message _ met)
    where
      answer : Message
      answer = record { from = memory s.id; to = o.by; op = o.number; body = body.FileBytes (piece true_bytes off len) }

      none_changes : (b : Block) → (xs : List Message) → AllByRecursion (MayPend lost (memory_count t.shape) t.plain (Some reading) (healing_move t.healing) t.next) xs → AllByRecursion (λ (x : Message). IsOfMove x (healing_move t.healing) → changes_block b x.body ≡ false) xs → list_any (λ (x : Message). changes_block b x.body) xs ≡ false
      none_changes b [] all moves = refl
      none_changes b (x ∷ xs) all moves = ap (λ (c : Bool). c || list_any (λ (x : Message). changes_block b x.body) xs) (no_change b x all.0 moves.0) ∙ none_changes b xs all.1 moves.1

      new : BlockFits (memory_count t.shape) cache t.disk.files (all_pending t) (record { file = file.0; block = block; bytes = true_bytes })
      new = record {
        place = refl;
        below = subst (λ (f : Files). file.0 < f.next) (sym (files_same s block_message met)) (met.middle.plain.numbers file.0 (fits s block_message met).fits.0);
        same = λ is. ap (λ (f : Files). block_of (file_bytes f.files file.0) block) (sym (files_same s block_message met));
        still = none_changes (record { file = file.0; block = block; bytes = true_bytes }) (all_pending t) met.middle.pending (met.moves (record { file = file.0; block = block; bytes = true_bytes }));
      }

  -- AT STORAGE
  got : StorageGives lost t reading get_message
  got reaches = filed_none lost t reading get_message reaches r (λ j p v. refl)
      (record {
        from = tt;
        to = (reached_pends lost t reading get_message reaches).from;
        kind = OfOperation (reaches.number, away lost reaches.away, HandedOn (inr (refl, refl, ap (λ (f : Files). body.BlockIs file block off len o.by (block_of (file_bytes f.files file.0) block)) (old_files lost t reading get_message reaches refl))));
      })
      refl refl (λ b. refl) (λ now. old_files lost t reading get_message reaches refl)
    where
      r : Message
      r = record { from = place.Storage; to = memory cache; op = o.number; body = body.BlockIs file block off len o.by (block_of (file_bytes t.disk.files.files file.0) block) }

      away : (lost : Option ℕ) → IsAway lost get_message → IsAway lost r
      away None e = tt
      away (Some c) e = (refl, e.0)

  pub reads_file_rows : KindRows lost t reading
  reads_file_rows = record { at_memory = memories; at_storage = storage }
    where
      memories : (k : ℕ) (s : Mem) (m : Message) → OfOpen (memory_count t.shape) t.plain m reading → MemoryGives lost t reading k s m
      memories k s m (First (inl e)) = λ met. subst (λ (x : Message). MemoryGives lost t reading k s x) (sym e) ((here lost t reading read_message cache refl read).0 k s) met
      memories k s m (First (inr nobody)) = absurd nobody
      memories k s m (Reaction from how) = absurd how
      memories k s m (HandedOn (inl how)) = λ met. absurd (storage_apart k (sym met.to ∙ how.1))
      memories k s m (HandedOn (inr how)) = λ met. subst (λ (x : Message). MemoryGives lost t reading k s x) (sym (same_message m block_message how.0 how.1 met.number how.2)) ((here lost t reading block_message cache refl arrived).0 k s) met
      memories k s m (AnAnswer to of says) = λ met. absurd (no_answer_here lost t reading k s m met to)

      storage : (m : Message) → OfOpen (memory_count t.shape) t.plain m reading → StorageGives lost t reading m
      storage m (First (inl e)) = λ reaches. absurd (storage_apart cache (ap (λ (x : Message). x.to) (sym e) ∙ reaches.to))
      storage m (First (inr nobody)) = absurd nobody
      storage m (Reaction from how) = absurd how
      storage m (HandedOn (inl how)) = λ reaches. subst (StorageGives lost t reading) (sym (same_message m get_message how.0 how.1 reaches.number how.2)) got reaches
      storage m (HandedOn (inr how)) = λ reaches. absurd (storage_apart cache (sym how.1 ∙ reaches.to))
      storage m (AnAnswer to of says) = λ reaches. absurd (no_answer_there lost t reading m reaches to)
