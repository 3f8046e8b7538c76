-- The write of bytes into a file and the change of its size: the cache drops what it has of it and hands the change on to
-- storage, which answers.
use Rattle.std.proofs.Common.{◌≡◌, ◌⊎◌, ◌+◌, ◌*◌, ◌==◌, ◌&&◌, ◌∙◌, ℕ, Bool, List, Option, Some, ap, arith, cond, false, inl, inr, refl, subst, sym, true}
use Rattle.std.proofs.lemmas.Bool.{eq-eqb}
use Rattle.std.proofs.lemmas.Bool.Decides.{eqb_tells}
use Rattle.lego_base.specs.Files.{File, file_bytes, is_file, with_file_bytes}
use Rattle.lego_base.specs.Pieces.{of_size, written_at}
use Rattle.lego_base.specs.declared.ids.FileNo.{FileNo}
use Rattle.lego_base.specs.declared.ids.OpNo.{OpNo}
use Rattle.lego_msg.specs.Files.{Files, block_of, file_cut, file_written, is_room}
use Rattle.lego_msg.specs.Places.{cache_of, is_among, memory}
use Rattle.lego_msg.specs.Plain.{Plain, effect, with_files}
use Rattle.lego_msg.specs.State.{Block, Mem}
use Rattle.lego_msg.specs.Table.{tells, without_block, without_blocks}
use Rattle.lego_msg.specs.Track.{Track, healing_move, memory_count}
use Rattle.lego_msg.specs.declared.message.Message.{Message}
use Rattle.lego_msg.specs.declared.operation.Open.{Open}
use Rattle.lego_msg.specs.declared.operation.Operation.TheVariants.{CutsFile, WritesFile}
use Rattle.lego_rest.specs.Parts.{Cell, share}
use Rattle.lego_rest.specs.Pending.{AnAnswer, First, HandedOn, HandsOn, IsPlace, MayPend, OfOpen, OfOperation, Reaction}
use Rattle.rest_laws.proofs.Blocks.{other_block, sized_twice, written_twice}
use Rattle.rest_laws.proofs.Filed.{FileGives}
use Rattle.rest_laws.proofs.FileLists.{with_other, with_same, with_there, with_twice}
use Rattle.rest_laws.proofs.Meeting.{Met, met_below, met_holds, met_id, met_main, met_second}
use Rattle.rest_laws.proofs.Noted.{eqb_sym}
use Rattle.rest_laws.proofs.Opened.{every}
use Rattle.rest_laws.proofs.Replied.{Change, all_new}
use Rattle.rest_laws.proofs.Unchanged.{same_kept}
use Rattle.rest_laws.proofs.kinds.Caching.{all_without, all_without_file, block_goes, cached}
use Rattle.rest_laws.proofs.kinds.Cells.{agreed}
use Rattle.rest_laws.proofs.kinds.Filing.{BlockStays, filed_none, filed_one, issuer_answer}
use Rattle.rest_laws.proofs.kinds.FilesRead.{same_message, storage_away}
use Rattle.rest_laws.proofs.kinds.Kind.{KindRows, MemoryGives, StorageGives, here, no_answer_here, no_answer_there, storage_apart}
use Rattle.lego_msg.specs.declared.body.Body.TheVariants as body
use Rattle.lego_msg.specs.declared.place.Place.TheVariants as place
use Rattle.lego_msg.specs.declared.place.Why.TheVariants as why

-- BYTES BECOME OTHERS, once or twice
changed_twice : (change : List ℕ → List ℕ) → ((bytes : List ℕ) → change (change bytes) ≡ change bytes) → (n : ℕ) (files : List File) → is_file files n ≡ true →
    with_file_bytes (with_file_bytes files n (change (file_bytes files n))) n (change (file_bytes (with_file_bytes files n (change (file_bytes files n))) n)) ≡ with_file_bytes files n (change (file_bytes files n))
changed_twice change twice n files there =
    ap (λ (bytes : List ℕ). with_file_bytes (with_file_bytes files n (change (file_bytes files n))) n (change bytes)) (with_same n (change (file_bytes files n)) files there)
    ∙ with_twice n (change (file_bytes files n)) (change (change (file_bytes files n))) files ∙ ap (with_file_bytes files n) (twice (file_bytes files n))

abbrev pub changed : (List ℕ → List ℕ) → ℕ → Files → Files
changed change n f = record f { files = with_file_bytes f.files n (change (file_bytes f.files n)) }

-- the files that storage has become the new ones, whether they were the old or the new
pub changed_new : (change : List ℕ → List ℕ) → ((bytes : List ℕ) → change (change bytes) ≡ change bytes) → (n : ℕ) (held old : Files) → is_file old.files n ≡ true → (held ≡ old) ⊎ (held ≡ changed change n old) → changed change n held ≡ changed change n old
changed_new change twice n held old there (inl e) = ap (changed change n) e
changed_new change twice n held old there (inr e) = ap (changed change n) e ∙ ap (λ (files : List File). record old { files = files }) (changed_twice change twice n old.files there)

-- and the file is there then
still_there : (change : List ℕ → List ℕ) (n : ℕ) (held old : Files) → is_file old.files n ≡ true → (held ≡ old) ⊎ (held ≡ changed change n old) → is_file held.files n ≡ true
still_there change n held old there (inl e) = ap (λ (f : Files). is_file f.files n) e ∙ there
still_there change n held old there (inr e) = ap (λ (f : Files). is_file f.files n) e ∙ with_there n (change (file_bytes old.files n)) old.files n ∙ there

module _ (lost : Option ℕ) (t : Track) (o : Open) where
  -- a file's operation changes no cell
  kept_same : (s : Mem) (k : ℕ) (m : Message) (answers : Bool) (files : Files) → effect o.operation t.plain ≡ with_files files t.plain → Met lost t o k s m → Change t o answers k s s
  kept_same s k m answers files is met = all_new t o answers k s s.main s.spare s.pages (λ c. agreed _ _ _ (same k c) (met_main lost t o k s m met c)) (λ j below at c speaks. agreed _ _ _ (same j c) (met_second lost t o k s m met j below at c))
    where
      same : (j : ℕ) (c : Cell) → share (memory_count t.shape) t.owners t.plain j c ≡ share (memory_count t.shape) t.owners (effect o.operation t.plain) j c
      same j c = same_kept (memory_count t.shape) t.owners t.plain files j c ∙ ap (λ (f : Plain). share (memory_count t.shape) t.owners f j c) (sym is)

  -- what a cache hands on to storage
  handed : (s : Mem) (k : ℕ) (m r : Message) → Met lost t o k s m → r.from ≡ memory s.id → r.to ≡ place.Storage → r.op ≡ m.op → HandsOn (memory_count t.shape) t.plain o.by o.operation r → MayPend lost (memory_count t.shape) t.plain (Some o) (healing_move t.healing) t.next r
  handed s k m r met from to number hands = record {
    from = subst (IsPlace (memory_count t.shape)) (sym (from ∙ met_id lost t o k s m met)) (met_below lost t o k s m met);
    to = subst (IsPlace (memory_count t.shape)) (sym to) tt;
    kind = OfOperation (ap (λ (n : OpNo). n.0) number ∙ met.number, storage_away lost m r (from ∙ met_id lost t o k s m met ∙ sym met.to) to met.away, HandedOn hands);
  }

-- THE WRITE
module _ (lost : Option ℕ) (t : Track) (o : Open) (file : FileNo) (block off : ℕ) (bytes : List ℕ) where
  abbrev writing : Open
  writing = record o { operation = WritesFile file block off bytes }

  abbrev cache : ℕ
  cache = cache_of (memory_count t.shape) file.0

  abbrev write_message : Message
  write_message = record { from = o.by; to = memory cache; op = o.number; body = body.FileWrite file block off bytes }

  abbrev put_message : Message
  put_message = record { from = memory cache; to = place.Storage; op = o.number; body = body.BlockPut file block off bytes o.by }

  dropped : (s : Mem) → MemoryGives lost t writing cache s write_message
  dropped s met = cached lost t writing cache s write_message met (without_block file.0 block s.blocks) r
      (handed lost t writing s cache write_message r met refl refl refl (met_id lost t writing cache s write_message met, refl, refl)) (met_id lost t writing cache s write_message met) refl elsewhere
      (every (λ b known. block_goes lost t writing cache s write_message met r b ((λ i. eqb_sym file.0 b.file i && eqb_sym block b.block i) ∙ known.1) known.0) (without_block file.0 block s.blocks) (all_without _ file.0 block s.blocks (met_holds lost t writing cache s write_message met).blocks))
      (kept_same lost t writing s cache write_message _ (record t.plain.files { files = file_written t.plain.files file.0 block off bytes }) refl met)
    where
      r : Message
      r = record { from = memory s.id; to = place.Storage; op = o.number; body = body.BlockPut file block off bytes o.by }

      elsewhere : (b : Block) → (cache ≡ cache_of (memory_count t.shape) b.file → ⊥) → (file.0 == b.file && block == b.block) ≡ false
      elsewhere b other = elim (eqb_tells file.0 b.file) [
        | inl same ↦ absurd (other (ap (cache_of (memory_count t.shape)) same.1))
        | inr apart ↦ ap (λ (x : Bool). x && block == b.block) apart.0
      ]

  put : StorageGives lost t writing put_message
  put reaches = by (is_room t.disk.files (file_written t.disk.files file.0 block off bytes))
    where
      there_ : is_file t.disk.files.files file.0 ≡ true
      there_ = still_there (λ (old : List ℕ). written_at old (block * 4096 + off) bytes) file.0 t.disk.files t.plain.files reaches.middle.current.0.fits.0 reaches.middle.disk.files

      new : changed (λ (old : List ℕ). written_at old (block * 4096 + off) bytes) file.0 t.disk.files ≡ changed (λ (old : List ℕ). written_at old (block * 4096 + off) bytes) file.0 t.plain.files
      new = changed_new (λ (old : List ℕ). written_at old (block * 4096 + off) bytes) (λ old. written_twice old (block * 4096 + off) bytes) file.0 t.disk.files t.plain.files reaches.middle.current.0.fits.0 reaches.middle.disk.files

      target : is_among place.Storage o.targets ≡ true
      target = ap (is_among place.Storage) reaches.middle.current.0.targets

      stays : (b : Block) → (file.0 == b.file && block == b.block) ≡ false → is_file (with_file_bytes t.disk.files.files file.0 (written_at (file_bytes t.disk.files.files file.0) (block * 4096 + off) bytes)) b.file ≡ true → BlockStays t.disk.files (changed (λ (old : List ℕ). written_at old (block * 4096 + off) bytes) file.0 t.disk.files) b
      stays b still is = record {
        there = sym (with_there file.0 _ t.disk.files.files b.file) ∙ is;
        same = elim (eqb_tells file.0 b.file) [
          | inl same ↦
              let other : (block == b.block) ≡ false = sym (ap (λ (x : Bool). x && block == b.block) same.0) ∙ still in
              subst (λ (n : ℕ). block_of (file_bytes (with_file_bytes t.disk.files.files file.0 (written_at (file_bytes t.disk.files.files file.0) (block * 4096 + off) bytes)) n) b.block ≡ block_of (file_bytes t.disk.files.files n) b.block) same.1
              (ap (λ (l : List ℕ). block_of l b.block) (with_same file.0 (written_at (file_bytes t.disk.files.files file.0) (block * 4096 + off) bytes) t.disk.files.files there_)
              ∙ other_block (file_bytes t.disk.files.files file.0) block off bytes b.block reaches.middle.current.0.fits.1.1 (differ other))
          | inr apart ↦ ap (λ (l : List ℕ). block_of l b.block) (with_other file.0 (written_at (file_bytes t.disk.files.files file.0) (block * 4096 + off) bytes) t.disk.files.files b.file apart.1)
        ];
      }
        where
          differ : (block == b.block) ≡ false → block ≡ b.block → ⊥
          differ none same = let both : true ≡ false = sym (eq-eqb block b.block same) ∙ none in cc both

      by : (room : Bool) → FileGives lost t writing (cond room (tells (record t.disk { files = record t.disk.files { files = file_written t.disk.files file.0 block off bytes } }) put_message o.by body.Wrote) (tells t.disk put_message o.by (body.Refused why.StoreFull))).0 (cond room (tells (record t.disk { files = record t.disk.files { files = file_written t.disk.files file.0 block off bytes } }) put_message o.by body.Wrote) (tells t.disk put_message o.by (body.Refused why.StoreFull))).1
      by true = filed_one lost t writing put_message reaches (record t.disk.files { files = file_written t.disk.files file.0 block off bytes }) (record { from = place.Storage; to = o.by; op = o.number; body = body.Wrote }) (λ j p v. refl)
          (issuer_answer lost t writing put_message reaches body.Wrote target (inl refl)) refl refl (λ b. refl) (inr new) (λ now. new) (omega arith) (λ b below still is. stays b still is)
      by false = filed_none lost t writing put_message reaches (record { from = place.Storage; to = o.by; op = o.number; body = body.Refused why.StoreFull }) (λ j p v. refl)
          (issuer_answer lost t writing put_message reaches (body.Refused why.StoreFull) target (inr (inl refl))) refl refl (λ b. refl) (λ now. cc now)

  pub writes_file_rows : KindRows lost t writing
  writes_file_rows = record { at_memory = memories; at_storage = storage }
    where
      memories : (k : ℕ) (s : Mem) (m : Message) → OfOpen (memory_count t.shape) t.plain m writing → MemoryGives lost t writing k s m
      memories k s m (First (inl e)) = λ met. subst (λ (x : Message). MemoryGives lost t writing k s x) (sym e) ((here lost t writing write_message cache refl dropped).0 k s) met
      memories k s m (First (inr nobody)) = absurd nobody
      memories k s m (Reaction from how) = absurd how
      memories k s m (HandedOn how) = λ met. absurd (storage_apart k (sym met.to ∙ how.1))
      memories k s m (AnAnswer to of says) = λ met. absurd (no_answer_here lost t writing k s m met to)

      storage : (m : Message) → OfOpen (memory_count t.shape) t.plain m writing → StorageGives lost t writing m
      storage m (First (inl e)) = λ reaches. absurd (storage_apart cache (ap (λ (x : Message). x.to) (sym e) ∙ reaches.to))
      storage m (First (inr nobody)) = absurd nobody
      storage m (Reaction from how) = absurd how
      storage m (HandedOn how) = λ reaches. subst (StorageGives lost t writing) (sym (same_message m put_message how.0 how.1 reaches.number how.2)) put reaches
      storage m (AnAnswer to of says) = λ reaches. absurd (no_answer_there lost t writing m reaches to)

-- THE SIZE
module _ (lost : Option ℕ) (t : Track) (o : Open) (file : FileNo) (size : ℕ) where
  abbrev sizing : Open
  sizing = record o { operation = CutsFile file size }

  abbrev cache_of_it : ℕ
  cache_of_it = cache_of (memory_count t.shape) file.0

  abbrev size_message : Message
  size_message = record { from = o.by; to = memory cache_of_it; op = o.number; body = body.FileCut file size }

  abbrev cut_message : Message
  cut_message = record { from = memory cache_of_it; to = place.Storage; op = o.number; body = body.BlockCut file size o.by }

  file_dropped : (s : Mem) → MemoryGives lost t sizing cache_of_it s size_message
  file_dropped s met = cached lost t sizing cache_of_it s size_message met (without_blocks file.0 s.blocks) r
      (handed lost t sizing s cache_of_it size_message r met refl refl refl (met_id lost t sizing cache_of_it s size_message met, refl, refl)) (met_id lost t sizing cache_of_it s size_message met) refl elsewhere
      (every (λ b known. block_goes lost t sizing cache_of_it s size_message met r b (eqb_sym file.0 b.file ∙ known.1) known.0) (without_blocks file.0 s.blocks) (all_without_file _ file.0 s.blocks (met_holds lost t sizing cache_of_it s size_message met).blocks))
      (kept_same lost t sizing s cache_of_it size_message _ (record t.plain.files { files = file_cut t.plain.files file.0 size }) refl met)
    where
      r : Message
      r = record { from = memory s.id; to = place.Storage; op = o.number; body = body.BlockCut file size o.by }

      elsewhere : (b : Block) → (cache_of_it ≡ cache_of (memory_count t.shape) b.file → ⊥) → (file.0 == b.file) ≡ false
      elsewhere b other = elim (eqb_tells file.0 b.file) [
        | inl same ↦ absurd (other (ap (cache_of (memory_count t.shape)) same.1))
        | inr apart ↦ apart.0
      ]

  cut : StorageGives lost t sizing cut_message
  cut reaches = by (is_room t.disk.files (file_cut t.disk.files file.0 size))
    where
      new : changed (of_size size) file.0 t.disk.files ≡ changed (of_size size) file.0 t.plain.files
      new = changed_new (of_size size) (sized_twice size) file.0 t.disk.files t.plain.files reaches.middle.current.0.fits.0 reaches.middle.disk.files

      target : is_among place.Storage o.targets ≡ true
      target = ap (is_among place.Storage) reaches.middle.current.0.targets

      stays : (b : Block) → (file.0 == b.file) ≡ false → is_file (with_file_bytes t.disk.files.files file.0 (of_size size (file_bytes t.disk.files.files file.0))) b.file ≡ true → BlockStays t.disk.files (changed (of_size size) file.0 t.disk.files) b
      stays b still is = record {
        there = sym (with_there file.0 _ t.disk.files.files b.file) ∙ is;
        same = ap (λ (l : List ℕ). block_of l b.block) (with_other file.0 (of_size size (file_bytes t.disk.files.files file.0)) t.disk.files.files b.file differ);
      }
        where
          differ : file.0 ≡ b.file → ⊥
          differ same = let both : true ≡ false = sym (eq-eqb file.0 b.file same) ∙ still in cc both

      by : (room : Bool) → FileGives lost t sizing (cond room (tells (record t.disk { files = record t.disk.files { files = file_cut t.disk.files file.0 size } }) cut_message o.by body.Done) (tells t.disk cut_message o.by (body.Refused why.StoreFull))).0 (cond room (tells (record t.disk { files = record t.disk.files { files = file_cut t.disk.files file.0 size } }) cut_message o.by body.Done) (tells t.disk cut_message o.by (body.Refused why.StoreFull))).1
      by true = filed_one lost t sizing cut_message reaches (record t.disk.files { files = file_cut t.disk.files file.0 size }) (record { from = place.Storage; to = o.by; op = o.number; body = body.Done }) (λ j p v. refl)
          (issuer_answer lost t sizing cut_message reaches body.Done target (inl refl)) refl refl (λ b. refl) (inr new) (λ now. new) (omega arith) (λ b below still is. stays b still is)
      by false = filed_none lost t sizing cut_message reaches (record { from = place.Storage; to = o.by; op = o.number; body = body.Refused why.StoreFull }) (λ j p v. refl)
          (issuer_answer lost t sizing cut_message reaches (body.Refused why.StoreFull) target (inr (inl refl))) refl refl (λ b. refl) (λ now. cc now)

  pub cuts_file_rows : KindRows lost t sizing
  cuts_file_rows = record { at_memory = memories; at_storage = storage }
    where
      memories : (k : ℕ) (s : Mem) (m : Message) → OfOpen (memory_count t.shape) t.plain m sizing → MemoryGives lost t sizing k s m
      memories k s m (First (inl e)) = λ met. subst (λ (x : Message). MemoryGives lost t sizing k s x) (sym e) ((here lost t sizing size_message cache_of_it refl file_dropped).0 k s) met
      memories k s m (First (inr nobody)) = absurd nobody
      memories k s m (Reaction from how) = absurd how
      memories k s m (HandedOn how) = λ met. absurd (storage_apart k (sym met.to ∙ how.1))
      memories k s m (AnAnswer to of says) = λ met. absurd (no_answer_here lost t sizing k s m met to)

      storage : (m : Message) → OfOpen (memory_count t.shape) t.plain m sizing → StorageGives lost t sizing m
      storage m (First (inl e)) = λ reaches. absurd (storage_apart cache_of_it (ap (λ (x : Message). x.to) (sym e) ∙ reaches.to))
      storage m (First (inr nobody)) = absurd nobody
      storage m (Reaction from how) = absurd how
      storage m (HandedOn how) = λ reaches. subst (StorageGives lost t sizing) (sym (same_message m cut_message how.0 how.1 reaches.number how.2)) cut reaches
      storage m (AnAnswer to of says) = λ reaches. absurd (no_answer_there lost t sizing m reaches to)
