-- Steps that change no component, a memory, or storage keep the relation.
use Rattle.std.proofs.Common.{◌≡◌, ◌⊎◌, ◌<◌, [], ◌∷◌, ◌∙◌, ℕ, Bool, List, Option, Some, ap, eqb, false, inl, inr, length, refl, slice_get, subst, suc, sym, take, true, zero}
use Rattle.std.proofs.lemmas.Bool.{eqb-true}
use Rattle.std.proofs.lemmas.Bool.Decides.{eqb_tells}
use Rattle.std.specs.List.{AllByRecursion, list_any}
use Rattle.std.specs.Prelude.{slice_set}
use Rattle.lego_base.specs.declared.records.PageImage.{PageImage}
use Rattle.lego_msg.proofs.Senders.{get_set, get_set_other, same_some}
use Rattle.lego_msg.specs.Places.{cache_of, memory, same_place, secondary_of}
use Rattle.lego_msg.specs.Plain.{Plain}
use Rattle.lego_msg.specs.State.{Block, Disk, Mem}
use Rattle.lego_msg.specs.Track.{Track, memory_count}
use Rattle.lego_msg.specs.declared.message.Message.{Message}
use Rattle.lego_rest.specs.Answers.{all_pending, gave_answer, main_due, second_due}
use Rattle.lego_rest.specs.Fits.{BatchFits, BlockFits, HasBatch, MemFits, background, batch_message, changes_block, receipt}
use Rattle.lego_rest.specs.Parts.{Areas, Cell, Held, Holds, Home, Page, main_part, new_share, old_share, second_part, share, sides_of}
use Rattle.lego_rest.specs.Pending.{IsUp}
use Rattle.lego_rest.specs.Rest.{DiskHolds, MemHolds, Middle, SecondHolds}
use Rattle.rest_laws.proofs.Moving.{holds-move}
use Rattle.rest_laws.proofs.Opened.{every}
use Rattle.rest_laws.specs.Moves.{Moves}
use Rattle.rest_laws.specs.Steps.{Goes, Moment, NoNewAnswer, NoNewImages, Row, RowKeeps, ShiftKeeps, Storing, StoringKeeps, pending_in, stepped}
use Rattle.lego_msg.specs.declared.place.Place.TheVariants as place

pub set_length : {X : Type 0} (xs : List X) (i : ℕ) (x : X) → length (slice_set xs i x) ≡ length xs
set_length [] i x = refl
set_length (y ∷ ys) zero x = refl
set_length (y ∷ ys) (suc i) x = ap suc (set_length ys i x)

-- WHAT STAYS

-- a batch is on its way as before
pub batch_stays : (before later : List Message) (images : List PageImage) (x : Mem) → background x.id later ≡ background x.id before → BatchFits before images x → BatchFits later images x
batch_stays before later images x same fits = record {
  none = λ out. same ∙ fits.none out;
  once = λ some. by (fits.once some);
  within = fits.within;
  waits = fits.waits;
}
  where
    by : (background x.id before ≡ batch_message x ∷ []) ⊎ ((background x.id before ≡ receipt x ∷ []) × HasBatch images (take x.out x.log)) → (background x.id later ≡ batch_message x ∷ []) ⊎ ((background x.id later ≡ receipt x ∷ []) × HasBatch images (take x.out x.log))
    by (inl e) = inl (same ∙ e)
    by (inr e) = inr (same ∙ e.0, e.1)

-- THE SAME TWO SIDES before a step and after it
module _ (lost : Option ℕ) (t : Track) (mems : List Mem) (disk : Disk) (y : Moment) (goes : Goes lost t mems disk y) where
  same_sides : (due : Cell → Bool) (part : (c : Cell) → Held c) (m : ℕ) → Holds due part (old_share (sides_of t) m) (new_share (sides_of t) m) → Holds due part (old_share (sides_of (stepped t mems disk y)) m) (new_share (sides_of (stepped t mems disk y)) m)
  same_sides due part m holds = subst (λ (f : Plain). Holds due part (old_share (sides_of t) m) (λ (c : Cell). share (memory_count t.shape) t.owners f m c)) (sym goes.plain) holds

  -- the cells that a memory keeps for its own sake
  pub own : (m : ℕ) (s s' : Mem) → Moves (main_part s) (main_part s') (new_share (sides_of t) m) → (gave_answer (memory m) (pending_in y) y.current ≡ true → (gave_answer (memory m) (all_pending t) t.current ≡ true) ⊎ ((c : Cell) → main_part s' c ≡ new_share (sides_of t) m c)) → Holds (main_due t m) (main_part s) (old_share (sides_of t) m) (new_share (sides_of t) m) → Holds (main_due (stepped t mems disk y) m) (main_part s') (old_share (sides_of (stepped t mems disk y)) m) (new_share (sides_of (stepped t mems disk y)) m)
  own m s s' moves told holds = same_sides (main_due (stepped t mems disk y) m) (main_part s') m (holds-move (main_due t m) (main_due (stepped t mems disk y) m) (main_part s) (main_part s') (old_share (sides_of t) m) (new_share (sides_of t) m) moves later holds)
    where
      later : (c : Cell) → main_due (stepped t mems disk y) m c ≡ true → (main_due t m c ≡ true) ⊎ (main_part s' c ≡ new_share (sides_of t) m c)
      later c is = by (told is)
        where
          by : (gave_answer (memory m) (all_pending t) t.current ≡ true) ⊎ ((c : Cell) → main_part s' c ≡ new_share (sides_of t) m c) → (main_due t m c ≡ true) ⊎ (main_part s' c ≡ new_share (sides_of t) m c)
          by (inl before) = inl before
          by (inr new) = inr (new c)

  -- and those that a secondary k has of j
  pub seconded : (j k : ℕ) (part part' : (c : Cell) → Held c) → Moves part part' (new_share (sides_of t) j) → ((c : Cell) → second_due (stepped t mems disk y) k c ≡ true → (second_due t k c ≡ true) ⊎ (part' c ≡ new_share (sides_of t) j c)) → Holds (second_due t k) part (old_share (sides_of t) j) (new_share (sides_of t) j) → Holds (second_due (stepped t mems disk y) k) part' (old_share (sides_of (stepped t mems disk y)) j) (new_share (sides_of (stepped t mems disk y)) j)
  seconded j k part part' moves later holds = same_sides (second_due (stepped t mems disk y) k) part' j (holds-move (second_due t k) (second_due (stepped t mems disk y) k) part part' (old_share (sides_of t) j) (new_share (sides_of t) j) moves later holds)

  -- a secondary that answered nothing new is due what it was due before
  due_before : (k : ℕ) → NoNewAnswer t y (memory k) → NoNewImages t mems disk y k → (c : Cell) → second_due (stepped t mems disk y) k c ≡ true → second_due t k c ≡ true
  due_before k answered images (Home pid region) is = answered is
  due_before k answered images (Areas pid region) is = answered is
  due_before k answered images (Page pid vpn) is = images is

  blocks_stay : (n m : ℕ) (s : Mem) → ((b : Block) → cache_of n b.file ≡ m → list_any (λ (m : Message). changes_block b m.body) (all_pending t) ≡ false → list_any (λ (m : Message). changes_block b m.body) (pending_in y) ≡ false) → AllByRecursion (BlockFits n m t.disk.files (all_pending t)) s.blocks → AllByRecursion (BlockFits n m t.disk.files (pending_in y)) s.blocks
  blocks_stay n m s changes fits = every (λ b fit. record { place = fit.place; below = fit.below; same = fit.same; still = changes b fit.place fit.still }) s.blocks fits

-- storage, where a step doesn't change it
pub disk_stays : (lost : Option ℕ) (t : Track) (mems : List Mem) (y : Moment) → Goes lost t mems t.disk y → NoNewAnswer t y place.Storage → DiskHolds t → DiskHolds (stepped t mems t.disk y)
disk_stays lost t mems y goes answered holds = record {
  files = by holds.files;
  told = λ is. holds.told (answered is) ∙ same;
  images = holds.images;
  form = holds.form;
}
  where
    same : (sides_of t).new.files ≡ (sides_of (stepped t mems t.disk y)).new.files
    same = ap (λ (f : Plain). f.files) (sym goes.plain)

    by : (t.disk.files ≡ t.plain.files) ⊎ (t.disk.files ≡ (sides_of t).new.files) → (t.disk.files ≡ t.plain.files) ⊎ (t.disk.files ≡ (sides_of (stepped t mems t.disk y)).new.files)
    by (inl e) = inl e
    by (inr e) = inr (e ∙ same)

-- a memory, where a step doesn't change it
pub mem_stays : (lost : Option ℕ) (t : Track) (mems : List Mem) (y : Moment) → Goes lost t mems t.disk y → (m : ℕ) (s : Mem) → NoNewAnswer t y (memory m) → background s.id (pending_in y) ≡ background s.id (all_pending t) → ((b : Block) → cache_of (memory_count t.shape) b.file ≡ m → list_any (λ (m : Message). changes_block b m.body) (all_pending t) ≡ false → list_any (λ (m : Message). changes_block b m.body) (pending_in y) ≡ false) → MemHolds t m s → MemHolds (stepped t mems t.disk y) m s
mem_stays lost t mems y goes m s answered batch changes holds = record {
  part = own lost t mems t.disk y goes m s s (λ c. inl refl) (λ is. inl (answered is)) holds.part;
  batch = batch_stays (all_pending t) (pending_in y) t.disk.images s batch holds.batch;
  blocks = blocks_stay lost t mems t.disk y goes (memory_count t.shape) m s changes holds.blocks;
  log = holds.log;
}

second_stays : (lost : Option ℕ) (t : Track) (mems : List Mem) (y : Moment) → Goes lost t mems t.disk y → (j : ℕ) (x : Mem) → NoNewAnswer t y (memory (secondary_of (memory_count t.shape) j)) → NoNewImages t mems t.disk y (secondary_of (memory_count t.shape) j) → SecondHolds t j x → SecondHolds (stepped t mems t.disk y) j x
second_stays lost t mems y goes j x answered images holds = record {
  part = seconded lost t mems t.disk y goes j (secondary_of (memory_count t.shape) j) (second_part t.owners t.disk.images j x) (second_part t.owners t.disk.images j x) (λ c. inl refl) (λ c is. inl (due_before lost t mems t.disk y goes (secondary_of (memory_count t.shape) j) answered images c is)) holds.part;
}

pub shift-keeps : ShiftKeeps
shift-keeps lost t y shift middle =
    let goes = shift.goes in
    record {
      machine = middle.machine;
      count = middle.count;
      next = goes.next;
      plain = middle.plain;
      forms = middle.forms;
      current = goes.current;
      memories = λ m s up at. mem_stays lost t t.mems y goes m s (shift.answered (memory m)) (shift.batches s.id) (λ b place. shift.changes b) (middle.memories m s up at);
      seconds = λ j x below up at. second_stays lost t t.mems y goes j x (shift.answered (memory (secondary_of (memory_count t.shape) j))) (shift.images (secondary_of (memory_count t.shape) j)) (middle.seconds j x below up at);
      disk = disk_stays lost t t.mems y goes (shift.answered place.Storage) middle.disk;
      pending = goes.pending;
      waiting = goes.waiting;
      healing = goes.healing;
      idle = goes.idle;
    }

-- A MEMORY k BECOMES s'

apart_places : (k m : ℕ) → (k ≡ m → ⊥) → same_place (memory m) (memory k) ≡ false
apart_places k m differ = by (eqb m k) refl
  where
    by : (b : Bool) → eqb m k ≡ b → b ≡ false
    by true e = absurd (differ (sym (eqb-true m k e)))
    by false e = refl

module _ (lost : Option ℕ) (t : Track) (k : ℕ) (s s' : Mem) (y : Moment) (at_k : slice_get t.mems k ≡ Some s) (row : Row lost t k s s' y) (middle : Middle lost t) where
  is_new : (m : ℕ) (x : Mem) → k ≡ m → slice_get (slice_set t.mems k s') m ≡ Some x → s' ≡ x
  is_new m x same at = same_some s' x (sym (get_set t.mems k s s' at_k) ∙ ap (slice_get (slice_set t.mems k s')) same ∙ at)

  is_old : (m : ℕ) (x : Mem) → (k ≡ m → ⊥) → slice_get (slice_set t.mems k s') m ≡ Some x → slice_get t.mems m ≡ Some x
  is_old m x differ at = sym (get_set_other t.mems k m s' differ) ∙ at

  -- what is shown of k with s', and of each other memory as it is
  at_each : (P : ℕ → Mem → Type 0) (m : ℕ) (x : Mem) → slice_get (slice_set t.mems k s') m ≡ Some x → (k ≡ m → P k s') → ((k ≡ m → ⊥) → slice_get t.mems m ≡ Some x → P m x) → P m x
  at_each P m x at mine other = elim (eqb_tells k m) [
    | inl e ↦ subst (λ (p : ℕ × Mem). P p.0 p.1) (λ i. (e.1 i, is_new m x e.1 at i)) (mine e.1)
    | inr e ↦ other e.1 (is_old m x e.1 at)
  ]

  fits_new : (m : ℕ) (x : Mem) → slice_get (slice_set t.mems k s') m ≡ Some x → MemFits t.shape m x
  fits_new m x at = at_each (MemFits t.shape) m x at (λ same. row.fits) (λ differ was. middle.forms m x was)

  holds_new : (m : ℕ) (x : Mem) → IsUp lost m → slice_get (slice_set t.mems k s') m ≡ Some x → MemHolds (stepped t (slice_set t.mems k s') t.disk y) m x
  holds_new m x up at = at_each (MemHolds (stepped t (slice_set t.mems k s') t.disk y)) m x at mine other
    where
      mine : k ≡ m → MemHolds (stepped t (slice_set t.mems k s') t.disk y) k s'
      mine same =
          let up_k : IsUp lost k = subst (IsUp lost) (sym same) up in
          let holding = row.holding up_k in
          record {
            part = own lost t (slice_set t.mems k s') t.disk y row.goes k s s' holding.main holding.told (middle.memories k s up_k at_k).part;
            batch = holding.batch;
            blocks = holding.blocks;
            log = holding.log;
          }

      other : (k ≡ m → ⊥) → slice_get t.mems m ≡ Some x → MemHolds (stepped t (slice_set t.mems k s') t.disk y) m x
      other differ was =
          let id : x.id ≡ m = (middle.forms m x was).id in
          let batch : background x.id (pending_in y) ≡ background x.id (all_pending t) = row.batches x.id (λ same. differ (same ∙ id)) in
          mem_stays lost t (slice_set t.mems k s') y row.goes m x (row.answered (memory m) (apart_places k m differ)) batch (λ b place. row.changes b (λ same. differ (same ∙ place))) (middle.memories m x up was)

  seconds_new : (j : ℕ) (x : Mem) → j < memory_count t.shape → IsUp lost (secondary_of (memory_count t.shape) j) → slice_get (slice_set t.mems k s') (secondary_of (memory_count t.shape) j) ≡ Some x → SecondHolds (stepped t (slice_set t.mems k s') t.disk y) j x
  seconds_new j x below up at = at_each (λ (m : ℕ) (x : Mem). SecondHolds (stepped t (slice_set t.mems k s') t.disk y) j x) (secondary_of (memory_count t.shape) j) x at mine other
    where
      mine : k ≡ secondary_of (memory_count t.shape) j → SecondHolds (stepped t (slice_set t.mems k s') t.disk y) j s'
      mine same =
          let up_k : IsUp lost k = subst (IsUp lost) (sym same) up in
          let holding = row.holding up_k in
          let was = middle.seconds j s below up (ap (slice_get t.mems) (sym same) ∙ at_k) in
          let later : (c : Cell) → second_due (stepped t (slice_set t.mems k s') t.disk y) (secondary_of (memory_count t.shape) j) c ≡ true → (second_due t (secondary_of (memory_count t.shape) j) c ≡ true) ⊎ (second_part t.owners t.disk.images j s' c ≡ new_share (sides_of t) j c) =
          λ c is. subst (λ (q : ℕ). (second_due t q c ≡ true) ⊎ (second_part t.owners t.disk.images j s' c ≡ new_share (sides_of t) j c)) same (holding.second_told j below (sym same) c (subst (λ (q : ℕ). second_due (stepped t (slice_set t.mems k s') t.disk y) q c ≡ true) (sym same) is)) in
          record { part = seconded lost t (slice_set t.mems k s') t.disk y row.goes j (secondary_of (memory_count t.shape) j) (second_part t.owners t.disk.images j s) (second_part t.owners t.disk.images j s') (holding.second j below (sym same)) later was.part }

      other : (k ≡ secondary_of (memory_count t.shape) j → ⊥) → slice_get t.mems (secondary_of (memory_count t.shape) j) ≡ Some x → SecondHolds (stepped t (slice_set t.mems k s') t.disk y) j x
      other differ was = second_stays lost t (slice_set t.mems k s') y row.goes j x (row.answered (memory (secondary_of (memory_count t.shape) j)) (apart_places k (secondary_of (memory_count t.shape) j) differ)) (row.images (secondary_of (memory_count t.shape) j) differ) (middle.seconds j x below up was)

pub row-keeps : RowKeeps
row-keeps lost t k s s' y at_k row middle =
    let goes = row.goes in
    record {
      machine = middle.machine;
      count = set_length t.mems k s' ∙ middle.count;
      next = goes.next;
      plain = middle.plain;
      forms = fits_new lost t k s s' y at_k row middle;
      current = goes.current;
      memories = holds_new lost t k s s' y at_k row middle;
      seconds = seconds_new lost t k s s' y at_k row middle;
      disk = disk_stays lost t (slice_set t.mems k s') y goes (row.answered place.Storage refl) middle.disk;
      pending = goes.pending;
      waiting = goes.waiting;
      healing = goes.healing;
      idle = goes.idle;
    }

-- STORAGE BECOMES d

module _ (lost : Option ℕ) (t : Track) (d : Disk) (y : Moment) (storing : Storing lost t d y) (middle : Middle lost t) where
  still_same : (sides_of t).new.files ≡ (sides_of (stepped t t.mems d y)).new.files
  still_same = ap (λ (f : Plain). f.files) (sym storing.goes.plain)

  disk_new : DiskHolds (stepped t t.mems d y)
  disk_new = record {
    files = files storing.files middle.disk.files;
    told = told;
    images = storing.images;
    form = storing.form;
  }
    where
      files : (d.files ≡ t.disk.files) ⊎ (d.files ≡ (sides_of t).new.files) → (t.disk.files ≡ t.plain.files) ⊎ (t.disk.files ≡ (sides_of t).new.files) → (d.files ≡ t.plain.files) ⊎ (d.files ≡ (sides_of (stepped t t.mems d y)).new.files)
      files (inr e) was = inr (e ∙ still_same)
      files (inl e) (inl was) = inl (e ∙ was)
      files (inl e) (inr was) = inr (e ∙ was ∙ still_same)

      told : gave_answer place.Storage (pending_in y) y.current ≡ true → d.files ≡ (sides_of (stepped t t.mems d y)).new.files
      told is = by (storing.told is) storing.files ∙ still_same
        where
          by : (gave_answer place.Storage (all_pending t) t.current ≡ true) ⊎ (d.files ≡ (sides_of t).new.files) → (d.files ≡ t.disk.files) ⊎ (d.files ≡ (sides_of t).new.files) → d.files ≡ (sides_of t).new.files
          by (inr e) files = e
          by (inl before) (inr e) = e
          by (inl before) (inl e) = e ∙ middle.disk.told before

pub storing-keeps : StoringKeeps
storing-keeps lost t d y storing middle =
    let goes = storing.goes in
    record {
      machine = middle.machine;
      count = middle.count;
      next = goes.next;
      plain = middle.plain;
      forms = middle.forms;
      current = goes.current;
      memories = λ m s up at.
          let was = middle.memories m s up at in
          record {
            part = own lost t t.mems d y goes m s s (λ c. inl refl) (λ is. inl (storing.answered (memory m) refl is)) was.part;
            batch = storing.batches m s up at;
            blocks = storing.blocks m s up at;
            log = was.log;
          };
      seconds = λ j x below up at. record {
        part = seconded lost t t.mems d y goes j (secondary_of (memory_count t.shape) j) (second_part t.owners t.disk.images j x) (second_part t.owners d.images j x) (storing.second j x below up at) (storing.second_told j x below up at) (middle.seconds j x below up at).part;
      };
      disk = disk_new lost t d y storing middle;
      pending = goes.pending;
      waiting = goes.waiting;
      healing = goes.healing;
      idle = goes.idle;
    }
