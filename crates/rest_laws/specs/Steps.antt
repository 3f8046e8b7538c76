-- What a step changes of a track whose plain map and owners stay, and what is owed of it so that the relation is kept: of a
-- step that changes no component, of one that changes a memory, and of one that changes storage. Nothing here asks which
-- kind of operation is open, or whether a memory is lost.
use Rattle.std.specs.List.{AllByRecursion, list_any}
use Rattle.std.specs.Prelude.{◌≡◌, ◌⊎◌, ◌/◌, ◌<◌, [], ◌++◌, ℕ, Bool, List, None, Option, Some, false, slice_get, slice_set, true}
use Rattle.lego_msg.specs.Maps.{owner_of, page_in}
use Rattle.lego_msg.specs.Marks.{Mark}
use Rattle.lego_msg.specs.Places.{cache_of, memory, same_place, secondary_of}
use Rattle.lego_msg.specs.State.{Block, Disk, Mem}
use Rattle.lego_msg.specs.Track.{Caches, Track, healing_move, memory_count}
use Rattle.lego_msg.specs.declared.clock.Clock.{Clock}
use Rattle.lego_msg.specs.declared.healing.Healing.{Healing}
use Rattle.lego_msg.specs.declared.message.Message.{Message}
use Rattle.lego_msg.specs.declared.operation.Open.{Open}
use Rattle.lego_msg.specs.declared.place.Place.{Place}
use Rattle.lego_rest.specs.Answers.{all_pending, gave_answer, images_due, second_due}
use Rattle.lego_rest.specs.Fits.{BatchFits, BlockFits, LogFits, MemFits, PagesFit, WaiterFits, background, changes_block}
use Rattle.lego_rest.specs.Heals.{HealFits}
use Rattle.lego_rest.specs.Parts.{Cell, main_part, new_share, plain_with, second_part, sides_of}
use Rattle.lego_rest.specs.Pending.{IsUp, MayPend}
use Rattle.lego_rest.specs.Rest.{CurrentFits, Middle}
use Rattle.rest_laws.specs.Moves.{Moves}
use Rattle.lego_msg.specs.declared.place.Place.TheVariants as place

-- what is pending, open and due after a step
pub record Moment : Type 0 where
  pub net : List Message
  pub owed : List Message
  pub delivered : ℕ
  pub next : ℕ
  pub current : Option Open
  pub healing : Option Healing
  pub clock : Clock
  pub stopped : Bool
  pub caches : Caches
  pub due : List Mark

abbrev pub pending_in : Moment → List Message
pending_in y = y.net ++ y.owed

-- the track after a step that led to these memories, this storage and this moment
abbrev pub stepped : Track → List Mem → Disk → Moment → Track
stepped t mems disk y = record t {
  mems = mems;
  disk = disk;
  net = y.net;
  owed = y.owed;
  delivered = y.delivered;
  next = y.next;
  current = y.current;
  healing = y.healing;
  clock = y.clock;
  stopped = y.stopped;
  caches = y.caches;
  due = y.due;
}

-- OF EVERY STEP: the same plain map is to be reached, and what is open, pending and healing is in form
pub record Goes (lost : Option ℕ) (t : Track) (mems : List Mem) (disk : Disk) (y : Moment) : Type 0 where
  pub plain : plain_with y.current t.plain ≡ plain_with t.current t.plain
  pub next : 0 < y.next
  pub current : CurrentFits (stepped t mems disk y) y.current
  pub pending : AllByRecursion (MayPend lost (memory_count t.shape) t.plain y.current (healing_move y.healing) y.next) (pending_in y)
  pub waiting : (m : ℕ) (s : Mem) → slice_get mems m ≡ Some s → AllByRecursion (WaiterFits (memory_count t.shape) m y.next y.current (healing_move y.healing)) s.drains
  pub healing : HealFits lost (stepped t mems disk y) y.healing
  pub idle : y.current ≡ None → y.healing ≡ None → y.owed ≡ []

-- a place is taken to have answered only where it had before
abbrev pub NoNewAnswer : Track → Moment → Place → Type 0
NoNewAnswer t y p = gave_answer p (pending_in y) y.current ≡ true → gave_answer p (all_pending t) t.current ≡ true

-- the images and the log of a secondary are due to be the new ones only where they were before
abbrev pub NoNewImages : Track → List Mem → Disk → Moment → ℕ → Type 0
NoNewImages t mems disk y k = images_due (stepped t mems disk y) k ≡ true → images_due t k ≡ true

-- a memory's batch and receipt are pending as before
abbrev pub SameBackground : Track → Moment → ℕ → Type 0
SameBackground t y m = background m (pending_in y) ≡ background m (all_pending t)

-- nothing new is on its way that changes a block
abbrev pub NoNewChange : Track → Moment → Type 0
NoNewChange t y = (b : Block) → list_any (λ (m : Message). changes_block b m.body) (all_pending t) ≡ false → list_any (λ (m : Message). changes_block b m.body) (pending_in y) ≡ false

-- A STEP THAT CHANGES NO COMPONENT: what is pending or open changes
pub record Shift (lost : Option ℕ) (t : Track) (y : Moment) : Type 0 where
  pub goes : Goes lost t t.mems t.disk y
  pub answered : (p : Place) → NoNewAnswer t y p
  pub images : (k : ℕ) → NoNewImages t t.mems t.disk y k
  pub batches : (m : ℕ) → SameBackground t y m
  pub changes : NoNewChange t y

abbrev pub ShiftKeeps : Type 0
ShiftKeeps = (lost : Option ℕ) (t : Track) (y : Moment) → Shift lost t y → Middle lost t → Middle lost (stepped t t.mems t.disk y)

-- A STEP THAT CHANGES A MEMORY k, which was s and is s'. What it keeps is said where it isn't the lost one.
pub record Holding (lost : Option ℕ) (t : Track) (k : ℕ) (s s' : Mem) (y : Moment) : Type 0 where
  -- its cells stay or become the new ones, for its own sake and as the secondary of j
  pub main : Moves (main_part s) (main_part s') (new_share (sides_of t) k)
  pub told : gave_answer (memory k) (pending_in y) y.current ≡ true → (gave_answer (memory k) (all_pending t) t.current ≡ true) ⊎ ((c : Cell) → main_part s' c ≡ new_share (sides_of t) k c)
  pub second : (j : ℕ) → j < memory_count t.shape → secondary_of (memory_count t.shape) j ≡ k → Moves (second_part t.owners t.disk.images j s) (second_part t.owners t.disk.images j s') (new_share (sides_of t) j)
  pub second_told : (j : ℕ) → j < memory_count t.shape → secondary_of (memory_count t.shape) j ≡ k → (c : Cell) → second_due (stepped t (slice_set t.mems k s') t.disk y) k c ≡ true → (second_due t k c ≡ true) ⊎ (second_part t.owners t.disk.images j s' c ≡ new_share (sides_of t) j c)
  pub batch : BatchFits (pending_in y) t.disk.images s'
  pub blocks : AllByRecursion (BlockFits (memory_count t.shape) k t.disk.files (pending_in y)) s'.blocks
  pub log : AllByRecursion (LogFits (memory_count t.shape) t.owners k) s'.log

pub record Row (lost : Option ℕ) (t : Track) (k : ℕ) (s s' : Mem) (y : Moment) : Type 0 where
  pub goes : Goes lost t (slice_set t.mems k s') t.disk y
  pub fits : MemFits t.shape k s'
  pub holding : IsUp lost k → Holding lost t k s s' y
  -- of all others
  pub answered : (p : Place) → same_place p (memory k) ≡ false → NoNewAnswer t y p
  pub images : (j : ℕ) → (k ≡ j → ⊥) → NoNewImages t (slice_set t.mems k s') t.disk y j
  pub batches : (m : ℕ) → (k ≡ m → ⊥) → SameBackground t y m
  -- what is on its way now may change blocks that k itself caches
  pub changes : (b : Block) → (k ≡ cache_of (memory_count t.shape) b.file → ⊥) → list_any (λ (m : Message). changes_block b m.body) (all_pending t) ≡ false → list_any (λ (m : Message). changes_block b m.body) (pending_in y) ≡ false

abbrev pub RowKeeps : Type 0
RowKeeps = (lost : Option ℕ) (t : Track) (k : ℕ) (s s' : Mem) (y : Moment) → slice_get t.mems k ≡ Some s → Row lost t k s s' y → Middle lost t → Middle lost (stepped t (slice_set t.mems k s') t.disk y)

-- A STEP THAT CHANGES STORAGE, which becomes d
pub record Storing (lost : Option ℕ) (t : Track) (d : Disk) (y : Moment) : Type 0 where
  pub goes : Goes lost t t.mems d y
  -- what a secondary x of j has with the images stays or becomes the new one, cell by cell
  pub second : (j : ℕ) (x : Mem) → j < memory_count t.shape → IsUp lost (secondary_of (memory_count t.shape) j) → slice_get t.mems (secondary_of (memory_count t.shape) j) ≡ Some x → Moves (second_part t.owners t.disk.images j x) (second_part t.owners d.images j x) (new_share (sides_of t) j)
  pub second_told : (j : ℕ) (x : Mem) → j < memory_count t.shape → IsUp lost (secondary_of (memory_count t.shape) j) → slice_get t.mems (secondary_of (memory_count t.shape) j) ≡ Some x → (c : Cell) → second_due (stepped t t.mems d y) (secondary_of (memory_count t.shape) j) c ≡ true → (second_due t (secondary_of (memory_count t.shape) j) c ≡ true) ⊎ (second_part t.owners d.images j x c ≡ new_share (sides_of t) j c)
  pub batches : (m : ℕ) (s : Mem) → IsUp lost m → slice_get t.mems m ≡ Some s → BatchFits (pending_in y) d.images s
  pub blocks : (m : ℕ) (s : Mem) → IsUp lost m → slice_get t.mems m ≡ Some s → AllByRecursion (BlockFits (memory_count t.shape) m d.files (pending_in y)) s.blocks
  -- the files stay or become the new ones
  pub files : (d.files ≡ t.disk.files) ⊎ (d.files ≡ (sides_of t).new.files)
  pub told : gave_answer place.Storage (pending_in y) y.current ≡ true → (gave_answer place.Storage (all_pending t) t.current ≡ true) ⊎ (d.files ≡ (sides_of t).new.files)
  pub images : (pid vpn : ℕ) → owner_of t.owners pid (vpn / 512) ≡ None → page_in d.images pid vpn ≡ None
  pub form : PagesFit d.images
  -- of all others
  pub answered : (p : Place) → same_place p place.Storage ≡ false → NoNewAnswer t y p

abbrev pub StoringKeeps : Type 0
StoringKeeps = (lost : Option ℕ) (t : Track) (d : Disk) (y : Moment) → Storing lost t d y → Middle lost t → Middle lost (stepped t t.mems d y)
