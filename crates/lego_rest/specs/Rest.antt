-- What ties the components to the plain map: at rest, and the one weaker relation at every moment.

-- AT REST

-- a memory: what it keeps for its own sake is its share of the plain map; its batch is on its way; its cached blocks are
-- the files'
use Rattle.std.specs.List.{AllByRecursion}
use Rattle.std.specs.Prelude.{◌≡◌, ◌⊎◌, ◌/◌, ◌<◌, ◌≤◌, ◌==◌, [], ℕ, List, None, Option, Some, false, length, slice_get, true}
use Rattle.lego_base.specs.Space.{perms_of}
use Rattle.lego_base.specs.declared.records.Area.{Area}
use Rattle.lego_msg.specs.Granted.{IsClear}
use Rattle.lego_msg.specs.Maps.{owner_of, page_in}
use Rattle.lego_msg.specs.Places.{secondary_of}
use Rattle.lego_msg.specs.State.{Mem}
use Rattle.lego_msg.specs.Track.{Track, healing_move, is_complete, is_crash_due, memory_count}
use Rattle.lego_msg.specs.declared.operation.Open.{Open}
use Rattle.lego_rest.specs.Answers.{all_pending, gave_answer, main_due, second_due}
use Rattle.lego_rest.specs.Fits.{BatchFits, BlockFits, LogFits, MachineFits, MemFits, OpenFits, PagesFit, PlainFits, WaiterFits}
use Rattle.lego_rest.specs.Heals.{HealFits}
use Rattle.lego_rest.specs.Parts.{Cell, Holds, main_part, new_share, old_share, second_part, sides_of}
use Rattle.lego_rest.specs.Pending.{IsUp, MayPend}
use Rattle.lego_msg.specs.declared.place.Place.TheVariants as place

pub record MemRests (t : Track) (m : ℕ) (s : Mem) : Type 0 where
  pub part : (c : Cell) → main_part s c ≡ old_share (sides_of t) m c
  pub batch : BatchFits t.net t.disk.images s
  pub blocks : AllByRecursion (BlockFits (memory_count t.shape) m t.disk.files t.net) s.blocks
  pub log : AllByRecursion (LogFits (memory_count t.shape) t.owners m) s.log

pub record DiskRests (t : Track) : Type 0 where
  pub files : t.disk.files ≡ t.plain.files
  -- an image is of a region that has an owner
  pub images : (pid vpn : ℕ) → owner_of t.owners pid (vpn / 512) ≡ None → page_in t.disk.images pid vpn ≡ None
  pub form : PagesFit t.disk.images

pub record AtRest (t : Track) : Type 0 where
  -- nothing is owed, open or healing, and nothing was refused
  pub owed : t.owed ≡ []
  pub closed : t.current ≡ None
  pub healed : t.healing ≡ None
  pub goes_on : t.stopped ≡ false
  -- the machine, the plain map and each memory are in form
  pub machine : MachineFits t.shape
  pub count : length t.mems ≡ memory_count t.shape
  pub next : 0 < t.next
  pub plain : PlainFits (memory_count t.shape) t.owners t.plain
  pub forms : (m : ℕ) (s : Mem) → slice_get t.mems m ≡ Some s → MemFits t.shape m s
  -- each memory has its share, and its secondary with storage has it once more
  pub memories : (m : ℕ) (s : Mem) → slice_get t.mems m ≡ Some s → MemRests t m s
  pub seconds : (m : ℕ) (x : Mem) → m < memory_count t.shape → slice_get t.mems (secondary_of (memory_count t.shape) m) ≡ Some x → (c : Cell) → second_part t.owners t.disk.images m x c ≡ old_share (sides_of t) m c
  pub disk : DiskRests t
  -- nothing but batches, their receipts and answers to old drains is pending; only old drains wait
  pub pending : AllByRecursion (MayPend None (memory_count t.shape) t.plain None None t.next) t.net
  pub waiting : (m : ℕ) (s : Mem) → slice_get t.mems m ≡ Some s → AllByRecursion (WaiterFits (memory_count t.shape) m t.next None None) s.drains

-- Outside a call besides: each owned region has its entry at the home of its process, and the areas of a process
-- are at most 256 runs.
pub record OutsideCalls (t : Track) : Type 0 where
  pub homes : (pid region : ℕ) → t.plain.homes pid region ≡ owner_of t.owners pid region
  pub runs : (pid : ℕ) → (areas : List Area) × (length areas ≤ 256) × ((vpn : ℕ) → perms_of areas vpn ≡ perms_of (t.plain.areas pid (vpn / 512)) vpn)

-- AT EVERY MOMENT: while an operation is open, or memory `lost` is being healed, what components hold is the old or the
-- new, cell by cell, and the new where they have answered. Of the lost memory, and of what it holds as a secondary, only
-- what its healing has done so far is said.

pub record MemHolds (t : Track) (m : ℕ) (s : Mem) : Type 0 where
  pub part : Holds (main_due t m) (main_part s) (old_share (sides_of t) m) (new_share (sides_of t) m)
  pub batch : BatchFits (all_pending t) t.disk.images s
  pub blocks : AllByRecursion (BlockFits (memory_count t.shape) m t.disk.files (all_pending t)) s.blocks
  pub log : AllByRecursion (LogFits (memory_count t.shape) t.owners m) s.log

-- the memory x, as the secondary of m
pub record SecondHolds (t : Track) (m : ℕ) (x : Mem) : Type 0 where
  pub part : Holds (second_due t (secondary_of (memory_count t.shape) m)) (second_part t.owners t.disk.images m x) (old_share (sides_of t) m) (new_share (sides_of t) m)

pub record DiskHolds (t : Track) : Type 0 where
  pub files : (t.disk.files ≡ t.plain.files) ⊎ (t.disk.files ≡ (sides_of t).new.files)
  pub told : gave_answer place.Storage (all_pending t) t.current ≡ true → t.disk.files ≡ (sides_of t).new.files
  pub images : (pid vpn : ℕ) → owner_of t.owners pid (vpn / 512) ≡ None → page_in t.disk.images pid vpn ≡ None
  pub form : PagesFit t.disk.images

-- an operation with messages unsent isn't complete, no crash is due and nothing heals
abbrev pub IsReady : Track → Open → Type 0
IsReady t o = ((length o.unsent == 0) ≡ true) ⊎ ((is_complete t.net o ≡ false) × (is_crash_due t ≡ false) × (t.healing ≡ None))

-- the open operation is in form, no log has a patch of a page that it removes or copies
abbrev pub CurrentFits : Track → Option Open → Type 0
CurrentFits t None = Unit {0}
CurrentFits t (Some o) = OpenFits (memory_count t.shape) t.owners t.plain t.next o × ((m : ℕ) (s : Mem) → slice_get t.mems m ≡ Some s → IsClear o.operation s.log) × IsReady t o

pub record Middle (lost : Option ℕ) (t : Track) : Type 0 where
  pub machine : MachineFits t.shape
  pub count : length t.mems ≡ memory_count t.shape
  pub next : 0 < t.next
  pub plain : PlainFits (memory_count t.shape) t.owners t.plain
  pub forms : (m : ℕ) (s : Mem) → slice_get t.mems m ≡ Some s → MemFits t.shape m s
  pub current : CurrentFits t t.current
  pub memories : (m : ℕ) (s : Mem) → IsUp lost m → slice_get t.mems m ≡ Some s → MemHolds t m s
  pub seconds : (m : ℕ) (x : Mem) → m < memory_count t.shape → IsUp lost (secondary_of (memory_count t.shape) m) → slice_get t.mems (secondary_of (memory_count t.shape) m) ≡ Some x → SecondHolds t m x
  pub disk : DiskHolds t
  pub pending : AllByRecursion (MayPend lost (memory_count t.shape) t.plain t.current (healing_move t.healing) t.next) (all_pending t)
  pub waiting : (m : ℕ) (s : Mem) → slice_get t.mems m ≡ Some s → AllByRecursion (WaiterFits (memory_count t.shape) m t.next t.current (healing_move t.healing)) s.drains
  pub healing : HealFits lost t t.healing
  -- what is owed is owed to something that is open or healing
  pub idle : t.current ≡ None → t.healing ≡ None → t.owed ≡ []
