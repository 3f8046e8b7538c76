-- What the components hold.
use Rattle.std.specs.Prelude.{◌+◌, [], ℕ, List}
use Rattle.lego_base.specs.declared.records.HomeEntry.{HomeEntry}
use Rattle.lego_base.specs.declared.records.PageImage.{PageImage}
use Rattle.lego_base.specs.declared.records.Patch.{Patch}
use Rattle.lego_base.specs.declared.records.SpaceAreas.{SpaceAreas}
use Rattle.lego_msg.specs.Files.{Files, no_files}
use Rattle.lego_msg.specs.declared.place.Place.{Place}
use Rattle.lego_msg.specs.declared.place.Role.{Role}
use Rattle.lego_msg.specs.declared.place.Role.TheVariants.{Main, Spare}

-- what a memory keeps in one role: the owners of regions, and the areas of regions
pub record Kept : Type 0 where
  pub homes : List HomeEntry
  pub areas : List SpaceAreas

abbrev pub none_kept : Kept
none_kept = record { homes = []; areas = [] }

-- a drain that waits for its answer: who sent it, and its operation's number
pub record Waiter : Type 0 where
  pub place : Place
  pub op : ℕ

-- a block of a file in a cache
pub record Block : Type 0 where
  pub file : ℕ
  pub block : ℕ
  pub bytes : List ℕ

pub record Mem : Type 0 where
  -- its number, and how much it may hold: pages, patches and blocks. These never change.
  pub id : ℕ
  pub frames : ℕ
  pub log_room : ℕ
  pub cache_room : ℕ
  -- how often it crashed
  pub inc : ℕ
  -- for itself, and for the memory whose secondary it is
  pub main : Kept
  pub spare : Kept
  -- the present pages
  pub pages : List PageImage
  -- the log for the memory whose secondary it is, oldest first
  pub log : List Patch
  -- how many first patches of the log are in the batch that is on its way to storage: 0 where none is
  pub out : ℕ
  -- the drains that wait, oldest first
  pub drains : List Waiter
  -- the cached blocks, newest first
  pub blocks : List Block

-- a memory before it got a message
abbrev pub empty_mem : ℕ → ℕ → ℕ → ℕ → ℕ → Mem
empty_mem id frames log_room cache_room inc = record {
  id = id;
  frames = frames;
  log_room = log_room;
  cache_room = cache_room;
  inc = inc;
  main = none_kept;
  spare = none_kept;
  pages = [];
  log = [];
  out = 0;
  drains = [];
  blocks = [];
}

-- a memory after a crash: it holds nothing, and its incarnation is one higher
abbrev pub lost : Mem → Mem
lost s = empty_mem s.id s.frames s.log_room s.cache_room (s.inc + 1)

abbrev pub kept : Mem → Role → Kept
kept s Main = s.main
kept s Spare = s.spare

abbrev pub with_kept : Mem → Role → Kept → Mem
with_kept s Main k = record s { main = k }
with_kept s Spare k = record s { spare = k }

-- storage: the images of pages, and the files
pub record Disk : Type 0 where
  pub images : List PageImage
  pub files : Files

abbrev pub empty_disk : ℕ → Disk
empty_disk blocks = record { images = []; files = no_files blocks }
