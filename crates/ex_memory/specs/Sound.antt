-- What holds of the processors and the cluster between calls, until the cluster keeps a halt.
use Rattle.std.specs.List.{AllByRecursion}
use Rattle.std.specs.Prelude.{◌≡◌, ◌*◌, ◌/◌, ◌%◌, ◌<◌, ◌≤◌, [], ◌∷◌, ℕ, List, None, Some, false, length, slice_get, true}
use Rattle.lego_base.specs.Files.{File, is_file}
use Rattle.lego_base.specs.Keys.{Key}
use Rattle.lego_base.specs.Pieces.{piece}
use Rattle.lego_base.specs.Space.{perms_of}
use Rattle.lego_base.specs.declared.ids.MemId.{MemId}
use Rattle.lego_base.specs.declared.sizes.TheConstants.{LONGEST_FILE, PAGES_END, USER_END}
use Rattle.area_list.specs.declared.TheConstants.{MOST_RUNS}
use Rattle.lego_msg.specs.Maps.{bytes_or_zeros, owner_of}
use Rattle.lego_msg.specs.Places.{is_issuer}
use Rattle.lego_msg.specs.Plain.{IsMapped}
use Rattle.lego_msg.specs.Track.{memory_count}
use Rattle.line_cache.specs.Cached.{Cached}
use Rattle.line_cache.specs.Counting.{in_64_bits}
use Rattle.line_cache.specs.declared.line.Line.{Line}
use Rattle.cluster.specs.Standing.{StandsFor}
use Rattle.ex_memory.specs.Kept.{Tidy, is_dirty_for, kept_for}
use Rattle.ex_memory.specs.Seen.{cpu_of, space_of}
use Rattle.ex_memory.specs.Split.{Split, plain_of}

-- no file is too long, and none is listed twice
abbrev pub FilesFit : List File → Type 0
FilesFit [] = Unit {0}
FilesFit (f ∷ files) = (length f.bytes ≤ LONGEST_FILE) × (is_file files f.file ≡ false) × FilesFit files

-- A line that a cache keeps is of a process of its processor and of user addresses. Its page is mapped with the permissions
-- that are kept, its region's owner is the one that is kept, and where it is clean its bytes are the cluster's.
pub record LineFits (m : Split) (cpu : ℕ) (c : Cached) (x : Key) (line : Line) : Type 0 where
  pub here : cpu_of m x.pid ≡ cpu
  pub user : x.number * 64 < USER_END
  pub owned : owner_of m.whole.table.owners x.pid (x.number / 32768) ≡ Some line.owner
  pub mapped : perms_of ((plain_of m.whole).areas x.pid (x.number / 32768)) (x.number / 64) ≡ Some line.perms
  pub whole : length line.bytes ≡ 64
  pub clean : is_dirty_for x c ≡ false → line.bytes ≡ piece (bytes_or_zeros ((plain_of m.whole).page x.pid (x.number / 64))) (x.number % 64 * 64) 64

-- its counts are what 64 bits keep
pub record CacheFits (m : Split) (cpu : ℕ) (c : Cached) : Type 0 where
  pub tidy : Tidy c
  pub counts : c.counts ≡ in_64_bits c.counts
  pub lines : (x : Key) (line : Line) → kept_for x c ≡ Some line → LineFits m cpu c x line

pub record Sound (m : Split) : Type 0 where
  -- the cluster is at rest, each owned region is known at the home of its process, and new owners will be there
  pub rests : StandsFor m.whole (plain_of m.whole)
  pub homes : (pid region : ℕ) → (plain_of m.whole).homes pid region ≡ owner_of m.whole.table.owners pid region
  pub placed : AllByRecursion (λ (o : MemId). o.0 < memory_count m.whole.shape) m.whole.table.placement
  -- what is mapped is user addresses; the areas of each process are few
  pub user : (pid vpn : ℕ) → IsMapped (plain_of m.whole) pid vpn → vpn < PAGES_END
  pub runs : (pid : ℕ) → length (space_of m pid).areas ≤ MOST_RUNS
  pub files : FilesFit m.whole.disk.files.files
  -- one cache a processor, as it must be
  pub some : 0 < m.whole.shape.processors
  pub count : length m.caches ≡ m.whole.shape.processors
  pub caches : (cpu : ℕ) (c : Cached) → slice_get m.caches cpu ≡ Some c → CacheFits m cpu c

-- WHAT HOLDS BETWEEN CALLS: there is somebody who may issue operations, and until a halt is kept all of it is sound
pub record InOrder (m : Split) : Type 0 where
  pub issuer : is_issuer m.by ≡ true
  pub sound : m.whole.halt ≡ None → Sound m
