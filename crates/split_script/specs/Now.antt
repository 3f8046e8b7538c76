-- What the script of the split run depends on: what the machine holds in the plain kernel, who issues operations, the
-- owners of regions, and which lines the processors' caches hold. The bytes of a line that is there are those of the plain
-- kernel's space.
use Rattle.std.specs.Prelude.{ℕ, ◌/◌, ◌*◌, ◌%◌, ◌==◌, Bool, if◌then◌else◌, List, [], ◌∷◌, Option, Some, None, is_some, length, false}
use Rattle.lego_base.specs.declared.ids.CpuId.{CpuId}
use Rattle.lego_base.specs.declared.ids.LineNo.{LineNo}
use Rattle.lego_base.specs.declared.ids.MemId.{MemId}
use Rattle.lego_base.specs.declared.ids.Pid.{Pid}
use Rattle.lego_base.specs.declared.ids.RegionNo.{RegionNo}
use Rattle.lego_base.specs.declared.records.HomeEntry.{HomeEntry}
use Rattle.lego_base.specs.declared.records.Patch.{Patch}
use Rattle.lego_base.specs.declared.shape.Shape.{Shape}
use Rattle.lego_base.specs.Keys.{Key, key_at, is_of, those}
use Rattle.lego_base.specs.Space.{Space, perms_of, bytes_at, no_space}
use Rattle.lego_msg.specs.declared.place.Place.{Place}
use Rattle.lego_msg.specs.declared.place.Place.TheVariants.{Manager, Processor}
use Rattle.lego_msg.specs.Maps.{home_key, owner_of}
use Rattle.cache_tags.specs.CacheRule.{Past, Tally, no_tally}
use Rattle.cache_tags.specs.Following.{after_past, counted, slot_for}
use Rattle.cache_tags.specs.Sets.{Tagged}
use Rattle.cache_tags.specs.Tags.{no_lines, is_dirty_slot}
use Rattle.placement.specs.Owners.{Owned, no_owners}
use Rattle.placement.specs.Processors.{processor_with}
use Rattle.linux_model.specs.Held.{Held}
use Rattle.split_script.specs.Cuts.{LINE, REGION_LINES, REGION_PAGES}

-- the lines that a processor's cache holds, and its counts
pub record Cache : Type 0 where
  pub lines : Tagged
  pub counts : Tally

pub record Now : Type 0 where
  pub shape : Shape
  pub held : Held
  -- who issues: the processor of the turn's process, or in turn 0 the manager
  pub by : Place
  pub owned : Owned
  -- by number of the processor
  pub caches : ℕ → Cache

-- before turn 0
abbrev pub empty_cache : Shape → Cache
empty_cache shape = record { lines = no_lines shape.sets shape.ways; counts = no_tally }

abbrev pub at_start : Shape → Now
at_start shape = record {
  shape = shape;
  held = record { space = λ pid. no_space; files = []; names = []; next = 0 };
  by = Manager;
  owned = no_owners (length shape.frames) shape.placement;
  caches = λ cpu. empty_cache shape;
}

-- ---- numbers with their types

abbrev pub pid_no : ℕ → Pid
pid_no pid = record { 0 = pid }

abbrev pub line_no : ℕ → LineNo
line_no line = record { 0 = line }

abbrev pub region_no : ℕ → RegionNo
region_no region = record { 0 = region }

abbrev pub mem_no : ℕ → MemId
mem_no number = record { 0 = number }

-- ---- processors

-- the processor of a process, its lines, and whether one is there
abbrev pub cpu_of : Now → ℕ → ℕ
cpu_of n pid = processor_with n.shape.processors pid

abbrev pub cpu_no : Now → ℕ → CpuId
cpu_no n pid = record { 0 = cpu_of n pid }

abbrev pub issuer : Now → ℕ → Place
issuer n pid = Processor (cpu_no n pid)

abbrev pub lines_for : Now → ℕ → Tagged
lines_for n pid = (n.caches (cpu_of n pid)).lines

-- the line of a process at an address
abbrev pub line_at : ℕ → ℕ → Key
line_at pid address = key_at pid (address / LINE)

abbrev pub is_there : Now → Key → Bool
is_there n x = is_some (slot_for x (lines_for n x.pid))

abbrev pub is_dirty_at : Option ℕ → Tagged → Bool
is_dirty_at None t = false
is_dirty_at (Some slot) t = is_dirty_slot slot t

abbrev pub is_dirty : Now → Key → Bool
is_dirty n x = is_dirty_at (slot_for x (lines_for n x.pid)) (lines_for n x.pid)

-- what happens to a line of a process changes the cache of its processor
abbrev pub cache_after : Past → Cache → Cache
cache_after e c = record { lines = after_past e c.lines; counts = counted e c.lines c.counts }

abbrev pub with_past : ℕ → Past → Now → Now
with_past pid e n = record n { caches = λ cpu. if cpu == cpu_of n pid then cache_after e (n.caches cpu) else n.caches cpu }

abbrev pub with_pasts : ℕ → List Past → Now → Now
with_pasts pid [] n = n
with_pasts pid (e ∷ es) n = with_pasts pid es (with_past pid e n)

-- ---- the space of a process

abbrev pub space_of : Now → ℕ → Space
space_of n pid = n.held.space pid

-- whether an area has the page of a line
abbrev pub is_mapped : Now → Key → Bool
is_mapped n x = is_some (perms_of (space_of n x.pid).areas (x.number / 64))

-- the line as it is, whole
abbrev pub line_patch : Now → Key → Patch
line_patch n x = record {
  pid = pid_no x.pid;
  vpn = record { 0 = x.number / 64 };
  off = x.number % 64 * 64;
  bytes = bytes_at (space_of n x.pid) (x.number * 64) 64;
}

-- ---- owners

abbrev pub owners : Now → List HomeEntry
owners n = n.owned.owners

-- the owner of the region of a line
abbrev pub line_owner : Now → Key → Option MemId
line_owner n x = owner_of (owners n) x.pid (x.number / REGION_LINES)

abbrev pub page_owner : Now → ℕ → ℕ → Option MemId
page_owner n pid page = owner_of (owners n) pid (page / REGION_PAGES)

-- the regions of a process that have an owner, in rising order
abbrev pub owned_of : Now → ℕ → List HomeEntry
owned_of n pid = those home_key (is_of pid) (owners n)
