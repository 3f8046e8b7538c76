-- What the processors and the cluster hold of the plain kernel: the areas, bytes and files of the cluster's plain map, with
-- the lines that caches hold laid over it.
use Rattle.std.specs.Prelude.{◌/◌, ◌%◌, [], ℕ, List, None, Option, Some, slice_get, slice_index}
use Rattle.lego_base.specs.Keys.{key_at}
use Rattle.lego_base.specs.Space.{Space}
use Rattle.lego_base.specs.declared.ids.Pid.{Pid}
use Rattle.area_list.specs.Runs.{joined}
use Rattle.lego_msg.specs.Marks.{Mark}
use Rattle.lego_msg.specs.Plain.{Plain, byte_at}
use Rattle.lego_msg.specs.Track.{Caches, Track}
use Rattle.line_cache.specs.Cached.{Cached}
use Rattle.linux_model.specs.Held.{Held}
use Rattle.placement.specs.Processors.{processor_with}
use Rattle.cluster.specs.Askings.{areas_among}
use Rattle.cluster.specs.Mapping.{entries_in}
use Rattle.cluster.specs.Whole.{track_at}
use Rattle.ex_memory.specs.Kept.{bytes_kept, kept_for}
use Rattle.ex_memory.specs.Split.{Split, plain_of}

-- the bytes of a line in a processor's cache
abbrev pub line_in_cache : Option Cached → ℕ → ℕ → Option (List ℕ)
line_in_cache None pid line = None
line_in_cache (Some c) pid line = bytes_kept (kept_for (key_at pid line) c)

abbrev pub caches_of : List Cached → Caches
caches_of caches = record { line = λ cpu pid line. line_in_cache (slice_get caches cpu) pid line; filled = None }

abbrev pub cpu_of : Split → ℕ → ℕ
cpu_of m pid = processor_with m.whole.shape.processors pid

-- in the cache of the processor of its process
abbrev pub line_held : Split → ℕ → ℕ → Option (List ℕ)
line_held m pid line = line_in_cache (slice_get m.caches (cpu_of m pid)) pid line

abbrev pub byte_in : Option (List ℕ) → Plain → ℕ → ℕ → ℕ
byte_in None f pid address = byte_at f pid address
byte_in (Some line) f pid address = slice_index line (address % 64)

abbrev pub space_of : Split → ℕ → Space
space_of m pid = record {
  areas = joined [] (areas_among (plain_of m.whole) (entries_in (record { 0 = pid }) m.whole.table));
  byte = λ address. byte_in (line_held m pid (address / 64)) (plain_of m.whole) pid address;
}

abbrev pub held_of : Split → Held
held_of m = record {
  space = space_of m;
  files = m.whole.disk.files.files;
  names = m.whole.disk.files.names;
  next = m.whole.disk.files.next;
}

-- its track, with what is still to come
abbrev pub world : Split → List Mark → Track
world m due = track_at m.whole (record { plain = plain_of m.whole; caches = caches_of m.caches; due = due })
