-- What contracts see of a processor's cache, and its calls as functions on that.
use Rattle.std.specs.Prelude.{◌*◌, ℕ, List, None, Option, Some, false, replicate, slice_index_or, slice_set, true}
use Rattle.cache_tags.specs.CacheRule.{Tally, no_tally}
use Rattle.cache_tags.specs.Sets.{Tagged}
use Rattle.cache_tags.specs.Tags.{marked, no_lines, slot_of_line, touch_of, touched}
use Rattle.cache_tags.specs.Tags as tags
use Rattle.cache_tags.specs.declared.tags.Touch.{Touch}
use Rattle.cache_tags.specs.declared.tags.Touch.TheVariants.{Hit, Miss}
use Rattle.lego_base.specs.Pieces.{laid_over, zeros}
use Rattle.lego_base.specs.declared.ids.LineNo.{LineNo}
use Rattle.lego_base.specs.declared.ids.Pid.{Pid}
use Rattle.line_cache.specs.Counting.{with_hit, with_touch, with_writeback}
use Rattle.line_cache.specs.declared.line.Line.{Line}

-- which lines are where and which are dirty, by slot what is kept of them, and the counts
pub record Cached : Type 0 where
  pub tags : Tagged
  pub lines : List Line
  pub counts : Tally

-- a slot in which no line has been
abbrev pub no_line : Line
no_line = record { bytes = zeros 64; owner = record { 0 = 0 }; perms = record { 0 = 0 } }

abbrev pub empty_cache : ℕ → ℕ → Cached
empty_cache sets ways = record { tags = no_lines sets ways; lines = replicate (sets * ways) no_line; counts = no_tally }

-- what is kept in a slot
abbrev pub line_in : ℕ → Cached → Line
line_in slot c = slice_index_or c.lines slot no_line

-- LOOK-UP: a line that is there is the newest of its set then, and a hit is counted
abbrev pub counted_if : Option ℕ → Tally → Tally
counted_if None n = n
counted_if (Some slot) n = with_hit n

abbrev pub looked_up : Pid → LineNo → Cached → Cached
looked_up pid line c = record c { tags = tags.looked_up pid line c.tags; counts = counted_if (slot_of_line pid line c.tags) c.counts }

-- COMING IN: the line is touched, and what is kept of it goes into its slot
abbrev pub slot_of_touch : Touch → ℕ
slot_of_touch (Hit slot) = slot
slot_of_touch (Miss slot victim) = slot

abbrev pub came_in : Pid → LineNo → Line → Cached → Cached
came_in pid line kept c = record {
  tags = touched pid line c.tags;
  lines = slice_set c.lines (slot_of_touch (touch_of pid line c.tags)) kept;
  counts = with_touch (touch_of pid line c.tags) c.counts;
}

-- WRITES within the line of a slot, which is dirty then
abbrev pub with_bytes : ℕ → List ℕ → Line → Line
with_bytes off bytes line = record line { bytes = laid_over line.bytes off bytes }

abbrev pub written : ℕ → ℕ → List ℕ → Cached → Cached
written slot off bytes c = record c { tags = marked slot true c.tags; lines = slice_set c.lines slot (with_bytes off bytes (line_in slot c)) }

-- the line of a slot was written back and stays
abbrev pub cleaned : ℕ → Cached → Cached
cleaned slot c = record c { tags = marked slot false c.tags; counts = with_writeback c.counts }

abbrev pub removed : Pid → LineNo → Cached → Cached
removed pid line c = record c { tags = tags.removed pid line c.tags }
