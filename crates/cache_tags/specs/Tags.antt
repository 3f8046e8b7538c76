-- Calls of a cache's tags, as functions on its lists.
use Rattle.std.specs.List.{position}
use Rattle.std.specs.Prelude.{◌+◌, ◌*◌, ◌%◌, ◌&&◌, if◌then◌else◌, [], ◌∷◌, ℕ, Bool, List, None, Option, Some, false, length, min, nat_le, nat_lt, replicate, slice_index_or, slice_set, suc, zero, ◌==◌}
use Rattle.lego_base.specs.declared.ids.LineNo.{LineNo}
use Rattle.lego_base.specs.declared.ids.Pid.{Pid}
use Rattle.cache_tags.specs.Lists.{brought, coming, empty_set, is_line, line_at, released}
use Rattle.cache_tags.specs.Sets.{SetLines, Tagged}
use Rattle.cache_tags.specs.declared.set.Held.{Held}
use Rattle.cache_tags.specs.declared.tags.Touch.{Touch}
use Rattle.cache_tags.specs.declared.tags.Touch.TheVariants.{Hit, Miss}
use Rattle.cache_tags.specs.declared.tags.Victim.{Victim}

-- n sets of this many ways, whose slots are numbered one set after the other
abbrev pub empty_sets : ℕ → ℕ → ℕ → List SetLines
empty_sets zero ways first = []
empty_sets (suc n) ways first = empty_set first ways ∷ empty_sets n ways (first + ways)

abbrev pub no_lines : ℕ → ℕ → Tagged
no_lines sets ways = record { sets = empty_sets sets ways 0; dirty = replicate (sets * ways) false }

-- the place of a line's set, and the set
abbrev pub set_place : LineNo → Tagged → ℕ
set_place line t = line.0 % length t.sets

abbrev pub set_of : LineNo → Tagged → SetLines
set_of line t = slice_index_or t.sets (set_place line t) (empty_set 0 0)

abbrev pub with_set : LineNo → SetLines → Tagged → Tagged
with_set line s t = record t { sets = slice_set t.sets (set_place line t) s }

-- where a line is in its set, counted from the newest
abbrev pub place_of : Pid → LineNo → Tagged → Option ℕ
place_of pid line t = position (is_line pid line) (set_of line t).lines

-- the slot of a line, where it is there
abbrev pub slot_at : List Held → Option ℕ → Option ℕ
slot_at lines None = None
slot_at lines (Some place) = Some (line_at lines place).slot

abbrev pub slot_of_line : Pid → LineNo → Tagged → Option ℕ
slot_of_line pid line t = slot_at (set_of line t).lines (place_of pid line t)

-- whether the line in a slot is dirty
abbrev pub is_dirty_slot : ℕ → Tagged → Bool
is_dirty_slot slot t = slice_index_or t.dirty slot false

abbrev pub marked : ℕ → Bool → Tagged → Tagged
marked slot dirty t = record t { dirty = slice_set t.dirty slot dirty }

-- TOUCH: a line that is there is a hit and moves to the front of its set; any other comes in clean
abbrev pub victim_of : Tagged → Option Held → Option Victim
victim_of t None = None
victim_of t (Some h) = Some (record { pid = h.pid; line = h.line; dirty = is_dirty_slot h.slot t })

abbrev pub after_touch : Pid → LineNo → Tagged → Option ℕ → Tagged
after_touch pid line t (Some place) = with_set line (brought place (set_of line t)) t
after_touch pid line t None = marked (coming pid line (set_of line t)).slot false (with_set line (coming pid line (set_of line t)).set t)

abbrev pub answer_to_touch : Pid → LineNo → Tagged → Option ℕ → Touch
answer_to_touch pid line t (Some place) = Hit (line_at (set_of line t).lines place).slot
answer_to_touch pid line t None = Miss (coming pid line (set_of line t)).slot (victim_of t (coming pid line (set_of line t)).leaves)

abbrev pub touched : Pid → LineNo → Tagged → Tagged
touched pid line t = after_touch pid line t (place_of pid line t)

abbrev pub touch_of : Pid → LineNo → Tagged → Touch
touch_of pid line t = answer_to_touch pid line t (place_of pid line t)

-- LOOK-UP: a line that is there moves to the front of its set; where it isn't, nothing changes
abbrev pub after_look_up : LineNo → Tagged → Option ℕ → Tagged
after_look_up line t (Some place) = with_set line (brought place (set_of line t)) t
after_look_up line t None = t

abbrev pub looked_up : Pid → LineNo → Tagged → Tagged
looked_up pid line t = after_look_up line t (place_of pid line t)

-- REMOVAL
abbrev pub after_removal : LineNo → Tagged → Option ℕ → Tagged
after_removal line t (Some place) = with_set line (released place (set_of line t)) t
after_removal line t None = t

abbrev pub removed : Pid → LineNo → Tagged → Tagged
removed pid line t = after_removal line t (place_of pid line t)

-- THE LEAST LINE of a process in a range, its end not included
abbrev pub lower : Option LineNo → Option LineNo → Option LineNo
lower None o = o
lower (Some a) None = Some a
lower (Some a) (Some b) = Some (record { 0 = min a.0 b.0 })

abbrev pub in_range : Pid → LineNo → LineNo → Held → Bool
in_range pid from to h = h.pid.0 == pid.0 && nat_le from.0 h.line.0 && nat_lt h.line.0 to.0

abbrev pub line_in : Pid → LineNo → LineNo → Held → Option LineNo
line_in pid from to h = if in_range pid from to h then Some h.line else None

abbrev pub least_in : Pid → LineNo → LineNo → List Held → Option LineNo
least_in pid from to [] = None
least_in pid from to (h ∷ lines) = lower (line_in pid from to h) (least_in pid from to lines)

abbrev pub least_of : Pid → LineNo → LineNo → List SetLines → Option LineNo
least_of pid from to [] = None
least_of pid from to (s ∷ sets) = lower (least_in pid from to s.lines) (least_of pid from to sets)
