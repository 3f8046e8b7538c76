-- What the lists are after a past, and what they say of a line.
use Rattle.std.specs.Prelude.{◌+◌, if◌then◌else◌, [], ◌∷◌, Bool, List, None, Option, Some, false, true, ℕ}
use Rattle.lego_base.specs.Keys.{Key, key_at}
use Rattle.lego_base.specs.declared.ids.LineNo.{LineNo}
use Rattle.lego_base.specs.declared.ids.Pid.{Pid}
use Rattle.cache_tags.specs.CacheRule.{Cleaned, Past, Removed, Size, Stored, Tally, Touched}
use Rattle.cache_tags.specs.Sets.{Tagged}
use Rattle.cache_tags.specs.Tags.{marked, no_lines, removed, slot_of_line, touch_of, touched}
use Rattle.cache_tags.specs.declared.set.Held.{Held}
use Rattle.cache_tags.specs.declared.tags.Touch.{Touch}
use Rattle.cache_tags.specs.declared.tags.Touch.TheVariants.{Hit, Miss}
use Rattle.cache_tags.specs.declared.tags.Victim.{Victim}

abbrev pub pid_of : Key → Pid
pid_of x = record { 0 = x.pid }

abbrev pub line_of : Key → LineNo
line_of x = record { 0 = x.number }

abbrev pub held_key : Held → Key
held_key h = key_at h.pid.0 h.line.0

-- the slot of a line, where it is there
abbrev pub slot_for : Key → Tagged → Option ℕ
slot_for x t = slot_of_line (pid_of x) (line_of x) t

abbrev pub marked_where : Bool → Option ℕ → Tagged → Tagged
marked_where dirty None t = t
marked_where dirty (Some slot) t = marked slot dirty t

-- the lists after one more thing happened: a store marks its line as dirty, a write-back as clean
abbrev pub after_past : Past → Tagged → Tagged
after_past (Touched x) t = touched (pid_of x) (line_of x) t
after_past (Removed x) t = removed (pid_of x) (line_of x) t
after_past (Stored x) t = marked_where true (slot_for x t) t
after_past (Cleaned x) t = marked_where false (slot_for x t) t

abbrev pub along : List Past → Tagged → Tagged
along [] t = t
along (e ∷ past) t = along past (after_past e t)

-- the lists of an empty cache after a past
abbrev pub lists_after : Size → List Past → Tagged
lists_after c past = along past (no_lines c.sets c.ways)

-- the line that a touch made leave
abbrev pub victim_key : Option Victim → Option Key
victim_key None = None
victim_key (Some v) = Some (key_at v.pid.0 v.line.0)

abbrev pub victim_in : Touch → Option Key
victim_in (Hit slot) = None
victim_in (Miss slot victim) = victim_key victim

abbrev pub is_hit_answer : Touch → Bool
is_hit_answer (Hit slot) = true
is_hit_answer (Miss slot victim) = false

abbrev pub touch_for : Key → Tagged → Touch
touch_for x t = touch_of (pid_of x) (line_of x) t

-- COUNTS by the answers to touches, and by marks
abbrev pub counted_victim : Option Victim → Tally → Tally
counted_victim None n = n
counted_victim (Some v) n = record n { evictions = n.evictions + 1; writebacks = if v.dirty then n.writebacks + 1 else n.writebacks }

abbrev pub counted_touch : Touch → Tally → Tally
counted_touch (Hit slot) n = record n { hits = n.hits + 1 }
counted_touch (Miss slot victim) n = counted_victim victim (record n { misses = n.misses + 1 })

abbrev pub counted : Past → Tagged → Tally → Tally
counted (Touched x) t n = counted_touch (touch_for x t) n
counted (Removed x) t n = n
counted (Stored x) t n = n
counted (Cleaned x) t n = record n { writebacks = n.writebacks + 1 }

abbrev pub counted_along : List Past → Tagged → Tally → Tally
counted_along [] t n = n
counted_along (e ∷ past) t n = counted_along past (after_past e t) (counted e t n)
