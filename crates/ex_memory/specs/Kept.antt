-- What a cache keeps of a line, and how that changes: the lists and slots of `line_cache`, seen as a map from lines.
use Rattle.std.specs.Prelude.{◌≡◌, ◌*◌, ◌≤◌, ◌<◌, ◌&&◌, if◌then◌else◌, ℕ, Bool, List, None, Option, Some, false, is_some, length, true}
use Rattle.lego_base.specs.Keys.{Key, same_key}
use Rattle.cache_tags.specs.CacheRule.{Past, Size}
use Rattle.cache_tags.specs.Following.{lists_after, slot_for, touch_for, victim_in}
use Rattle.line_cache.specs.Cached.{Cached, line_in, with_bytes}
use Rattle.line_cache.specs.declared.line.Line.{Line}
use Rattle.split_script.specs.Now.{is_dirty_at}

abbrev pub kept_at : Cached → Option ℕ → Option Line
kept_at c None = None
kept_at c (Some slot) = Some (line_in slot c)

abbrev pub kept_for : Key → Cached → Option Line
kept_for x c = kept_at c (slot_for x c.tags)

abbrev pub is_dirty_for : Key → Cached → Bool
is_dirty_for x c = is_dirty_at (slot_for x c.tags) c.tags

abbrev pub bytes_kept : Option Line → Option (List ℕ)
bytes_kept None = None
bytes_kept (Some line) = Some line.bytes

-- its lists are those after some past of a cache of sets and ways, and each slot has room
pub record Tidy (c : Cached) : Type 0 where
  pub size : Size
  pub sets : 0 < size.sets
  pub ways : 0 < size.ways
  pub past : List Past
  pub lists : c.tags ≡ lists_after size past
  pub room : size.sets * size.ways ≤ length c.lines

-- ONE LINE BECOMES ANOTHER, or is kept no more; all other lines stay
abbrev pub if_same : {A : Type 0} → Key → Key → A → A → A
if_same x y this other = if same_key x y then this else other

pub record Becomes (x : Key) (line : Option Line) (dirty : Bool) (old new : Cached) : Type 0 where
  pub lines : (y : Key) → kept_for y new ≡ if_same x y line (kept_for y old)
  pub dirt : (y : Key) → is_dirty_for y new ≡ if_same x y dirty (is_dirty_for y old)

-- a line comes in clean, and the victim of its touch leaves
abbrev pub is_victim : Option Key → Key → Bool
is_victim None y = false
is_victim (Some v) y = same_key v y

pub record ComesIn (x : Key) (line : Line) (left : Option Key) (old new : Cached) : Type 0 where
  pub lines : (y : Key) → kept_for y new ≡ if_same x y (Some line) (if is_victim left y then None else kept_for y old)
  pub dirt : (y : Key) → is_dirty_for y new ≡ if_same x y false (if is_victim left y then false else is_dirty_for y old)

-- the same lines are there, as dirty as they were
pub record SameLines (old new : Cached) : Type 0 where
  pub lines : (y : Key) → kept_for y new ≡ kept_for y old
  pub dirt : (y : Key) → is_dirty_for y new ≡ is_dirty_for y old
