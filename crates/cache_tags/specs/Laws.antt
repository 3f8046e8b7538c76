-- What a reader may ask of the caches' rule.
use Rattle.std.specs.Prelude.{◌≡◌, ◌<◌, [], ◌∷◌, ◌++◌, List, Some, false, is_some, true, ℕ}
use Rattle.cache_tags.specs.CacheRule.{Past, Removed, Size, Touched, is_dirty, is_hit, is_there, no_tally, tally, victim}
use Rattle.cache_tags.specs.Following.{counted_along, is_hit_answer, lists_after, slot_for, touch_for, victim_in}
use Rattle.cache_tags.specs.Tags.{is_dirty_slot, no_lines}
use Rattle.lego_base.specs.Keys.{Key}

-- A line that was just touched is there; one that was just removed isn't.
abbrev pub TouchedIsThere : Type 0
TouchedIsThere = (c : Size) (past : List Past) (x : Key) → 0 < c.ways → is_there c (past ++ Touched x ∷ []) x ≡ true

abbrev pub RemovedIsGone : Type 0
RemovedIsGone = (c : Size) (past : List Past) (x : Key) → is_there c (past ++ Removed x ∷ []) x ≡ false

-- The lists follow the rule. After every past a line has a slot just where it is there; a touch of it is a hit just where
-- the rule says so, and its victim is that of the rule; a line that is there is marked dirty just where it is dirty; and the
-- answers count what the rule counts.
pub record FollowsTheRule (c : Size) (past : List Past) (x : Key) : Type 0 where
  pub presence : is_some (slot_for x (lists_after c past)) ≡ is_there c past x
  pub hits : is_hit_answer (touch_for x (lists_after c past)) ≡ is_hit c past x
  pub victims : victim_in (touch_for x (lists_after c past)) ≡ victim c past x
  pub dirtiness : (slot : ℕ) → slot_for x (lists_after c past) ≡ Some slot → is_dirty_slot slot (lists_after c past) ≡ is_dirty c past x
  pub counts : counted_along past (no_lines c.sets c.ways) no_tally ≡ tally c past

abbrev pub ListsFollowTheRule : Type 0
ListsFollowTheRule = (c : Size) (past : List Past) (x : Key) → 0 < c.sets → 0 < c.ways → FollowsTheRule c past x
