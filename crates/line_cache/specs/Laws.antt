-- What a reader may ask of a processor's cache.
use Rattle.std.specs.Prelude.{◌≡◌, ℕ, List, None, Some}
use Rattle.cache_tags.specs.CacheRule.{Cleaned, Past, Removed, Stored, Tally, Touched}
use Rattle.cache_tags.specs.Following.{after_past, counted, line_of, pid_of, slot_for}
use Rattle.lego_base.specs.Keys.{Key}
use Rattle.line_cache.specs.Cached.{Cached, came_in, cleaned, looked_up, removed, written}
use Rattle.line_cache.specs.Counting.{in_64_bits}
use Rattle.line_cache.specs.declared.line.Line.{Line}

-- a cache is another one after something happened to a line: its lists are those after it, and its counts are what 64 bits
-- keep of the plain counts after it
pub record IsAfter (e : Past) (n : Tally) (old new : Cached) : Type 0 where
  pub tags : new.tags ≡ after_past e old.tags
  pub counts : new.counts ≡ in_64_bits (counted e old.tags n)

-- Each call is what the caches' rule says of a line, whose slot this is where it is there.
pub record FollowsTheRule (x : Key) (c : Cached) (n : Tally) : Type 0 where
  pub a_hit : (slot : ℕ) → slot_for x c.tags ≡ Some slot → IsAfter (Touched x) n c (looked_up (pid_of x) (line_of x) c)
  pub absent : slot_for x c.tags ≡ None → looked_up (pid_of x) (line_of x) c ≡ c
  pub a_touch : (line : Line) → IsAfter (Touched x) n c (came_in (pid_of x) (line_of x) line c)
  pub a_store : (slot off : ℕ) (bytes : List ℕ) → slot_for x c.tags ≡ Some slot → IsAfter (Stored x) n c (written slot off bytes c)
  pub a_write_back : (slot : ℕ) → slot_for x c.tags ≡ Some slot → IsAfter (Cleaned x) n c (cleaned slot c)
  pub a_removal : IsAfter (Removed x) n c (removed (pid_of x) (line_of x) c)

abbrev pub CallsFollowTheRule : Type 0
CallsFollowTheRule = (x : Key) (c : Cached) (n : Tally) → c.counts ≡ in_64_bits n → FollowsTheRule x c n
