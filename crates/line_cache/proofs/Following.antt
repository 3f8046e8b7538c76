-- Calls of a cache against the caches' rule.
use Rattle.std.proofs.Common.{◌≡◌, ◌+◌, ◌%◌, ◌^◌, ◌∙◌, ℕ, Bool, None, Option, Some, ap, arith, cond, false, refl, sym, true}
use Rattle.cache_tags.specs.CacheRule.{Tally}
use Rattle.cache_tags.specs.Following.{counted_touch, line_of, marked_where, pid_of, slot_for, touch_for}
use Rattle.cache_tags.specs.Sets.{Tagged}
use Rattle.cache_tags.specs.Tags.{after_look_up, after_touch, answer_to_touch, looked_up, place_of, set_of, slot_at, slot_of_line, touched}
use Rattle.cache_tags.specs.declared.tags.Touch.{Touch}
use Rattle.cache_tags.specs.declared.tags.Touch.TheVariants.{Hit, Miss}
use Rattle.lego_base.specs.declared.ids.LineNo.{LineNo}
use Rattle.lego_base.specs.declared.ids.Pid.{Pid}
use Rattle.line_cache.specs.Cached.{Cached, cleaned, counted_if, written}
use Rattle.line_cache.specs.Cached as calls
use Rattle.line_cache.specs.Counting.{in_64_bits, one_more, with_hit, with_touch, with_writeback}
use Rattle.line_cache.specs.Laws.{CallsFollowTheRule}

-- COUNTS

one_is : (n : ℕ) → one_more (n % 2 ^ 64) ≡ (n + 1) % 2 ^ 64
one_is n = omega arith

one_if : (b : Bool) (n : ℕ) → cond b (one_more (n % 2 ^ 64)) (n % 2 ^ 64) ≡ cond b (n + 1) n % 2 ^ 64
one_if true n = one_is n
one_if false n = refl

hit_is : (n : Tally) → with_hit (in_64_bits n) ≡ in_64_bits (record n { hits = n.hits + 1 })
hit_is n = λ i. record (in_64_bits n) { hits = one_is n.hits i }

writeback_is : (n : Tally) → with_writeback (in_64_bits n) ≡ in_64_bits (record n { writebacks = n.writebacks + 1 })
writeback_is n = λ i. record (in_64_bits n) { writebacks = one_is n.writebacks i }

touch_is : (t : Touch) (n : Tally) → with_touch t (in_64_bits n) ≡ in_64_bits (counted_touch t n)
touch_is (Hit slot) n = hit_is n
touch_is (Miss slot None) n = λ i. record (in_64_bits n) { misses = one_is n.misses i }
touch_is (Miss slot (Some v)) n = λ i. record (in_64_bits n) { misses = one_is n.misses i; evictions = one_is n.evictions i; writebacks = one_if v.dirty n.writebacks i }

-- A LOOK-UP

hit_tags : (pid : Pid) (line : LineNo) (t : Tagged) (slot : ℕ) → slot_of_line pid line t ≡ Some slot → looked_up pid line t ≡ touched pid line t
hit_tags pid line t slot = by (place_of pid line t)
  where
    by : (o : Option ℕ) → slot_at (set_of line t).lines o ≡ Some slot → after_look_up line t o ≡ after_touch pid line t o
    by None e = cc e
    by (Some p) e = refl

hit_counts : (pid : Pid) (line : LineNo) (t : Tagged) (slot : ℕ) (n : Tally) → slot_of_line pid line t ≡ Some slot → counted_if (slot_of_line pid line t) (in_64_bits n) ≡ in_64_bits (counted_touch (answer_to_touch pid line t (place_of pid line t)) n)
hit_counts pid line t slot n = by (place_of pid line t)
  where
    by : (o : Option ℕ) → slot_at (set_of line t).lines o ≡ Some slot → counted_if (slot_at (set_of line t).lines o) (in_64_bits n) ≡ in_64_bits (counted_touch (answer_to_touch pid line t o) n)
    by None e = cc e
    by (Some p) e = hit_is n

absent : (pid : Pid) (line : LineNo) (c : Cached) → slot_of_line pid line c.tags ≡ None → calls.looked_up pid line c ≡ c
absent pid line c = by (place_of pid line c.tags)
  where
    by : (o : Option ℕ) → slot_at (set_of line c.tags).lines o ≡ None → ◌≡◌ {A = Cached} (record c { tags = after_look_up line c.tags o; counts = counted_if (slot_at (set_of line c.tags).lines o) c.counts }) c
    by None e = refl
    by (Some p) e = cc e

-- CALLS

pub calls-follow : CallsFollowTheRule
calls-follow x c n start = record {
  a_hit = λ slot e. record {
    tags = hit_tags (pid_of x) (line_of x) c.tags slot e;
    counts = ap (counted_if (slot_for x c.tags)) start ∙ hit_counts (pid_of x) (line_of x) c.tags slot n e;
  };
  absent = λ e. absent (pid_of x) (line_of x) c e;
  a_touch = λ line. record {
    tags = refl;
    counts = ap (with_touch (touch_for x c.tags)) start ∙ touch_is (touch_for x c.tags) n;
  };
  a_store = λ slot off bytes e. record {
    tags = ap (λ (o : Option ℕ). marked_where true o c.tags) (sym e);
    counts = start;
  };
  a_write_back = λ slot e. record {
    tags = ap (λ (o : Option ℕ). marked_where false o c.tags) (sym e);
    counts = ap with_writeback start ∙ writeback_is n;
  };
  a_removal = record { tags = refl; counts = start };
}
