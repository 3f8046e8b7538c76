-- The counts of a cache, each modulo 2^64.
use Rattle.std.specs.Prelude.{◌+◌, ◌%◌, ◌^◌, if◌then◌else◌, ℕ, None, Option, Some}
use Rattle.cache_tags.specs.CacheRule.{Tally}
use Rattle.cache_tags.specs.declared.tags.Touch.{Touch}
use Rattle.cache_tags.specs.declared.tags.Touch.TheVariants.{Hit, Miss}
use Rattle.cache_tags.specs.declared.tags.Victim.{Victim}
use Rattle.lego_base.specs.declared.report.Counts.{Counts}

abbrev pub tally_of : Counts → Tally
tally_of c = record { hits = c.hits; misses = c.misses; evictions = c.evictions; writebacks = c.writebacks }

-- what 64 bits keep of plain counts
abbrev pub in_64_bits : Tally → Tally
in_64_bits n = record { hits = n.hits % 2 ^ 64; misses = n.misses % 2 ^ 64; evictions = n.evictions % 2 ^ 64; writebacks = n.writebacks % 2 ^ 64 }

abbrev pub one_more : ℕ → ℕ
one_more n = (n + 1) % 2 ^ 64

abbrev pub with_hit : Tally → Tally
with_hit n = record n { hits = one_more n.hits }

abbrev pub with_miss : Tally → Tally
with_miss n = record n { misses = one_more n.misses }

abbrev pub with_writeback : Tally → Tally
with_writeback n = record n { writebacks = one_more n.writebacks }

-- a victim is evicted, and written back where it is dirty
abbrev pub with_victim : Option Victim → Tally → Tally
with_victim None n = n
with_victim (Some v) n = record n { evictions = one_more n.evictions; writebacks = if v.dirty then one_more n.writebacks else n.writebacks }

abbrev pub with_touch : Touch → Tally → Tally
with_touch (Hit slot) n = with_hit n
with_touch (Miss slot victim) n = with_victim victim (with_miss n)
