use Rattle.std.proofs.Common.{◌≡◌, ◌-◌, ◌++◌, replicate}
use Rattle.line_cache.specs.Cached.{empty_cache}
use Rattle.ex_memory.proofs.memory.empty_caches.Given as goal

-- those that are there, with those that are left, are all of them
abbrev pub invariant-loop : goal.invariant-loop
invariant-loop l = l.caches.items ++ replicate (l.processors - l.counter) (empty_cache l.sets l.ways) ≡ replicate l.processors (empty_cache l.sets l.ways)
