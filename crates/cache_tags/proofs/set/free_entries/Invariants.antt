use Rattle.std.proofs.Common.{◌≡◌, map}
use Rattle.std.specs.List.{range_with_len}
use Rattle.cache_tags.specs.Lists.{free_entry}
use Rattle.cache_tags.proofs.set.free_entries.Given as goal

abbrev pub invariant-loop-way : goal.invariant-loop-way
invariant-loop-way l = l.entries.items ≡ map free_entry (range_with_len l.first l.way)
