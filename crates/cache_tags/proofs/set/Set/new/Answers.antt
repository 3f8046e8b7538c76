use Rattle.std.proofs.Common.{[], ◌∙◌, List, ap, map, ℕ}
use Rattle.std.specs.List.{range_with_len}
use Rattle.cache_tags.specs.Sets.{SetLines, slot_of}
use Rattle.cache_tags.specs.declared.set.Held.{Held}
use Rattle.cache_tags.proofs.Made.{free_slots}
use Rattle.cache_tags.proofs.set.Set.new.Goals as goal

abbrev all_free : List ℕ → SetLines
all_free free = record { lines = []; free = free }

pub returns : goal.returns
returns c = ap (λ (es : List Held). all_free (map slot_of es)) c.in_ok-entries.ensures ∙ ap all_free (free_slots (range_with_len c.args.first c.args.ways))
