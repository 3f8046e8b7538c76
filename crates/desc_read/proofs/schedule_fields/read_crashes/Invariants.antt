use Rattle.std.proofs.Common.{◌≡◌, [], map, drop, length}
use Rattle.serde_json.specs.View.{view}
use Rattle.desc_read.specs.declared.place.EntryList.TheVariants.{Crashes}
use Rattle.desc_read.specs.Objects.{entries, entry_after}
use Rattle.desc_read.specs.Plans.{crash_of, turn_after}
use Rattle.desc_read.proofs.schedule_fields.read_crashes.Given as goal

abbrev pub invariant-loop-index : goal.invariant-loop-index
invariant-loop-index l =
    (entries (λ before e. crash_of (entry_after Crashes before) e (turn_after before) l.max_turns l.last_memory) [] (map view l.values)
    ≡ entries (λ before e. crash_of (entry_after Crashes before) e (turn_after before) l.max_turns l.last_memory) l.crashes.items (map view (drop l.index l.values)))
    × (l.least_turn ≡ turn_after l.crashes.items)
    × (length l.crashes.items ≡ l.index)
