use Rattle.std.proofs.Common.{◌≡◌, [], map, drop, length}
use Rattle.serde_json.specs.View.{view}
use Rattle.desc_read.specs.declared.place.EntryList.TheVariants.{Files}
use Rattle.desc_read.specs.Objects.{entries, entry_after}
use Rattle.desc_read.specs.Plans.{file_of}
use Rattle.desc_read.proofs.program_fields.read_files.Given as goal

abbrev pub invariant-loop-index : goal.invariant-loop-index
invariant-loop-index l =
    (entries (λ before e. file_of (entry_after Files before) e before) [] (map view l.values)
    ≡ entries (λ before e. file_of (entry_after Files before) e before) l.files.items (map view (drop l.index l.values)))
    × (length l.files.items ≡ l.index)
