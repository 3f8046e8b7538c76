use Rattle.std.proofs.Common.{◌≡◌, ◌++◌}
use Rattle.std.specs.Vec.Iter.{into_iter_items}
use Rattle.linux_model.specs.Fits.{NamesFit}
use Rattle.linux_model.specs.Named.{files_named}
use Rattle.plain_kernel.proofs.left.named_files.Given as goal

abbrev pub invariant-loop-entry : goal.invariant-loop-entry
invariant-loop-entry l =
    (goal.iterator-loop-entry).can_next l.entry-iterator
    × (goal.iterator-loop-entry).is_finite l.entry-iterator
    × NamesFit l.files.files (into_iter_items l.entry-iterator)
    × (l.named.items ++ files_named l.files.files (into_iter_items l.entry-iterator) ≡ files_named l.files.files l.files.names)
