use Rattle.std.proofs.Common.{◌≡◌, ◌++◌, drop, take, map}
use Rattle.proc_table.specs.Changes.{after_one}
use Rattle.proc_table.specs.Entries.{process_of}
use Rattle.proc_table.proofs.table.mourn.Given as goal

abbrev pub invariant-loop-entry : goal.invariant-loop-entry
invariant-loop-entry l = map process_of l.entries ≡ map (after_one l.dead.0 l.status l.heir.0) (take l.entry-index (map process_of l.initial.entries)) ++ drop l.entry-index (map process_of l.initial.entries)
