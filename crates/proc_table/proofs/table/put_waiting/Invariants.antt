use Rattle.std.proofs.Common.{◌≡◌, ◌++◌, drop, take, map}
use Rattle.proc_table.specs.Changes.{after_waiting}
use Rattle.proc_table.specs.Entries.{process_of}
use Rattle.proc_table.proofs.table.put_waiting.Given as goal

abbrev pub invariant-loop-entry : goal.invariant-loop-entry
invariant-loop-entry l = map process_of l.entries ≡ map (after_waiting l.pid.0 l.waiting) (take l.entry-index (map process_of l.initial.entries)) ++ drop l.entry-index (map process_of l.initial.entries)
