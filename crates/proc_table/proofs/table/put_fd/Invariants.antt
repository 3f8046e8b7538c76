use Rattle.std.proofs.Common.{◌≡◌, ◌++◌, drop, take, map}
use Rattle.proc_table.specs.Changes.{after_fd}
use Rattle.proc_table.specs.Entries.{process_of}
use Rattle.proc_table.proofs.table.put_fd.Given as goal

abbrev pub invariant-loop-entry : goal.invariant-loop-entry
invariant-loop-entry l = map process_of l.entries ≡ map (after_fd l.pid.0 l.fd l.slot) (take l.entry-index (map process_of l.initial.entries)) ++ drop l.entry-index (map process_of l.initial.entries)
