use Rattle.std.proofs.Common.{◌≡◌, drop, map}
use Rattle.linux_model.specs.Processes.{lives}
use Rattle.proc_table.specs.Entries.{process_of}
use Rattle.proc_table.proofs.table.lives.Given as goal

abbrev pub invariant-loop-entry : goal.invariant-loop-entry
invariant-loop-entry l = lives l.pid.0 (map process_of (drop l.entry-index l.entries)) ≡ lives l.pid.0 (map process_of l.entries)
