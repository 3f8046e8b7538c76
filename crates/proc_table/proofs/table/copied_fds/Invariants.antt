use Rattle.std.proofs.Common.{◌≡◌, drop, map}
use Rattle.linux_model.specs.Processes.{process}
use Rattle.proc_table.specs.Entries.{process_of}
use Rattle.proc_table.proofs.table.copied_fds.Given as goal

abbrev pub invariant-loop-entry : goal.invariant-loop-entry
invariant-loop-entry l = process (map process_of (drop l.entry-index l.entries)) l.pid.0 ≡ process (map process_of l.entries) l.pid.0
