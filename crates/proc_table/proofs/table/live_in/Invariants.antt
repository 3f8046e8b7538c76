use Rattle.std.proofs.Common.{◌≡◌, ◌+◌, ◌≤◌, drop, filter, length, map}
use Rattle.linux_model.specs.Processes.{is_live}
use Rattle.proc_table.specs.Entries.{process_of}
use Rattle.proc_table.proofs.table.live_in.Given as goal

abbrev pub invariant-loop-entry : goal.invariant-loop-entry
invariant-loop-entry l = (l.live + length (filter (λ p. is_live p.state) (map process_of (drop l.entry-index l.entries))) ≡ length (filter (λ p. is_live p.state) (map process_of l.entries))) × (l.live ≤ l.entry-index)
