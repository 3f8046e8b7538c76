use Rattle.std.proofs.Common.{◌≡◌, drop}
use Rattle.proc_table.specs.Found.{children, later}
use Rattle.proc_table.proofs.table.child_in.Given as goal

abbrev pub invariant-loop-entry : goal.invariant-loop-entry
invariant-loop-entry l = later l.found (children l.parent.0 l.want (drop l.entry-index l.entries)) ≡ children l.parent.0 l.want l.entries
