use Rattle.std.proofs.Common.{◌≡◌, ◌++◌, drop}
use Rattle.lego_base.specs.Keys.{is_of, those}
use Rattle.lego_msg.specs.Maps.{home_key}
use Rattle.placement.proofs.entries.process_entries.Given as goal

abbrev pub invariant-loop-entry : goal.invariant-loop-entry
invariant-loop-entry l = l.entries ++ those home_key (is_of l.pid.0) (drop l.entry-index l.owners) ≡ those home_key (is_of l.pid.0) l.owners
