use Rattle.std.proofs.Common.{◌≡◌, drop}
use Rattle.linux_model.specs.Processes.{has_file}
use Rattle.manager.proofs.descs.has_file_in.Given as goal

abbrev pub invariant-loop-slot : goal.invariant-loop-slot
invariant-loop-slot l = has_file l.file.0 (drop l.slot-index l.slots) ≡ has_file l.file.0 l.slots
