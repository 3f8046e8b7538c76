use Rattle.std.proofs.Common.{◌≡◌, ◌++◌, drop}
use Rattle.lego_msg.specs.Maps.{owned_by}
use Rattle.placement.specs.Owners.{spaces_in}
use Rattle.placement.proofs.entries.spaces_of.Given as goal

abbrev pub invariant-loop-entry : goal.invariant-loop-entry
invariant-loop-entry l = l.spaces ++ spaces_in (owned_by l.memory.0 (drop l.entry-index l.owners)) ≡ spaces_in (owned_by l.memory.0 l.owners)
