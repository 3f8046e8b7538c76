use Rattle.std.proofs.Common.{◌≡◌, ◌++◌, drop}
use Rattle.lego_msg.specs.Maps.{owned_by}
use Rattle.cluster.specs.Copying.{regions_in}
use Rattle.cluster.proofs.copies.regions_owned.Given as goal

abbrev pub invariant-loop-entry : goal.invariant-loop-entry
invariant-loop-entry l = l.regions ++ regions_in (owned_by l.owner (drop l.entry-index l.entries)) ≡ regions_in (owned_by l.owner l.entries)
