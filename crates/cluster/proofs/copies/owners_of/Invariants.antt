use Rattle.std.proofs.Common.{◌≡◌, ◌-◌, ◌++◌}
use Rattle.cluster.specs.Copying.{owners_from}
use Rattle.cluster.proofs.copies.owners_of.Given as goal

abbrev pub invariant-loop-number : goal.invariant-loop-number
invariant-loop-number l = l.owners ++ owners_from (l.memories - l.number) l.number l.entries ≡ owners_from l.memories 0 l.entries
